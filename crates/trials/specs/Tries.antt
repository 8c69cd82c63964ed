-- A ticket that is taken from one readout and brought to the same or to another. Assumes nothing.
use Rattle.std.specs.Prelude.{ℕ, Option}
use Rattle.std.specs.Option.{option_map, option_or}
use Rattle.denials.specs.declared.Denial.{Denial}
use Rattle.denials.specs.Told.{told}
use Rattle.readout.specs.declared.tickets.Returned.{Returned}
use Rattle.readout.specs.declared.tickets.Ticket.{Ticket}
use Rattle.readout.specs.Calls.{take_denied, taken, answer_denied, answered, withdraw_denied, withdrawn}
use Rattle.readout.specs.Tickets.{ticket_of}
use Rattle.readout.specs.Views.{View}
use Rattle.trials.specs.declared.tries.Purpose.{Purpose}
use Rattle.trials.specs.declared.tries.Purpose.TheVariants.{Answer, Withdraw}

-- a denial's number
abbrev pub number : Denial → ℕ
number d = (told d).0

-- the number of a denial with which a ticket came back
abbrev pub number_back : Returned → ℕ
number_back r = number r.denial

-- what stands in the way of a ticket brought to v
abbrev pub bring_denied : View → Ticket → Purpose → Option Returned
bring_denied v t (Answer y) = answer_denied v t y
bring_denied v t Withdraw = withdraw_denied v t

-- the view after a ticket for x was brought
abbrev pub brought : View → ℕ → Purpose → View
brought v x (Answer y) = answered v x y
brought v x Withdraw = withdrawn v

-- the number of what stands in the way of a ticket for x, taken from v and brought to w
abbrev pub try_denied : View → ℕ → View → Purpose → Option ℕ
try_denied v x w p = option_or (option_map number (take_denied v x)) (option_map number_back (bring_denied w (ticket_of v.mark x) p))

-- the same where a ticket for y is taken from w first
abbrev pub cross_denied : View → ℕ → View → ℕ → Purpose → Option ℕ
cross_denied v x w y p = option_or (option_map number (take_denied w y)) (try_denied v x (taken w y) p)
