-- The calls of a readout: the checks of each in their order, and what it does where none fails. Assumes nothing.
use Rattle.std.specs.Prelude.{ℕ, ◌+◌, ◌-◌, Bool, true, false, not, ◌||◌, List, [], ◌∷◌, length, is_some, Some, None, Ok, Err, Option, Result, ◌==◌, nat_le, nat_lt}
use Rattle.denials.specs.Bounds.{bad_span, bad_budget}
use Rattle.denials.specs.Checks.{first}
use Rattle.denials.specs.declared.Denial.{Denial}
use Rattle.denials.specs.declared.Denial.TheVariants.{Span, Ends, Budget, TicketOut, NotInner, Known, NoneLeft, NotThisTicket, OutOfOrder}
use Rattle.tables.specs.declared.points.Point.{Point}
use Rattle.tables.specs.Log.{fresh, has, insert, low, high, low_table, high_table, span_of}
use Rattle.readout.specs.declared.events.Event.{Event}
use Rattle.readout.specs.declared.events.Event.TheVariants.{Take, Answer, Withdraw, Limits}
use Rattle.readout.specs.declared.events.Outcome.{Outcome}
use Rattle.readout.specs.declared.events.Outcome.TheVariants.{Given, Answered, Withdrawn, Limited}
use Rattle.readout.specs.declared.events.Refusal.{Refusal}
use Rattle.readout.specs.declared.events.Refusal.TheVariants.{Denied, Back}
use Rattle.readout.specs.declared.events.Summary.{Summary}
use Rattle.readout.specs.declared.tickets.Ticket.{Ticket}
use Rattle.readout.specs.declared.tickets.Returned.{Returned}
use Rattle.readout.specs.Tickets.{ticket_of, is_for, returned}
use Rattle.readout.specs.Views.{View}

-- opening with a span, two ends and a budget: denials 1, 2 and 3
abbrev pub open_denied : ℕ → ℕ → ℕ → ℕ → Option Denial
open_denied span a b n = first ((bad_span span, Span) ∷ (nat_lt b a, Ends) ∷ (bad_budget span n, Budget) ∷ [])

-- a fresh readout knows the ends, has all questions left and no ticket out
abbrev pub opened : ℕ → ℕ → ℕ → ℕ → ℕ → View
opened span a b n m = record { points = fresh span a b; left = n; mark = m; out = None }

-- x is not strictly between the ends
abbrev pub not_inner : List Point → ℕ → Bool
not_inner log x = x == 0 || nat_le (span_of log) x

-- taking a ticket for x: denials 4, 5, 6 and 7
abbrev pub take_denied : View → ℕ → Option Denial
take_denied v x =
    first
    ((is_some v.out, TicketOut)
    ∷ (not_inner v.points x, NotInner)
    ∷ (has x v.points, Known)
    ∷ ((v.left == 0), NoneLeft)
    ∷ [])

-- the ticket is out, and one question less is left
abbrev pub taken : View → ℕ → View
taken v x = record { points = v.points; left = v.left - 1; mark = v.mark; out = Some x }

-- the ticket is not the one that is out
abbrev pub not_out : View → Ticket → Bool
not_out v t = elim v.out [ None ↦ true | Some x ↦ not (is_for t v.mark x) ]

-- the value lies below the lower or above the upper neighbour of the argument x
unfoldable pub out_of_order : List Point → ℕ → ℕ → Bool
out_of_order log x y = nat_lt y (low_table log x) || nat_lt (high_table log x) y

-- answering the ticket t with the value y: denials 8 and 9
abbrev pub answer_denied : View → Ticket → ℕ → Option Returned
answer_denied v t y =
    first ((not_out v t, returned NotThisTicket t) ∷ (out_of_order v.points t.at y, returned OutOfOrder t) ∷ [])

-- the point is in the log, and no ticket is out
abbrev pub answered : View → ℕ → ℕ → View
answered v x y = record { points = insert (record { at = x; value = y }) v.points; left = v.left; mark = v.mark; out = None }

-- withdrawing the ticket t: denial 8
abbrev pub withdraw_denied : View → Ticket → Option Returned
withdraw_denied v t = first ((not_out v t, returned NotThisTicket t) ∷ [])

-- the question is left again, and no ticket is out
abbrev pub withdrawn : View → View
withdrawn v = record { points = v.points; left = v.left + 1; mark = v.mark; out = None }

-- what limits tells: the low and the high limit, and how many points are not ends
abbrev pub summary : View → Summary
summary v = record { low = low v.points; high = high v.points; answers = length v.points - 2 }

-- where an error stands in the way it is told, and nothing changes
abbrev pub unless : {E : Type 0} → Option E → (E → Refusal) → View → View × Outcome → View × Result Outcome Refusal
unless (Some e) tell v done = (v, Err (tell e))
unless None tell v done = (done.0, Ok done.1)

-- one call: the view after it, and what it gave or why it was refused
abbrev pub stepped : View → Event → View × Result Outcome Refusal
stepped v (Take x) = unless (take_denied v x) Denied v (taken v x, Given (ticket_of v.mark x))
stepped v (Answer t y) = unless (answer_denied v t y) Back v (answered v t.at y, Answered)
stepped v (Withdraw t) = unless (withdraw_denied v t) Back v (withdrawn v, Withdrawn)
stepped v Limits = (v, Ok (Limited (summary v)))

-- whether a call that came to this changes the readout
abbrev pub changes : Result Outcome Refusal → Bool
changes (Ok (Given t)) = true
changes (Ok Answered) = true
changes (Ok Withdrawn) = true
changes (Ok (Limited s)) = false
changes (Err r) = false
