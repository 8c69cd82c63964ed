-- What is seen of a readout. Assumes nothing.
use Rattle.std.specs.Prelude.{◌≡◌, ℕ, Some, None, Option}
use Rattle.tables.specs.declared.points.Point.{Point}
use Rattle.readout.specs.declared.tickets.Returned.{Returned}
use Rattle.readout.specs.Calls.{summary, taken}
use Rattle.readout.specs.Tickets.{ticket_of}
use Rattle.readout.specs.Views.{View}
use Rattle.trials.specs.declared.looks.Look.{Look}
use Rattle.trials.specs.declared.tries.Purpose.{Purpose}
use Rattle.trials.specs.Tries.{bring_denied, brought}

-- an argument with its value, as a point
abbrev pub point_of : ℕ × ℕ → Point
point_of p = record { at = p.0; value = p.1 }

-- all that a view shows but its points
abbrev pub seen : View → Look
seen v = record { low = (summary v).low; high = (summary v).high; answers = (summary v).answers; left = v.left; mark = v.mark; waiting = v.out }

-- looks before and after a ticket for x was brought, and the view then, from what stood in the way:
-- a denied ticket changes nothing, and is withdrawn
abbrev pub AroundBy : Option Returned → View → ℕ → Purpose → Look × Look → View → Type 0
AroundBy (Some d) v x p looks w = (looks ≡ (seen (taken v x), seen (taken v x))) × (w ≡ v)
AroundBy None v x p looks w = (looks ≡ (seen (taken v x), seen (brought (taken v x) x p))) × (w ≡ brought (taken v x) x p)

abbrev pub Around : View → ℕ → Purpose → Look × Look → View → Type 0
Around v x p looks w = AroundBy (bring_denied (taken v x) (ticket_of v.mark x) p) v x p looks w
