use Rattle.std.proofs.Common.{◌≡◌}
use Rattle.logs.specs.Points.{points}
use Rattle.tables.specs.Log.{span_of}
use Rattle.tables.specs.Plan.{first_unknown, stops}
use Rattle.tables.proofs.Stops.{cut_at}
use Rattle.plans.specs.Ahead.{Rises, ahead}
use Rattle.plans.proofs.Cuts.{from_stop}
use Rattle.plans.proofs.spacings.first_stop.Given as goal

-- the first unknown stop is one of those from j on, what is ahead of the next one in the log is in the points left, and these rise
abbrev pub invariant-loop-j : goal.invariant-loop-j
invariant-loop-j l =
    let log = points l.log in
    let stop = cut_at l.span l.parts l.j in
    (from_stop log l.span l.parts l.j ≡ first_unknown log (stops (span_of log) l.questions)) × (ahead stop l.left ≡ ahead stop log) × Rises l.left
