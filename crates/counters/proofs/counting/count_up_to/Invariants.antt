use Rattle.std.proofs.Common.{◌≡◌, ◌≤◌, length, take}
use Rattle.counters.specs.Counting.{counter_table}
use Rattle.counters.proofs.counting.count_up_to.Given as goal

-- the count is that of the readings seen, and no more than they are
abbrev pub invariant-loop-reading : goal.invariant-loop-reading
invariant-loop-reading g l =
    (l.reading-index ≤ length l.readings) × (l.count ≤ l.reading-index) × (l.count ≡ counter_table g.T.Level.height (take l.reading-index l.readings) l.x)
