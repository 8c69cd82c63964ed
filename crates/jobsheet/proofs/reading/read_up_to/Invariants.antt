use Rattle.std.proofs.Common.{◌-◌, ◌≤◌, length}
use Rattle.jobsheet.proofs.reading.read_up_to.Given as goal

-- no more was read than the row has places
abbrev pub invariant-loop-count : goal.invariant-loop-count
invariant-loop-count g l = l.count ≤ length l.row

abbrev pub decreases-loop-count : goal.decreases-loop-count
decreases-loop-count g l = length l.initial.row - l.count
