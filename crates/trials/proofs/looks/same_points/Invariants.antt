use Rattle.std.proofs.Common.{◌≡◌, ℕ, ◌<◌, length, get_or}
use Rattle.trials.specs.Looks.{point_of}
use Rattle.trials.proofs.looks.same_points.Given as goal

abbrev pub invariant-loop-p : goal.invariant-loop-p
invariant-loop-p l = (k : ℕ) → k < length l.yielded → get_or l.points k (point_of (0, 0)) ≡ point_of (get_or l.pairs k (0, 0))
