use Rattle.std.specs.Slice.ArrayWindows.{array_windows_parts}
use Rattle.std.specs.Slice.Iter.{windows_rest}
use Rattle.logs.specs.Points.{points}
use Rattle.logs.proofs.Adding.{Summed}
use Rattle.logs.proofs.Walking.{Ahead}
use Rattle.logs.proofs.logs.Log.limits.Given as goal

abbrev pub invariant-loop-p : goal.invariant-loop-p
invariant-loop-p l =
    (goal.iterator-loop-p).can_next l.p-iterator × (goal.iterator-loop-p).is_finite l.p-iterator
    × Ahead (points l.self) (windows_rest (array_windows_parts l.p-iterator))
    × Summed (points l.self) (windows_rest (array_windows_parts l.p-iterator)) l.low l.high
