use Rattle.std.specs.Slice.ArrayWindows.{array_windows_parts}
use Rattle.std.specs.Slice.Iter.{windows_rest}
use Rattle.logs.specs.Points.{points}
use Rattle.logs.proofs.Filling.{Drawn}
use Rattle.logs.proofs.Walking.{Ahead}
use Rattle.logs.proofs.logs.Log.write.Given as goal

abbrev pub invariant-loop-p : goal.invariant-loop-p
invariant-loop-p g l =
    (goal.iterator-loop-p g).can_next l.p-iterator × (goal.iterator-loop-p g).is_finite l.p-iterator
    × Ahead (points l.self) (windows_rest (array_windows_parts l.p-iterator))
    × Drawn (goal.F-post g l.inside) (points l.self) (windows_rest (array_windows_parts l.p-iterator)) l.initial.out l.out
