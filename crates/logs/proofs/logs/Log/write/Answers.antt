use Rattle.std.proofs.Common.{◌≡◌, ◌<◌, length, ap, ◌∙◌, length-set, rules, arith}
use Rattle.std.specs.Slice.ArrayWindows.{array_windows_parts}
use Rattle.std.specs.Slice.Iter.{windows_rest}
use Rattle.logs.specs.Points.{points}
use Rattle.logs.proofs.Filling.{drawn_none, drawn_more, drawn_all, wrote}
use Rattle.logs.proofs.Gaps.{nth}
use Rattle.logs.proofs.Walking.{ahead_all, ahead_more, step_of, gap_rises}
use Rattle.logs.proofs.Sound.{points_are_log}
use Rattle.logs.proofs.logs.Log.write.Goals as goal

pub loop-p-init : goal.loop-p-init
loop-p-init g c =
    let log = points c.args.self.now in
    let is = points_are_log c.args.self.now in
    let rest : windows_rest (array_windows_parts c.into_iter-p-iterator.result) ≡ log =
    ap (λ s. windows_rest (array_windows_parts s)) c.into_iter-p-iterator.ensures.into_iter_gives ∙ c.array_windows-p-items.ensures.rest ∙ c.points.ensures in
    (search rules, tt, rw rest (ahead_all log is), rw rest (drawn_none (goal.F-post g c.args.inside) log c.args.out.now is))

pub bounds-out-from : goal.bounds-out-from
bounds-out-from g c =
    let log = points c.args.self.now in
    let step = step_of c.loop-p.p-iterator.parts c.next.new.self.parts c.in-Some.field-0 c.loop-p.invariant.0.1 c.in-Some.ensures.steps in
    let gap = gap_rises log _ _ _ step c.loop-p.invariant.2 in
    omega (arith, gap.0, gap.1, c.span.ensures)

pub slice_bounds-fill-end : goal.slice_bounds-fill-end
slice_bounds-fill-end g c =
    let log = points c.args.self.now in
    let step = step_of c.loop-p.p-iterator.parts c.next.new.self.parts c.in-Some.field-0 c.loop-p.invariant.0.1 c.in-Some.ensures.steps in
    let gap = gap_rises log _ _ _ step c.loop-p.invariant.2 in
    omega (arith, gap.1, c.span.ensures, length-set c.loop-p.out (nth c.in-Some.field-0.now 0).at (nth c.in-Some.field-0.now 0).value)

pub loop-p-preserved : goal.loop-p-preserved
loop-p-preserved g c =
    let log = points c.args.self.now in
    let steps = c.in-Some.ensures.steps in
    let step = step_of c.loop-p.p-iterator.parts c.next.new.self.parts c.in-Some.field-0 c.loop-p.invariant.0.1 steps in
    let ahead = c.loop-p.invariant.2 in (
      (omega arith, steps.0 ∙ c.loop-p.invariant.0.1),
      tt,
      ahead_more log _ _ _ step ahead,
      drawn_more (goal.F-post g c.args.inside) log _ _ _ step c.args.out.now c.loop-p.out c.fill.new.self c.inside.result ahead c.inside.ensures
          (omega (arith, c.span.ensures)) (c.fill.ensures.after (λ y h. h)) c.loop-p.invariant.3,
    )

pub returns : goal.returns
returns g c = λ t draws.
    let log = points c.args.self.now in
    let one : length (windows_rest c.loop-p.p-iterator.parts) < 2 = rw c.loop-p.invariant.0.1 at c.in-None.ensures.steps.1.0 in
    wrote _ _ _ _ (omega (arith, c.span.ensures))
    (drawn_all (goal.F-post g c.args.inside) log _ c.args.out.now c.loop-p.out _ _ one c.loop-p.invariant.2 c.loop-p.invariant.3 (omega (arith, c.span.ensures)) (omega (arith, c.span.ensures)) c.last.ensures t draws)
