use Rattle.std.proofs.Common.{◌≡◌, ◌<◌, length, ap, ◌∙◌, rules, arith}
use Rattle.std.specs.Slice.ArrayWindows.{array_windows_parts}
use Rattle.std.specs.Slice.Iter.{windows_rest}
use Rattle.logs.specs.Points.{points}
use Rattle.logs.proofs.Adding.{summed_none, summed_more, summed_all, sharp_limits_lem}
use Rattle.logs.proofs.Walking.{ahead_all, ahead_more, step_of}
use Rattle.logs.proofs.Sound.{points_are_log}
use Rattle.logs.proofs.logs.Log.limits.Goals as goal

pub loop-p-init : goal.loop-p-init
loop-p-init c =
    let log = points c.args.self.now in
    let is = points_are_log c.args.self.now in
    let rest : windows_rest (array_windows_parts c.into_iter-p-iterator.result) ≡ log =
    ap (λ s. windows_rest (array_windows_parts s)) c.into_iter-p-iterator.ensures.into_iter_gives ∙ c.array_windows-p-items.ensures.rest ∙ c.points.ensures in
    (search rules, tt, rw rest (ahead_all log is), rw rest (summed_none log is))

pub loop-p-preserved : goal.loop-p-preserved
loop-p-preserved c =
    let log = points c.args.self.now in
    let steps = c.in-Some.ensures.steps in
    let step = step_of c.loop-p.p-iterator.parts c.next.new.self.parts c.in-Some.field-0 c.loop-p.invariant.0.1 steps in
    let ahead = c.loop-p.invariant.2 in (
      (omega arith, steps.0 ∙ c.loop-p.invariant.0.1),
      tt,
      ahead_more log _ _ _ step ahead,
      summed_more log _ _ _ step c.loop-p.low c.loop-p.high c.from-before.result c.from-after.result c.from-inner.result ahead c.from-before.ensures c.from-after.ensures c.from-inner.ensures
          (omega arith) (omega arith) c.loop-p.invariant.3,
    )

pub returns : goal.returns
returns c =
    let log = points c.args.self.now in
    let one : length (windows_rest c.loop-p.p-iterator.parts) < 2 = rw c.loop-p.invariant.0.1 at c.in-None.ensures.steps.1.0 in
    let all = summed_all log _ _ _ one c.loop-p.invariant.2 c.loop-p.invariant.3 in
    let top = c.from-top.ensures ∙ c.last.ensures in
    sharp_limits_lem log (points_are_log c.args.self.now) _ _ (rw top all.0) (rw top all.1)
