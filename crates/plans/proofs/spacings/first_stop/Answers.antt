use Rattle.std.proofs.Common.{◌∙◌}
use Rattle.logs.specs.Points.{points}
use Rattle.plans.proofs.Ahead.{stop_unknown}
use Rattle.plans.proofs.Cuts.{stop_taken}
use Rattle.plans.proofs.spacings.first_stop.Goals as goal

pub returns-then-not-begins_at : goal.returns-then-not-begins_at
returns-then-not-begins_at c =
    stop_taken (points c.args.log.now) _ _ _ _ c.loop-j.invariant.0 c.loop-j-test.true
    (stop_unknown c.args.log.now _ _ _ _ _ (c.from-span.ensures ∙ c.span.ensures) c.loop-j-test.true (c.not_below-left.ensures ∙ c.loop-j.invariant.1) c.if-not-begins_at.ensures)
