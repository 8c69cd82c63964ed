use Rattle.std.proofs.Common.{◌∙◌, arith}
use Rattle.bench.proofs.Continuing.{ready, one_more, all_spent, all_done}
use Rattle.bench.proofs.asking.ask_all.Goals as goal

pub returns-in_default-clause-ran : goal.returns-in_default-clause-ran
returns-in_default-clause-ran g c =
    let none = c.in_default.ensures.answer ∙ (λ i. c.loop-plan.invariant.0 i (c.log.ensures i)) in
    all_done (g.P.Plan.lawful c.args.plan.now) (g.L.Logger.sound c.args.logger.now).2 c.loop-plan.invariant.1 (omega (arith, c.left.ensures)) none

pub ask_one-requires : goal.ask_one-requires
ask_one-requires g c =
    let some = c.in-Some.ensures.answer ∙ (λ i. c.loop-plan.invariant.0 i (c.log.ensures i)) in
    ready (g.P.Plan.lawful c.args.plan.now) (g.L.Logger.sound c.args.logger.now).2 c.loop-plan.invariant.1 c.in-Some.x (omega (arith, c.left.ensures)) some

pub loop-plan-preserved : goal.loop-plan-preserved
loop-plan-preserved g c =
    let some = c.in-Some.ensures.answer ∙ (λ i. c.loop-plan.invariant.0 i (c.log.ensures i)) in (
      c.next.ensures.same ∙ c.loop-plan.invariant.0,
      one_more (g.P.Plan.lawful c.args.plan.now) (g.L.Logger.sound c.args.logger.now).2 c.loop-plan.invariant.1 c.in-Some.x _ (omega (arith, c.left.ensures)) some c.ask_one.ensures,
    )

pub returns-clause-ran : goal.returns-clause-ran
returns-clause-ran g c =
    all_spent (g.P.Plan.lawful c.args.plan.now) (g.L.Logger.sound c.args.logger.now).2 c.loop-plan.invariant.1 (omega (arith, c.left.ensures))
