use Rattle.std.proofs.Common.{refl, ap, ◌∙◌, subst}
use Rattle.denials.specs.Bounds.{bad_budget}
use Rattle.plans.specs.Either.{asked_by, any_is_lawful}
use Rattle.plans.specs.Ways.{plan_of, way_denied}
use Rattle.tables.specs.Plan.{Lawful}
use Rattle.ask.proofs.Told.{granted, reports}
use Rattle.ask.proofs.runs.run_on.Goals as goal

pub returns : goal.returns
returns g c =
    let is = granted (way_denied c.args.way c.args.questions) c.in_ok-plan.field-0 _ _ c.in_ok-plan.ensures in
    reports (plan_of c.args.way c.args.questions) (subst Lawful is (any_is_lawful c.in_ok-plan.field-0))
    (g.L.Logger.table c.args.logger.now) (g.L.Logger.extent c.args.logger.now) c.args.questions (g.L.Logger.sound c.args.logger.now)
    (bad_budget (g.L.Logger.extent c.args.logger.now) c.args.questions) refl _ (ap asked_by c.new-noting.ensures.plan ∙ is)
    c.in_ok-ran.ran c.in_ok-ran.place c.in_ok-ran.ensures.decided _ refl _ c.log.ensures c.limits.ensures _ c.log-2.ensures c.promise.ensures _ c.answers_at.ensures
