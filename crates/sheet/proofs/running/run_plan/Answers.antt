use Rattle.std.proofs.Common.{arith}
use Rattle.bench.specs.Runs.{budget_denied}
use Rattle.denials.specs.Told.{told}
use Rattle.denials.proofs.Passing.{accepted}
use Rattle.sheet.proofs.Bounds.{figures_small, figures_are}
use Rattle.sheet.proofs.running.run_plan.Goals as goal

pub invariant_of-result : goal.invariant_of-result
invariant_of-result g c =
    let small = figures_small c.args.way c.in_ok-plan.plan (g.L.Logger.table c.args.logger.now) (g.L.Logger.extent c.args.logger.now) c.args.questions (c.in_ok-ran.ran, c.in_ok-ran.field-0-1) (g.L.Logger.sound c.args.logger.now) (omega arith) c.in_ok-plan.ensures c.in_ok-ran.ensures.decided in
    record { short_span = omega arith; few = omega arith; in_order = omega arith; short_limits = omega arith }

pub returns : goal.returns
returns g c =
    accepted told (budget_denied (g.L.Logger.extent c.args.logger.now) c.args.questions) (c.in_ok-ran.ran, c.in_ok-ran.field-0-1) _ _ _ _ _ c.in_ok-ran.ensures.decided
    (figures_are c.args.way c.in_ok-plan.plan (g.L.Logger.table c.args.logger.now) (g.L.Logger.extent c.args.logger.now) c.args.questions (c.in_ok-ran.ran, c.in_ok-ran.field-0-1) (g.L.Logger.sound c.args.logger.now) (omega arith) c.in_ok-plan.ensures c.in_ok-ran.ensures.decided c.span.result c.span.ensures)
