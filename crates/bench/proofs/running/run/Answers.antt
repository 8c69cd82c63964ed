use Rattle.readout.specs.Views.{view}
use Rattle.bench.proofs.Finishing.{ran_so}
use Rattle.bench.proofs.running.run.Goals as goal

pub returns-clause-decided : goal.returns-clause-decided
returns-clause-decided g c =
    ran_so (g.P.Plan.asks c.args.plan.now) (g.P.Plan.lawful c.args.plan.now) (g.L.Logger.table c.args.logger.now) (g.L.Logger.extent c.args.logger.now) c.args.budget c.args.mark (g.L.Logger.sound c.args.logger.now)
    c.args.line.now.awake c.if-line.false c.span.result c.first.result c.last.result c.span.ensures c.first.ensures c.last.ensures (view c.open.new.self) _ c.in_ok-open.ensures
    _ c.ask_all.ensures.ran _ c.limits-low.ensures.is c.limits-low.ensures.sharp _
