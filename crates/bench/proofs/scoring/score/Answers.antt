use Rattle.std.proofs.Common.{length, refl, arith}
use Rattle.readout.proofs.Pasts.{history}
use Rattle.tables.proofs.Benching.{bench, optimum}
use Rattle.tables.specs.Log.{low_table, high_table}
use Rattle.bench.specs.Guarantee.{Guarantee}
use Rattle.bench.proofs.Measuring.{in_order, row, scored}
use Rattle.bench.proofs.scoring.score.Goals as goal

guarantee : Guarantee
guarantee = record { history = history; bench = bench; optimum = optimum }

pub returns-in_err-diagonal-clause-guarantee : goal.returns-in_err-diagonal-clause-guarantee
returns-in_err-diagonal-clause-guarantee g c = guarantee

pub unwrap-requires : goal.unwrap-requires
unwrap-requires g c =
    (row (g.P.Plan.asks c.args.plan.now) (g.P.Plan.lawful c.args.plan.now) c.args.span c.args.rise c.args.budget (length c.args.low_table.now) (length c.args.high_table.now) _ c.in_ok-diagonal.ensures _ _ _ _ c.run.ensures.decided _ c.unwrap-ran.ensures
    _ c.log.ensures low_table _ _ (omega arith) _ _ c.write_low.ensures).0

pub unwrap-requires-2 : goal.unwrap-requires-2
unwrap-requires-2 g c =
    (row (g.P.Plan.asks c.args.plan.now) (g.P.Plan.lawful c.args.plan.now) c.args.span c.args.rise c.args.budget (length c.args.low_table.now) (length c.args.high_table.now) _ c.in_ok-diagonal.ensures _ _ _ _ c.run.ensures.decided _ c.unwrap-ran.ensures
    _ c.log-2.ensures high_table _ _ (omega arith) _ _ c.write_high.ensures).0

pub overflow_sub-result : goal.overflow_sub-result
overflow_sub-result g c =
    omega (arith, in_order (g.P.Plan.asks c.args.plan.now) (g.P.Plan.lawful c.args.plan.now) c.args.span c.args.rise c.args.budget (length c.args.low_table.now) (length c.args.high_table.now) _ c.in_ok-diagonal.ensures _ _ _ _ c.run.ensures.decided _ c.unwrap-ran.ensures)

pub returns-clause-decided : goal.returns-clause-decided
returns-clause-decided g c =
    let low = row (g.P.Plan.asks c.args.plan.now) (g.P.Plan.lawful c.args.plan.now) c.args.span c.args.rise c.args.budget (length c.args.low_table.now) (length c.args.high_table.now) _ c.in_ok-diagonal.ensures _ _ _ _ c.run.ensures.decided _ c.unwrap-ran.ensures
    _ c.log.ensures low_table _ _ (omega arith) _ _ c.write_low.ensures in
    let high = row (g.P.Plan.asks c.args.plan.now) (g.P.Plan.lawful c.args.plan.now) c.args.span c.args.rise c.args.budget (length c.args.low_table.now) (length c.args.high_table.now) _ c.in_ok-diagonal.ensures _ _ _ _ c.run.ensures.decided _ c.unwrap-ran.ensures
    _ c.log-2.ensures high_table _ _ (omega arith) _ _ c.write_high.ensures in
    scored (g.P.Plan.asks c.args.plan.now) (g.P.Plan.lawful c.args.plan.now) c.args.span c.args.rise c.args.budget (length c.args.low_table.now) (length c.args.high_table.now) _ c.in_ok-diagonal.ensures _ _ _ _ c.run.ensures.decided _ c.unwrap-ran.ensures
    _ refl c.least_on.ensures _ _ _ _ low.1 high.1 _

pub returns-clause-guarantee : goal.returns-clause-guarantee
returns-clause-guarantee g c = guarantee
