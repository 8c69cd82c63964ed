use Rattle.std.proofs.Common.{◌≡◌}
use Rattle.readout.specs.Views.{view}
use Rattle.bench.proofs.Continuing.{Sofar}
use Rattle.bench.proofs.asking.ask_all.Given as goal

abbrev pub invariant-loop-plan : goal.invariant-loop-plan
invariant-loop-plan g l =
    (g.P.Plan.asks l.plan ≡ g.P.Plan.asks l.initial.plan)
    × Sofar (g.P.Plan.asks l.initial.plan) (g.L.Logger.table l.logger) (g.L.Logger.extent l.logger) (view l.initial.place) (view l.place)

abbrev pub decreases-loop-plan : goal.decreases-loop-plan
decreases-loop-plan g l = (view l.place).left
