use Rattle.std.proofs.Common.{rules}
use Rattle.tables.specs.Log.{high_table}
use Rattle.logs.specs.Points.{points}
use Rattle.logs.proofs.Filling.{high_draws}
use Rattle.logs.proofs.Sound.{points_are_log}
use Rattle.logs.proofs.logs.Log.write_high.Goals as goal

pub returns : goal.returns
returns c =
    let log = points c.args.self.now in
    c.write.ensures (high_table log) (high_draws _ (λ u v w h. search rules) log (points_are_log c.args.self.now))
