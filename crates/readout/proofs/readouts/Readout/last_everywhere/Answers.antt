use Rattle.std.proofs.Common.{◌+◌, ◌*◌, sym, subst}
use Rattle.logs.specs.Points.{points}
use Rattle.logs.proofs.Sound.{is_log_lem}
use Rattle.readout.specs.Levels.{Above}
use Rattle.readout.proofs.Tops.{above_all}
use Rattle.readout.proofs.readouts.Readout.last_everywhere.Goals as goal

pub returns-clause-above : goal.returns-clause-above
returns-clause-above c =
    let log = points c.args.self.now.log in
    subst (Above log) (sym (λ i. c.last.ensures i * (c.span.ensures i + 1))) (above_all log (is_log_lem log c.args.self.now.log.sound))
