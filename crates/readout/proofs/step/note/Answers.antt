use Rattle.std.proofs.Common.{rules}
use Rattle.logs.specs.Points.{points}
use Rattle.readout.proofs.Noting.{noted}
use Rattle.readout.proofs.step.note.Goals as goal

pub returns : goal.returns
returns c = noted (points c.args.log.now) c.args.p c.requires.new c.requires.room _ _ c.insert.result c.map_err.result c.insert.ensures c.map_err.ensures.cases (λ e d k. search rules)
