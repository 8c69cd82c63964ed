use Rattle.logs.specs.Points.{points}
use Rattle.logs.specs.Fits.{origin}
use Rattle.logs.proofs.Gaps.{span_at_end, ends_at}
use Rattle.logs.proofs.Sound.{points_are_log}
use Rattle.logs.proofs.logs.Log.ends.Goals as goal

pub returns : goal.returns
returns c =
    let log = points c.args.self.now in
    let is = points_are_log c.args.self.now in
    let ends = ends_at log is in
    rw c.points-points.ensures (record { span = span_at_end log origin is; first = ends.0; last = ends.1; rises = ends.2 })
