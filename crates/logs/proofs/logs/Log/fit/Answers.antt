use Rattle.std.proofs.Common.{arith}
use Rattle.logs.specs.Points.{points}
use Rattle.logs.proofs.Gaps.{goes}
use Rattle.logs.proofs.logs.Log.fit.Goals as goal

pub returns-clause-goes : goal.returns-clause-goes
returns-clause-goes c =
    let shown = c.points-points.ensures in
    goes (points c.args.self.now) c.args.p c.args.self.now.sound (omega arith, omega (arith, c.span.ensures)) c.place_of-i.result c.place_of-i.ensures.place
    (rw shown at c.if-before-p.false) (rw shown at c.if-points-ge256.false) (rw shown at c.if-p-before.false) (omega (arith, rw shown at c.if-p-points.false))
