use Rattle.std.proofs.Common.{refl, arith}
use Rattle.logs.proofs.Shifts.{two_first}
use Rattle.logs.proofs.places.Places.restart.Goals as goal

pub returns : goal.returns
returns c = (two_first c.args.self.now.points c.args.first c.args.last (omega arith), refl)
