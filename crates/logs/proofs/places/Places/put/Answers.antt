use Rattle.std.proofs.Common.{refl, arith}
use Rattle.logs.proofs.Shifts.{copied_then_put}
use Rattle.logs.proofs.places.Places.put.Goals as goal

pub returns : goal.returns
returns c = (
  copied_then_put c.args.self.now.points c.copy_within.new.self c.args.i c.args.self.now.used c.args.p (omega arith) (omega arith) (omega arith) c.copy_within.ensures.by_index.0 c.copy_within.ensures.by_index.1,
  refl,
)
