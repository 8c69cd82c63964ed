use Rattle.std.proofs.Common.{refl}
use Rattle.tables.proofs.theorems.figures_are_right.Goals as goal

pub returns : goal.returns
returns c = refl
