use Rattle.tables.proofs.Limits.{limits_are_sharp}
use Rattle.tables.proofs.theorems.limits_are_sharp.Goals as goal

pub returns : goal.returns
returns c = limits_are_sharp
