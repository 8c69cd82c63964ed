use Rattle.tables.proofs.LeastWidth.{least_is_least}
use Rattle.tables.proofs.theorems.least_is_least.Goals as goal

pub returns : goal.returns
returns c = least_is_least
