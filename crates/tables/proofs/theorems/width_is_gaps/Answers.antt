use Rattle.tables.proofs.Limits.{width_is_gaps}
use Rattle.tables.proofs.theorems.width_is_gaps.Goals as goal

pub returns : goal.returns
returns c = width_is_gaps
