use Rattle.tables.proofs.Limits.{tables_of_log}
use Rattle.tables.proofs.theorems.tables_of_log.Goals as goal

pub returns : goal.returns
returns c = tables_of_log
