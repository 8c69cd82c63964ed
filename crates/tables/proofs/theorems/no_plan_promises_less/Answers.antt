use Rattle.tables.proofs.Steep.{no_plan_promises_less}
use Rattle.tables.proofs.theorems.no_plan_promises_less.Goals as goal

pub returns : goal.returns
returns c = no_plan_promises_less
