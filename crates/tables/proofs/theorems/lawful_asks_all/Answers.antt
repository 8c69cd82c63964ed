use Rattle.tables.proofs.Runs.{lawful_asks_all}
use Rattle.tables.proofs.theorems.lawful_asks_all.Goals as goal

pub returns : goal.returns
returns c = lawful_asks_all
