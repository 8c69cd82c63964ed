use Rattle.tables.proofs.Runs.{run_exists, run_is_unique, same_run}
use Rattle.tables.proofs.theorems.runs_are_determined.Goals as goal

pub returns : goal.returns
returns c = record { exists = run_exists; unique = run_is_unique; same = same_run }
