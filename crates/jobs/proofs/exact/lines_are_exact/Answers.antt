use Rattle.jobs.proofs.Forming.{lines_are_exact}
use Rattle.jobs.proofs.exact.lines_are_exact.Goals as goal

pub returns : goal.returns
returns c = lines_are_exact
