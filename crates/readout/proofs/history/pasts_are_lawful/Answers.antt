use Rattle.readout.proofs.Pasts.{history}
use Rattle.readout.proofs.history.pasts_are_lawful.Goals as goal

pub returns : goal.returns
returns c = history
