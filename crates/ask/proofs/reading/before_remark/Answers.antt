use Rattle.ask.proofs.WordLemmas.{before_said}
use Rattle.ask.proofs.reading.before_remark.Goals as goal

pub returns : goal.returns
returns c = before_said c.args.words.now c.first_remark.result c.unwrap_or.result c.first_remark.ensures c.unwrap_or.ensures
