use Rattle.counters.proofs.Totals.{counted_total, total_is_counted}
use Rattle.counters.proofs.theorems.total_is_counted.Goals as goal

pub returns : goal.returns
returns g c = record { counted = counted_total g.T.Level.height; all = total_is_counted g.T.Level.height }
