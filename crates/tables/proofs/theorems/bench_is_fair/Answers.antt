use Rattle.tables.proofs.Benching.{bench, optimum}
use Rattle.tables.proofs.theorems.bench_is_fair.Goals as goal

pub returns : goal.returns
returns c = record { bench = bench; optimum = optimum }
