-- The whole guarantee, as laws over the definitions that the calls' contracts cite. Assumes nothing.
use Rattle.readout.specs.Past.{History}
use Rattle.tables.specs.Bench.{Bench, Optimum}

pub record Guarantee : Type 0 where
  -- for every past of a readout: limits counts the accepted answers; the budget is that count, the questions left
  -- and the tickets out; and on the diagonal no log is narrower than the least width for its count allows
  pub history : History
  -- for every plan: loggers with the low and with the high table of its run on the diagonal get the same questions
  -- and limits, though their sums lie the whole width apart, which is at least the least width
  pub bench : Bench
  -- where the parts divide the span, equal spacing is the best plan
  pub optimum : Optimum
