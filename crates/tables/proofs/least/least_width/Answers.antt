-- The sum of both products is the least width, which fits. Assumes nothing.
use Rattle.std.proofs.Common.{arith}
use Rattle.tables.proofs.LeastWidth.{least_fits}
use Rattle.tables.proofs.least.least_width.Goals as goal

pub overflow_add-result-2 : goal.overflow_add-result-2
overflow_add-result-2 c =
    rw (c.saturating_sub.ensures, c.from.ensures, c.from-2.ensures, c.from-gaps.ensures)
    (omega (arith, least_fits c.args.span c.args.answers (omega arith)))
