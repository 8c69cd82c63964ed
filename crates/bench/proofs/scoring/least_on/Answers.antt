use Rattle.std.proofs.Common.{◌∙◌, arith}
use Rattle.bench.proofs.Measuring.{least_on_fits}
use Rattle.bench.proofs.scoring.least_on.Goals as goal

pub overflow_mul-result : goal.overflow_mul-result
overflow_mul-result c =
    let d = c.args.diagonal.now in
    omega (arith, least_on_fits d.rise d.span c.args.budget c.from.result c.span.result c.least_width.result (c.from.ensures ∙ c.rise.ensures) c.span.ensures c.least_width.ensures d.short d.fits)
