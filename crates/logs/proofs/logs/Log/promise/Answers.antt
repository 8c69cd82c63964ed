use Rattle.std.proofs.Common.{◌-◌, arith}
use Rattle.logs.proofs.Adding.{promise_fits}
use Rattle.logs.proofs.logs.Log.promise.Goals as goal

pub overflow_mul-result : goal.overflow_mul-result
overflow_mul-result c =
    let rise = c.ends.result.1.value - c.ends.result.0.value in
    rw c.from.ensures (omega (arith, promise_fits rise c.ends.result.1.at _ c.least_width.result c.least_width.ensures (omega arith) (omega (arith, c.ends.ensures.span, c.args.self.now.short))))
