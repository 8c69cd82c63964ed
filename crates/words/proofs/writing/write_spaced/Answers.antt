use Rattle.std.proofs.Common.{get_or, arith, length-set, length-take, length-drop}
use Rattle.words.proofs.Lines.{short_at, short_decimal, spaced_more}
use Rattle.words.proofs.writing.write_spaced.Goals as goal

pub bounds-out-end : goal.bounds-out-end
bounds-out-end c = omega (arith, c.requires.fits, c.loop-n.invariant.1)

pub write_digits-requires : goal.write_digits-requires
write_digits-requires c =
    let short = short_at c.args.numbers.now c.loop-n.n-index c.requires.short c.loop-n-test.true in
    let few = short_decimal (get_or c.args.numbers.now c.loop-n.n-index 0) short in
    record { short = short; fits = simp (length-set, length-take, length-drop) (omega (arith, c.loop-n.invariant.1, c.requires.fits)) }

pub loop-n-preserved : goal.loop-n-preserved
loop-n-preserved c =
    rw c.write_digits.ensures.count
    (spaced_more c.args.numbers.now c.args.out.now c.loop-n.n-index c.loop-n.end c.loop-n.out c.write_digits.new.out
    c.loop-n-test.true c.requires.short c.requires.fits c.loop-n.auto.out c.loop-n.invariant c.write_digits.ensures.row)
