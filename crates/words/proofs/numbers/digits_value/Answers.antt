use Rattle.std.proofs.Common.{sym}
use Rattle.words.proofs.Reading.{read_more, read_stops, read_all}
use Rattle.words.proofs.numbers.digits_value.Goals as goal

pub loop-b-preserved : goal.loop-b-preserved
loop-b-preserved c = read_more c.args.word.now c.loop-b.b-index c.loop-b.value c.from.result c.loop-b-test.true (sym c.if-not-is_ascii_digit.ensures.value) c.from.ensures c.loop-b.invariant

pub returns-then-not-is_ascii_digit : goal.returns-then-not-is_ascii_digit
returns-then-not-is_ascii_digit c = rw (read_stops c.args.word.now c.loop-b.b-index c.loop-b.value c.loop-b-test.true (sym c.if-not-is_ascii_digit.ensures.value) c.loop-b.invariant)

pub returns : goal.returns
returns c =
    let h = read_all c.args.word.now c.loop-b.b-index c.loop-b.value c.loop-b-test.false c.loop-b.invariant in
    rw (h.0, h.1)
