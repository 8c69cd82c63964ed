use Rattle.std.proofs.Common.{◌∙◌, below_more}
use Rattle.std.proofs.lemmas.Option.{slice_get-get_or}
use Rattle.ask.proofs.WordLemmas.{numbers_more, faulty}
use Rattle.ask.proofs.reading.numbers_of.Goals as goal

pub returns-in_err-number : goal.returns-in_err-number
returns-in_err-number c =
    let e = c.in_err-number.ensures in
    faulty c.from_residual.result c.in_err-number.field-0.0 _ c.from_residual.ensures.1
    (_, (c.loop-word.word-index, slice_get-get_or _ _ _ c.loop-word-test.true, e.0, c.loop-word.invariant.0), e.1)

pub loop-word-preserved : goal.loop-word-preserved
loop-word-preserved c =
    let read = c.in_ok-number.ensures in (
      below_more _ _ c.loop-word.invariant.0 read.0,
      c.in_ok-push.ensures.items ∙ numbers_more c.args.words.now c.loop-word.word-index _ c.loop-word.numbers.items c.in_ok-number.number c.loop-word-test.true c.loop-word.invariant.1 read.1,
    )
