use Rattle.std.proofs.Common.{sym, ap, ◌∙◌}
use Rattle.words.specs.Borrowed.{rest}
use Rattle.jobs.specs.Jobs.{formed_of, numbers_of}
use Rattle.jobs.specs.Reading.{tail_words}
use Rattle.jobs.specs.Said.{said}
use Rattle.jobs.proofs.Taking.{letter_none, letter_some}
use Rattle.jobs.proofs.reading.job_at.Goals as goal

pub returns-in_err-letter : goal.returns-in_err-letter
returns-in_err-letter c = ap said c.from_residual.ensures ∙ letter_none (rest c.args.cursor) c.in_err-letter.ensures

pub returns-in_err-values : goal.returns-in_err-values
returns-in_err-values c =
    let numbers = letter_some (rest c.args.cursor) c.in_ok-letter.letter c.in_ok-letter.ensures ∙ ap (λ bs. formed_of c.in_ok-letter.letter (numbers_of (tail_words bs))) (sym c.skip.ensures.rest) in
    ap said c.from_residual-in_err-values.ensures ∙ sym (numbers ∙ c.in_err-values.ensures c.in_ok-letter.letter)

pub returns : goal.returns
returns c =
    let numbers = letter_some (rest c.args.cursor) c.in_ok-letter.letter c.in_ok-letter.ensures ∙ ap (λ bs. formed_of c.in_ok-letter.letter (numbers_of (tail_words bs))) (sym c.skip.ensures.rest) in
    c.form.ensures ∙ sym (numbers ∙ ap (formed_of c.in_ok-letter.letter) c.in_ok-values.ensures)
