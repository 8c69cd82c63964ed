use Rattle.std.proofs.Common.{length, drop, Some, sym, ap, ◌∙◌}
use Rattle.std.specs.Option.{option_map}
use Rattle.words.specs.Borrowed.{lexeme, rest}
use Rattle.words.specs.Numbers.{number_of}
use Rattle.jobs.proofs.Taking.{found}
use Rattle.jobs.proofs.reading.number_at.Goals as goal

pub returns-in_err-number_of-clause-number : goal.returns-in_err-number_of-clause-number
returns-in_err-number_of-clause-number c =
    let word = found (rest c.args.cursor) c.args.cursor.at c.in-Number.bytes.now _ (sym (ap (λ w. Some (lexeme w)) c.in-Number.is) ∙ c.in_ok-bytes.ensures) in
    ap (option_map (λ p. p.0)) c.from_residual-in_err-number_of.ensures ∙ c.in_err-number_of.ensures ∙ ap number_of word

pub returns-clause-after : goal.returns-clause-after
returns-clause-after c =
    let word = found (rest c.args.cursor) c.args.cursor.at c.in-Number.bytes.now _ (sym (ap (λ w. Some (lexeme w)) c.in-Number.is) ∙ c.in_ok-bytes.ensures) in
    c.skip.ensures.rest ∙ ap (λ w. drop (length w) (rest c.args.cursor)) word
