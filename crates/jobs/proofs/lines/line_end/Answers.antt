use Rattle.std.proofs.Common.{◌∙◌, ◌+◌, eqb, length, ap, rules, tests}
use Rattle.std.proofs.lemmas.Iterator.{YieldsList-from_slice}
use Rattle.std.proofs.lemmas.Iterator.Search.{position_from_yields_List}
use Rattle.std.specs.List.{position_or_len}
use Rattle.std.specs.Option.{unwrap_or}
use Rattle.words.proofs.Finding.{first_or_end}
use Rattle.words.specs.Borrowed.{rest}
use Rattle.jobs.proofs.Splitting.{length-line}
use Rattle.jobs.proofs.lines.line_end.Goals as goal

pub returns : goal.returns
returns c =
    let bytes = c.rest-rest.result.now in
    let found = position_from_yields_List (λ b. eqb b 10) _ _ c.position.result c.position.ensures.ran (YieldsList-from_slice bytes cc) (λ x b q k. search (rules, tests)) in
    ap (λ n. c.args.cursor.at + n) (c.unwrap_or.ensures ∙ ap (λ o. unwrap_or o (length bytes)) found ∙ first_or_end (λ b. eqb b 10) bytes ∙ ap (λ bs. position_or_len (λ b. eqb b 10) bs) c.rest-rest.ensures ∙ length-line (rest c.args.cursor))
