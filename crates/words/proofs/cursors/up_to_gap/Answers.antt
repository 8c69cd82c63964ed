use Rattle.std.proofs.Common.{◌∙◌, length, take, ap, rules, tests}
use Rattle.std.proofs.lemmas.Iterator.{YieldsList-from_slice}
use Rattle.std.proofs.lemmas.Iterator.Search.{position_from_yields_List}
use Rattle.std.specs.Option.{unwrap_or}
use Rattle.words.proofs.Finding.{first_or_end}
use Rattle.words.proofs.Lexemes.{ends_word, before_gap}
use Rattle.words.proofs.cursors.up_to_gap.Goals as goal

pub returns : goal.returns
returns c =
    let bytes = c.args.rest.now in
    let found = position_from_yields_List ends_word _ _ c.position-gap.result c.position-gap.ensures.ran (YieldsList-from_slice bytes cc) (λ x b q k. search (rules, tests)) in
    ap (λ n. take n bytes) (c.unwrap_or.ensures ∙ ap (λ o. unwrap_or o (length bytes)) found ∙ first_or_end ends_word bytes) ∙ before_gap bytes
