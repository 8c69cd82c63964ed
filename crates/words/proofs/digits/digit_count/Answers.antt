use Rattle.std.proofs.Common.{◌≡◌, ◌∙◌, ltb, ap, rules, tests}
use Rattle.std.proofs.lemmas.Iterator.{YieldsList-from_slice}
use Rattle.std.proofs.lemmas.Iterator.Search.{position_from_yields_List}
use Rattle.std.specs.List.{position_or_len}
use Rattle.std.specs.Option.{unwrap_or}
use Rattle.words.proofs.Finding.{first_or_end}
use Rattle.words.proofs.Places.{powers, count_of_powers}
use Rattle.words.proofs.digits.digit_count.Goals as goal

pub returns-clause-count : goal.returns-clause-count
returns-clause-count c =
    let found = position_from_yields_List (ltb c.args.n) _ _ c.position-larger.result c.position-larger.ensures.ran (YieldsList-from_slice powers cc) (λ x b q k. search (rules, tests)) in
    let first : c.unwrap_or.result ≡ position_or_len (ltb c.args.n) powers = c.unwrap_or.ensures ∙ ap (λ o. unwrap_or o 16) found ∙ first_or_end (ltb c.args.n) powers in
    c.max.ensures ∙ count_of_powers c.args.n c.unwrap_or.result c.requires first
