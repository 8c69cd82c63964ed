use Rattle.std.proofs.Common.{◌∙◌, rules, tests, refl}
use Rattle.std.proofs.lemmas.Iterator.{YieldsList-from_slice}
use Rattle.std.proofs.lemmas.Iterator.Search.{all_from_yields_List}
use Rattle.std.proofs.lemmas.List.Recursion.{same_from_clauses}
use Rattle.std.proofs.Common.{ltb, ◌^◌, ◌&&◌}
use Rattle.std.specs.List.{list_all}
use Rattle.words.specs.Writing.{all_short}
use Rattle.words.proofs.writing.all_short.Goals as goal

pub returns : goal.returns
returns c =
    all_from_yields_List (λ n. ltb n (10 ^ 16)) _ _ c.all.result c.all.ensures.ran (YieldsList-from_slice c.args.numbers.now cc) (λ x b q k. search (rules, tests))
    ∙ same_from_clauses (list_all (λ n. ltb n (10 ^ 16))) all_short (λ n rest. ltb n (10 ^ 16) && rest) refl (λ _ _. refl) (λ _ _. refl) c.args.numbers.now
