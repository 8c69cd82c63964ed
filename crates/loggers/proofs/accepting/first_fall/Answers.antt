use Rattle.std.proofs.Common.{◌≡◌, ◌+◌, rules, ap, ◌∙◌}
use Rattle.std.specs.List.{position}
use Rattle.std.specs.Option.{option_map}
use Rattle.std.proofs.lemmas.Iterator.Search.{position_from_yields_List}
use Rattle.loggers.specs.Makings.{first_fall}
use Rattle.loggers.proofs.Falls.{falls_at, position_falls, told_none}
use Rattle.loggers.proofs.Pairs.{pairs, windows_pair}
use Rattle.loggers.proofs.accepting.first_fall.Goals as goal

pub returns-then-not-falls-clause-never : goal.returns-then-not-falls-clause-never
returns-then-not-falls-clause-never c = told_none c.args.values.now _ (search rules)

pub returns : goal.returns
returns c =
    let vs = c.args.values.now in
    let at : c.position.result ≡ position falls_at (pairs vs) =
    position_from_yields_List falls_at _ _ _ c.position.ensures.ran (windows_pair vs (cc) (cc)) (λ x b q k. search rules) in
    let next : c.map.result ≡ option_map (λ i. i + 1) c.position.result = search rules in
    let found : c.map.result ≡ first_fall vs = next ∙ ap (option_map (λ i. i + 1)) at ∙ position_falls vs in
    record { place = found; never = told_none _ _ found }
