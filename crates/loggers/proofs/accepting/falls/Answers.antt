use Rattle.std.proofs.Common.{rules, ◌∙◌}
use Rattle.std.proofs.lemmas.Iterator.Consumers.{fold_from_yields_List}
use Rattle.loggers.proofs.Falls.{fold_falls, found_fall}
use Rattle.loggers.proofs.Pairs.{windows_pair}
use Rattle.loggers.proofs.accepting.falls.Goals as goal

pub returns : goal.returns
returns c =
    let vs = c.args.values.now in
    fold_from_yields_List _ found_fall _ _ c.fold.ensures.ran (windows_pair vs (cc) (cc)) (λ a x b q k. search rules) ∙ fold_falls vs
