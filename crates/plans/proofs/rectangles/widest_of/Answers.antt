use Rattle.std.proofs.Common.{rules}
use Rattle.std.proofs.lemmas.Iterator.Consumers.{fold_from_yields_List}
use Rattle.logs.specs.Points.{points}
use Rattle.plans.specs.Widest.{wider}
use Rattle.plans.proofs.Windows.{windows_gap}
use Rattle.plans.proofs.rectangles.widest_of.Goals as goal

pub returns : goal.returns
returns c =
    fold_from_yields_List _ wider _ _ c.fold.ensures.ran (windows_gap (points c.args.log.now) (cc) (cc)) (λ a x b q k. search rules)
