use Rattle.plans.proofs.Widening.{widest_is_widest}
use Rattle.plans.proofs.rectangles.WidestRectangle.new.Goals as goal

pub returns : goal.returns
returns c = widest_is_widest
