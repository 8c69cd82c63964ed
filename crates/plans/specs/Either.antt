-- What a plan that is one of the two means. Assumes nothing.
use Rattle.tables.proofs.Spacing.{spacing_is_lawful}
use Rattle.tables.specs.Plan.{Plan, Lawful}
use Rattle.plans.specs.Lawful.{widest_is_lawful}
use Rattle.plans.specs.Meanings.{spacing_of}
use Rattle.plans.specs.Widest.{widest_rectangle}
use Rattle.plans.specs.declared.any_plans.AnyPlan.{AnyPlan}
use Rattle.plans.specs.declared.any_plans.AnyPlan.TheVariants.{EqualSpacing, WidestRectangle}

-- what its own plan means
abbrev pub asked_by : AnyPlan → Plan
asked_by (EqualSpacing p) = spacing_of p
asked_by (WidestRectangle p) = widest_rectangle

-- it keeps the law of plans, as both do
pub any_is_lawful : (p : AnyPlan) → Lawful (asked_by p)
any_is_lawful (EqualSpacing p) = spacing_is_lawful p.questions
any_is_lawful (WidestRectangle p) = widest_is_lawful
