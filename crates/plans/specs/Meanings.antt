-- What a value of a plan stands for. Assumes nothing.
use Rattle.tables.specs.Plan.{Plan, equal_spacing}
use Rattle.plans.specs.declared.spacings.EqualSpacing.{EqualSpacing}

-- equal spacing made for so many questions
abbrev pub spacing_of : EqualSpacing → Plan
spacing_of p = equal_spacing p.questions
