-- The plans by name, and what stands in the way of making one. Assumes nothing.
use Rattle.std.specs.Prelude.{ℕ, List, [], ◌∷◌, None, Option, codes, nat_lt}
use Rattle.denials.specs.Checks.{first}
use Rattle.tables.specs.Plan.{Plan, equal_spacing}
use Rattle.plans.specs.Widest.{widest_rectangle}
use Rattle.plans.specs.declared.ways.Way.{Way}
use Rattle.plans.specs.declared.ways.Way.TheVariants.{EqualSpacing, WidestRectangle}

-- the plan of this name, made for n questions
abbrev pub plan_of : Way → ℕ → Plan
plan_of EqualSpacing n = equal_spacing n
plan_of WidestRectangle n = widest_rectangle

-- what stands in the way of it: equal spacing is made for at most 254 questions
abbrev pub way_denied : Way → ℕ → Option (ℕ × List ℕ)
way_denied EqualSpacing n = first ((nat_lt 254 n, (3, [])) ∷ [])
way_denied WidestRectangle n = None

-- a plan's name in words
abbrev pub named : Way → List ℕ
named EqualSpacing = codes "equal spacing"
named WidestRectangle = codes "the widest rectangle"
