-- The widest rectangle: the plan that asks in the middle of the widest gap. Assumes nothing.
use Rattle.std.specs.Prelude.{◌≡◌, ℕ, ◌<◌, ◌≤◌, cond, List, ◌∷◌, ◌++◌, Some, None, fold, Option, MatchOption, nat_lt}
use Rattle.std.specs.Option.{option_map}
use Rattle.std.specs.List.{AllByRecursion}
use Rattle.tables.specs.declared.points.Point.{Point}
use Rattle.tables.specs.Plan.{Plan, lowest_unknown, or_else}
use Rattle.plans.specs.declared.gaps.Gap.{Gap}
use Rattle.plans.specs.Gaps.{gaps, width_of, middle}

-- the width of the widest gap so far
abbrev pub best_width : Option Gap → ℕ
best_width None = 0
best_width (Some g) = width_of g

-- a gap takes the place of the widest so far only where it is wider
abbrev pub wider : Option Gap → Gap → Option Gap
wider best g = cond (nat_lt (best_width best) (width_of g)) (Some g) best

-- the widest gap of a row from the lowest on
abbrev pub widest : List Gap → Option Gap
widest gs = fold wider None gs

-- the widest rectangle: the middle of the widest gap, else the lowest unknown argument
abbrev pub widest_rectangle : Plan
widest_rectangle log = or_else (option_map middle (widest (gaps log))) (lowest_unknown log)

-- g is the widest gap of a row: it is one of the row and has a width, no gap is wider, and every gap before it is narrower
pub record Widest (gs : List Gap) (g : Gap) : Type 0 where
  pub before : List Gap
  pub after : List Gap
  pub stands : gs ≡ before ++ (g ∷ after)
  pub some : 0 < width_of g
  pub no_wider : AllByRecursion (λ h. width_of h ≤ width_of g) gs
  pub narrower : AllByRecursion (λ h. width_of h < width_of g) before

-- of every log the widest gap is the widest, and there is none only where every gap has width 0
abbrev pub WidestIsWidest : Type 0
WidestIsWidest = (log : List Point) → MatchOption (widest (gaps log)) (AllByRecursion (λ h. width_of h ≡ 0) (gaps log)) (Widest (gaps log))
