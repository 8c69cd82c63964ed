-- Gaps: two neighbouring points of a log, and what lies between them. Assumes nothing.
use Rattle.std.specs.Prelude.{ℕ, ◌+◌, ◌-◌, ◌*◌, ◌/◌, cond, List, [], ◌∷◌, Some, None, Option, nat_lt}
use Rattle.tables.specs.declared.points.Point.{Point}
use Rattle.tables.specs.Log.{inner_of, rise}
use Rattle.plans.specs.declared.gaps.Gap.{Gap}

-- the gaps of a log: each point with its neighbour
abbrev pub gaps : List Point → List Gap
gaps [] = []
gaps (p ∷ []) = []
gaps (p ∷ (q ∷ ps)) = record { from = p; to = q } ∷ gaps (q ∷ ps)

-- the width of a gap: its inner arguments times its rise
abbrev pub width_of : Gap → ℕ
width_of g = inner_of g.from g.to * rise g.from g.to

-- the argument in the middle of a gap
abbrev pub middle : Gap → ℕ
middle g = g.from.at + (g.to.at - g.from.at) / 2

-- the first argument inside a gap, if there is one
abbrev pub first_inside : Gap → Option ℕ
first_inside g = cond (nat_lt 0 (inner_of g.from g.to)) (Some (g.from.at + 1)) None
