-- The points of a row that are not below an argument. Assumes nothing.
use Rattle.std.specs.Prelude.{ℕ, Bool, false, cond, List, [], ◌∷◌, ◌==◌, nat_lt}
use Rattle.std.specs.List.Sorted.{IsNonDecreasingBy}
use Rattle.tables.specs.declared.points.Point.{Point}

-- the arguments of a row do not fall
unfoldable pub Rises : List Point → Type 0
Rises = IsNonDecreasingBy (λ p. p.at)

-- the row from its first point on that is not below x
abbrev pub ahead : ℕ → List Point → List Point
ahead x [] = []
ahead x (p ∷ ps) = cond (nat_lt p.at x) (ahead x ps) (p ∷ ps)

-- the row begins at x
abbrev pub begins_at : ℕ → List Point → Bool
begins_at x [] = false
begins_at x (p ∷ ps) = p.at == x
