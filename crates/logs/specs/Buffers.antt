-- Rows that a table is written into. Assumes nothing.
use Rattle.std.specs.Prelude.{◌≡◌, ℕ, ◌+◌, ◌<◌, List, [], ◌∷◌, ◌++◌, map, drop, Option, nat_lt}
use Rattle.std.specs.List.{range_with_len}
use Rattle.denials.specs.Checks.{first}
use Rattle.tables.specs.declared.points.Point.{Point}
use Rattle.tables.specs.Table.{Table}

-- a row after a table of span N was written into its first places: the rest is kept
abbrev pub written : Table → ℕ → List ℕ → List ℕ
written t N old = map t (range_with_len 0 (N + 1)) ++ drop (N + 1) old

-- what stands in the way of writing a table of span N into a row of this length
abbrev pub too_short : ℕ → ℕ → Option (ℕ × List ℕ)
too_short N len = first ((nat_lt len (N + 1), (10, (N + 1) ∷ [])) ∷ [])

-- the table t has each point's value at that point, and inside a gap any number that a relation finds for the values on either side
abbrev pub Draws : (ℕ → ℕ → ℕ → Type 0) → Table → List Point → Type 0
Draws finds t [] = Unit {0}
Draws finds t (p ∷ []) = t p.at ≡ p.value
Draws finds t (p ∷ (q ∷ ps)) =
    (t p.at ≡ p.value)
    × ((u : ℕ) → finds p.value q.value u → (x : ℕ) → p.at < x → x < q.at → t x ≡ u)
    × Draws finds t (q ∷ ps)
