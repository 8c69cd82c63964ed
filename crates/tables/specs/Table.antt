-- Tables: what a logger holds. Assumes nothing.
use Rattle.std.specs.Prelude.{ℕ, zero, suc, ◌+◌, ◌*◌, ◌<◌, ◌≤◌}

-- a table gives each argument a value; of a table of span n only the values at 0 … n count
abbrev pub Table : Type 0
Table = ℕ → ℕ

-- no value from argument a to argument b is lower than one before it
abbrev pub NeverFalls : Table → ℕ → ℕ → Type 0
NeverFalls t a b = (i j : ℕ) → a ≤ i → i ≤ j → j ≤ b → t i ≤ t j

-- the sum of m values from argument a on
abbrev pub sum_from : Table → ℕ → ℕ → ℕ
sum_from t a zero = 0
sum_from t a (suc m) = t a + sum_from t (a + 1) m

-- the sum of a table of span n: t(0) + … + t(n)
abbrev pub sum_of : Table → ℕ → ℕ
sum_of t n = sum_from t 0 (n + 1)

-- an inner argument of the span n lies strictly between its ends
abbrev pub Inner : ℕ → ℕ → Type 0
Inner n x = (0 < x) × (x < n)

-- the diagonal of rise c
abbrev pub diagonal : ℕ → Table
diagonal c x = c * x
