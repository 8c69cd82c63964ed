-- What a turned logger and a window mean, and what stands in a window's way. Assumes nothing.
use Rattle.std.specs.Prelude.{ℕ, ◌+◌, ◌-◌, Bool, cond, ◌||◌, List, [], ◌∷◌, Option, nat_le, nat_lt}
use Rattle.denials.specs.Checks.{first}
use Rattle.tables.specs.Table.{Table}

-- a table t of span n turned end for end: at x it has the last value less the value at n − x
abbrev pub turned : Table → ℕ → Table
turned t n x = t n - t (n - x)

-- a table from argument a on
abbrev pub windowed : Table → ℕ → Table
windowed t a x = t (a + x)

-- no window of a logger of span n runs from a to b: a is not below b, or b is above the span
abbrev pub bad_ends : ℕ → ℕ → ℕ → Bool
bad_ends n a b = nat_le b a || nat_lt n b

-- where a window from a to b begins in the span n: at a, or at 0 where the ends do not fit
abbrev pub beginning : ℕ → ℕ → ℕ → ℕ
beginning n a b = cond (bad_ends n a b) 0 a

-- where it ends: at b, or at n where the ends do not fit
abbrev pub ending : ℕ → ℕ → ℕ → ℕ
ending n a b = cond (bad_ends n a b) n b

-- what stands in the way of a window from a to b of a logger of span n
abbrev pub window_denied : ℕ → ℕ → ℕ → Option (ℕ × List ℕ)
window_denied n a b = first ((bad_ends n a b, (11, [])) ∷ [])
