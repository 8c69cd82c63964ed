-- The levels of readings. Assumes nothing.
use Rattle.std.specs.Prelude.{◌≡◌, ℕ, ℤ, pos, negsuc, ◌+ℤ◌}
use Rattle.std.proofs.Common.{sym, add-zero}

-- a whole number as a natural one, 0 where it is negative
abbrev pub natural : ℤ → ℕ
natural (pos n) = n
natural (negsuc n) = 0

-- the level of a temperature in hundredths of a degree: how far it is above −4,000, 0 below
abbrev pub climate_level : ℤ → ℕ
climate_level t = natural (t +ℤ pos 4000)

-- a level whose zero is 0 is the reading
pub unmoved : (n : ℕ) → n ≡ natural (pos n +ℤ pos 0)
unmoved n = sym (add-zero n)
