-- How amounts are written. Assumes nothing.
use Rattle.std.specs.Prelude.{ℕ, zero, suc, ◌/◌, ◌%◌, ◌^◌, List, [], ◌∷◌, ◌++◌, ℤ, pos, negsuc, decimal, unsigned_abs}

-- a minus sign, in UTF-8, before what is negative
abbrev pub sign : ℤ → List ℕ
sign (pos n) = []
sign (negsuc n) = 226 ∷ 136 ∷ 146 ∷ []

-- n in k digits, zeros in front
abbrev pub in_digits : ℕ → ℕ → List ℕ
in_digits zero n = []
in_digits (suc k) n = in_digits k (n / 10) ++ decimal (n % 10)

-- a number of the smallest part that is shown, with k places after the point
abbrev pub with_places : ℕ → ℤ → List ℕ
with_places k z = let n = unsigned_abs z in sign z ++ (decimal (n / 10 ^ k) ++ (46 ∷ in_digits k (n % 10 ^ k)))

-- hundredths of a degree, as degrees with two places after the point
abbrev pub degrees : ℤ → List ℕ
degrees z = let n = unsigned_abs z in sign z ++ (decimal (n / 100) ++ (46 ∷ (decimal (n / 10 % 10) ++ decimal (n % 10))))

-- millivolts, as volts with three
abbrev pub volts : ℤ → List ℕ
volts z = let n = unsigned_abs z in sign z ++ (decimal (n / 1000) ++ (46 ∷ (decimal (n / 100 % 10) ++ (decimal (n / 10 % 10) ++ decimal (n % 10)))))
