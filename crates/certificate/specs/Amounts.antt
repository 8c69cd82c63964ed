-- Amounts with their unit. Assumes nothing.
use Rattle.std.specs.Prelude.{ℕ, List, [], ◌∷◌, ◌++◌, ℤ, pos, ◌-ℤ◌}
use Rattle.certificate.specs.Units.{degrees, volts}

-- what a level stands for, where the level of a reading of 0 is z
abbrev pub of_level : ℕ → ℕ → ℤ
of_level z n = pos n -ℤ pos z

-- hundredths of a degree and millivolts, with a space and °C or V
abbrev pub in_degrees : ℤ → List ℕ
in_degrees z = degrees z ++ (32 ∷ 194 ∷ 176 ∷ 67 ∷ [])

abbrev pub in_volts : ℤ → List ℕ
in_volts z = volts z ++ (32 ∷ 86 ∷ [])
