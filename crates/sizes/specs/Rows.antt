-- The rows that the program fills. Assumes nothing.
use Rattle.std.specs.Prelude.{ℕ, ◌+◌, ◌*◌, ◌/◌, ◌%◌, ◌^◌, List, map}
use Rattle.std.specs.List.{range_with_len}
use Rattle.counters.specs.declared.levels.SupplyReading.{SupplyReading}

-- the row f(0) … f(n − 1)
abbrev pub row : {X : Type 0} → (ℕ → X) → ℕ → List X
row f n = map f (range_with_len 0 n)

-- the i-th value of the table: 0 0 0 1 1 1 2 …
abbrev pub value : ℕ → ℕ
value i = i / 3

-- the i-th supply reading: all levels from 0 to 65,535, in a mixed order
abbrev pub reading : ℕ → SupplyReading
reading i = record { millivolts = i * 7919 % 65536 }

-- the level of a supply reading
abbrev pub millivolts : SupplyReading → ℕ
millivolts r = r.millivolts

-- the i-th word of the strip, mixed likewise
abbrev pub word : ℕ → ℕ
word i = (i + 1) * 11400714819323198485 % 2 ^ 64
