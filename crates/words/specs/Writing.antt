-- Printed lines, and a row with bytes written into it. Assumes nothing.
use Rattle.std.specs.Prelude.{ℕ, ◌+◌, ◌*◌, ◌^◌, Bool, true, ◌&&◌, List, [], ◌∷◌, ◌++◌, length, take, drop, decimal, nat_le, nat_lt}

-- a row with these bytes written from the place `at` on, the rest kept
abbrev pub overwritten : ℕ → List ℕ → List ℕ → List ℕ
overwritten at bs row = take at row ++ (bs ++ drop (at + length bs) row)

-- a row with these bytes written into its first places, the rest kept
abbrev pub begun : List ℕ → List ℕ → List ℕ
begun bs row = bs ++ drop (length bs) row

-- for each of the numbers a space and its decimal digits
abbrev pub spaced : List ℕ → List ℕ
spaced [] = []
spaced (n ∷ ns) = 32 ∷ (decimal n ++ spaced ns)

-- a printed line: a letter, the numbers after single spaces, and byte 10
abbrev pub line_bytes : ℕ → List ℕ → List ℕ
line_bytes c ns = c ∷ (spaced ns ++ (10 ∷ []))

-- each of the numbers has at most 16 digits
abbrev pub all_short : List ℕ → Bool
all_short [] = true
all_short (n ∷ ns) = nat_lt n (10 ^ 16) && all_short ns

-- room for a printed line from the place `at` on: 17 bytes for each number and two more; and each number has at most 16 digits
abbrev pub has_room : ℕ → List ℕ → List ℕ → Bool
has_room at ns row = nat_le (at + (17 * length ns + 2)) (length row) && all_short ns
