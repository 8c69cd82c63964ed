-- The bits of a row of words, and the table of a strip. Assumes nothing.
use Rattle.std.specs.Prelude.{◌≡◌, ℕ, zero, suc, ◌+◌, ◌*◌, ◌/◌, ◌%◌, ◌^◌, ◌<◌, ◌≤◌, List, [], ◌∷◌, ◌++◌, length, take, slice_index}
use Rattle.std.proofs.Common.{arith}
use Rattle.tables.specs.Table.{Table}

-- the k lowest bits of a word, the lowest first
unfoldable pub low_bits : ℕ → ℕ → List ℕ
low_bits zero n = []
low_bits (suc k) n = n % 2 ∷ low_bits k (n / 2)

-- the bits of a row of words: 64 of each word, the lowest first
abbrev pub bits_of : List ℕ → List ℕ
bits_of [] = []
bits_of (w ∷ ws) = low_bits 64 w ++ bits_of ws

-- how many bits of a row are ones
abbrev pub ones_among : List ℕ → ℕ
ones_among [] = 0
ones_among (b ∷ bs) = b + ones_among bs

-- the table of a strip: at x, the number of ones among the first x bits
abbrev pub strip_table : List ℕ → Table
strip_table ws x = ones_among (take x (bits_of ws))

-- there are 64 bits for each word, and bit j is bit j mod 64 of word j div 64
abbrev pub BitsArePlaced : Type 0
BitsArePlaced = (ws : List ℕ) → (length (bits_of ws) ≡ 64 * length ws) × ((j : ℕ) → j < 64 * length ws → slice_index (bits_of ws) j ≡ slice_index ws (j / 64) / 2 ^ (j % 64) % 2)

-- more bits of a row have no fewer ones
never_fewer : (bs : List ℕ) (i j : ℕ) → i ≤ j → ones_among (take i bs) ≤ ones_among (take j bs)
never_fewer bs zero j le = omega arith
never_fewer bs (suc i) zero le = omega arith
never_fewer [] (suc i) (suc j) le = omega arith
never_fewer (b ∷ bs) (suc i) (suc j) le = let h = never_fewer bs i j (omega arith) in omega arith

-- so a strip's table never falls
pub strip_never_falls : (ws : List ℕ) (i j : ℕ) → i ≤ j → strip_table ws i ≤ strip_table ws j
strip_never_falls ws i j le = never_fewer (bits_of ws) i j le
