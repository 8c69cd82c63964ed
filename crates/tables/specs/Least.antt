-- The least width: how narrow a log with k points between its ends can be on the diagonal. Assumes nothing.
use Rattle.std.specs.Prelude.{◌≡◌, ℕ, ◌+◌, ◌-◌, ◌*◌, ◌/◌, ◌%◌, ◌<◌, List, [], ◌∷◌, length}

-- n cut as evenly as can be into k + 1 lengths: r of them are q + 1 and the rest q
abbrev pub least_width : ℕ → ℕ → ℕ
least_width n k =
    let q = n / (k + 1) in
    let r = n % (k + 1) in
    r * ((q + 1) * q) + (k + 1 - r) * (q * (q - 1))

-- every length of a row is positive
abbrev pub Positive : List ℕ → Type 0
Positive [] = Unit {0}
Positive (l ∷ ls) = (0 < l) × Positive ls

-- the lengths of a row added up
abbrev pub total : List ℕ → ℕ
total [] = 0
total (l ∷ ls) = l + total ls

-- length × (length − 1), added up over a row of lengths
abbrev pub unevenness : List ℕ → ℕ
unevenness [] = 0
unevenness (l ∷ ls) = l * (l - 1) + unevenness ls

-- a row of k + 1 positive lengths that add up to n
abbrev pub Cuts : ℕ → ℕ → List ℕ → Type 0
Cuts n k ls = (length ls ≡ k + 1) × Positive ls × (total ls ≡ n)
