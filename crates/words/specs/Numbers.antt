-- Numbers as a sheet writes them, and what their digits say. Assumes nothing.
use Rattle.std.specs.Prelude.{◌≡◌, ℕ, ◌+◌, ◌-◌, ◌*◌, ◌^◌, ◌<◌, ◌≤◌, Bool, true, cond, not, ◌&&◌, ◌||◌, ◌↔◌, List, [], ◌∷◌, length, Some, None, decimal, Option, ◌==◌, nat_le, nat_lt, slice_index}
use Rattle.std.specs.Str.{all_ascii_digits}

-- the number that decimal digits write, after the number n so far
abbrev pub read_on : ℕ → List ℕ → ℕ
read_on n [] = n
read_on n (c ∷ cs) = read_on (10 * n + (c - 48)) cs

-- the number that a row of decimal digits writes
abbrev pub digits_value : List ℕ → ℕ
digits_value ds = read_on 0 ds

-- a number word: 1 to 10 digits, no leading zero but in 0 itself, at most 4,294,967,295
abbrev pub is_number : List ℕ → Bool
is_number w = all_ascii_digits w && (nat_lt 0 (length w) && (nat_le (length w) 10 && ((length w == 1 || not (slice_index w 0 == 48)) && nat_le (digits_value w) 4294967295)))

-- the number that a word says
abbrev pub number_of : List ℕ → Option ℕ
number_of w = cond (is_number w) (Some (digits_value w)) None

-- a word says n exactly when it is n written in decimal digits
abbrev pub NumbersAreDecimal : Type 0
NumbersAreDecimal = (w : List ℕ) (n : ℕ) → (number_of w ≡ Some n) ↔ ((w ≡ decimal n) × (n ≤ 4294967295))

-- what is written of a number reads back as that number
abbrev pub ReadsBack : Type 0
ReadsBack = (n : ℕ) → n < 2 ^ 64 → (all_ascii_digits (decimal n) ≡ true) × (digits_value (decimal n) ≡ n)
