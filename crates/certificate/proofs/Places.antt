-- Decimal places. Assumes nothing.
use Rattle.std.proofs.Common.{◌≡◌, ℕ, zero, suc, ◌+◌, ◌-◌, ◌/◌, ◌%◌, ◌^◌, ◌<◌, ◌≤◌, List, [], ◌∷◌, ◌++◌, length, replicate, ℤ, refl, sym, ap, ◌∙◌, arith, append_assoc, length-append, ⊎_elim, unsigned_abs}
use Rattle.std.proofs.Math.Nat.{pow-suc}
use Rattle.std.proofs.lemmas.Bool.{cases_lt, ne_eqb}
use Rattle.std.proofs.lemmas.List.{replicate-append-replicate, append-nil}
use Rattle.std.specs.Fmt.{decimal, format_spec, padded_integral, char_count, styled_decimal}
use Rattle.std.proofs.lemmas.Fmt.{decimal_digit, decimal_step}
use Rattle.certificate.specs.Units.{in_digits, with_places, sign, degrees, volts}

-- a power of ten is not 0
pub ten_pos : (k : ℕ) → 0 < 10 ^ k
ten_pos zero = omega arith
ten_pos (suc k) = rw (pow-suc 10 k) (omega (arith, ten_pos k))

-- a number with zeros in front, up to k digits
abbrev pub padded : ℕ → ℕ → List ℕ
padded k m = replicate (k - length (decimal m)) 48 ++ decimal m

-- one digit more at the end
more : (k m : ℕ) → 10 ≤ m → m < 2 ^ 64 → padded (suc k) m ≡ padded k (m / 10) ++ decimal (m % 10)
more k m two fits =
    let front = decimal (m / 10) in
    let step : decimal m ≡ front ++ ((48 + m % 10) ∷ []) = decimal_step m two fits in
    let last : decimal (m % 10) ≡ (48 + m % 10) ∷ [] = decimal_digit (m % 10) (omega arith) in
    let len : suc k - length (front ++ ((48 + m % 10) ∷ [])) ≡ k - length front = omega (arith, length-append front ((48 + m % 10) ∷ [])) in
    rw (step, last, len) (sym (append_assoc (replicate (k - length front) 48) front ((48 + m % 10) ∷ [])))

-- a digit alone has zeros in front of it
alone : (k m : ℕ) → m < 10 → padded (suc (suc k)) m ≡ padded (suc k) (m / 10) ++ decimal (m % 10)
alone k m one =
    let none : m / 10 ≡ 0 = omega arith in
    let same : m % 10 ≡ m = omega arith in
    let left : suc (suc k) - 1 ≡ k + 1 = omega arith in
    let right : suc k - 1 ≡ k = omega arith in
    let zeros : padded (suc k) 0 ≡ replicate k 48 ++ (48 ∷ []) = rw (decimal_digit 0 (omega arith)) (ap (λ n. replicate n 48 ++ (48 ∷ [])) right) in
    let whole : padded (suc (suc k)) m ≡ replicate (k + 1) 48 ++ ((48 + m) ∷ []) = rw (decimal_digit m one) (ap (λ n. replicate n 48 ++ ((48 + m) ∷ [])) left) in
    let split : replicate (k + 1) 48 ≡ padded (suc k) 0 = sym (replicate-append-replicate k 1 48) ∙ sym zeros in
    rw (none, same) (whole ∙ ap (λ zs. zs ++ ((48 + m) ∷ [])) split ∙ ap (λ ds. padded (suc k) 0 ++ ds) (sym (decimal_digit m one)))

-- a number with zeros in front up to k digits is the number in k digits, where it has no more
pub padded_in_digits : (k m : ℕ) → m < 10 ^ suc k → m < 2 ^ 64 → padded (suc k) m ≡ in_digits (suc k) m
padded_in_digits zero m low fits =
    let one : m < 10 = omega arith in
    let same : m % 10 ≡ m = omega arith in
    rw (same, decimal_digit m one) refl
padded_in_digits (suc k) m low fits =
    let less : m / 10 < 10 ^ suc k = omega (arith, rw (pow-suc 10 (suc k)) at low) in
    let front = ap (λ ds. ds ++ decimal (m % 10)) (padded_in_digits k (m / 10) less (omega arith)) in
    ⊎_elim (λ one. alone k m one ∙ front) (λ two. more (suc k) m two fits ∙ front) (cases_lt m 10)

-- what a hole of width k with zeros in front shows
pub shown : (k m : ℕ) → 0 < k → styled_decimal (format_spec 32 0 4 k (2 ^ 64 - 1)) m ≡ padded k m
unfolding padded_integral char_count
shown k m some =
    let wide = ne_eqb k 0 (λ e. omega (arith, e)) in
    let short : k - length (decimal m) - 0 - 0 ≡ k - length (decimal m) = omega arith in
    rw (wide, short, append-nil (decimal m))

-- the text of a number with places: its sign, what stands before the point, and a hole of that width
pub text_is : (k : ℕ) (z : ℤ) (mark : List ℕ) (n u rest : ℕ) → 0 < k → 10 ^ k < 2 ^ 64 → mark ≡ sign z → n ≡ unsigned_abs z → u ≡ 10 ^ k → rest ≡ n % u → mark ++ (decimal (n / u) ++ (46 ∷ styled_decimal (format_spec 32 0 4 k (2 ^ 64 - 1)) rest)) ≡ with_places k z
text_is zero z mark n u rest some fits mark_is n_is u_is rest_is = absurd (omega arith)
text_is (suc k) z mark n u rest some fits mark_is n_is u_is rest_is =
    let m = unsigned_abs z % 10 ^ suc k in
    let less : m < 10 ^ suc k = omega (arith, ten_pos (suc k)) in
    let ends = shown (suc k) m some ∙ padded_in_digits k m less (omega arith) in
    rw (rest_is, mark_is, n_is, u_is) (ap (λ ds. sign z ++ (decimal (unsigned_abs z / 10 ^ suc k) ++ (46 ∷ ds))) ends)

-- three places by their figures
pub thousandths : (z : ℤ) → with_places 3 z ≡ volts z
thousandths z =
    let n = unsigned_abs z in
    let first : n % 1000 / 10 / 10 % 10 ≡ n / 100 % 10 = omega arith in
    let second : n % 1000 / 10 % 10 ≡ n / 10 % 10 = omega arith in
    let third : n % 1000 % 10 ≡ n % 10 = omega arith in
    rw (first, second, third) (ap (λ ds. sign z ++ (decimal (n / 1000) ++ (46 ∷ ds))) (append_assoc (decimal (n / 100 % 10)) (decimal (n / 10 % 10)) (decimal (n % 10))))

-- two places
pub hundredths : (z : ℤ) → with_places 2 z ≡ degrees z
hundredths z =
    let n = unsigned_abs z in
    let first : n % 100 / 10 % 10 ≡ n / 10 % 10 = omega arith in
    let second : n % 100 % 10 ≡ n % 10 = omega arith in
    rw (first, second)
