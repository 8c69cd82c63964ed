-- Quotients rounded down and up, and moved back into the readings' own unit. Assumes nothing.
use Rattle.std.proofs.Common.{◌≡◌, ℕ, zero, suc, ◌+◌, ◌-◌, ◌*◌, ◌/◌, ◌%◌, ◌<◌, ◌≤◌, min, ℤ, pos, negsuc, ◌+ℤ◌, ◌-ℤ◌, ◌*ℤ◌, neg_ℤ, ◌≤ℤ◌, refl, ap, mod-lt, mul_comm, arith}
use native.Mathlib.Nat.{mul-div-le, div-add-mod}
use lib.Arith.{digits_div}
use lib.IntN.{ -ℤ-+ℤ_cancel}
use Rattle.std.proofs.lemmas.Nat.{le-div, div_below}
use Rattle.std.proofs.lemmas.Int.{ints}
use Rattle.tables.specs.Theorems.{ceiling}

-- the order of whole numbers that are not negative
pos_le : (m n : ℕ) → m ≤ n → pos m ≤ℤ pos n
pos_le m n le = omega (arith, ints)

le_pos : (m n : ℕ) → pos m ≤ℤ pos n → m ≤ n
le_pos m n le = omega (arith, ints)

-- a number is not at most a negative one
no_less : (a k : ℕ) → 0 < k → pos a ≤ℤ neg_ℤ (pos k) → ⊥
no_less a zero some le = omega arith
no_less a (suc k) some le = omega (arith, ints)

-- l moved by z is at most q, so l is at most q moved back
back : (l : ℤ) (z m q : ℕ) → l +ℤ pos z ≡ pos m → m ≤ q → l ≤ℤ (pos q -ℤ pos z)
back l z m q e le = omega (arith, ints)

below : (l : ℤ) (z m q : ℕ) → l +ℤ pos z ≡ negsuc m → l ≤ℤ (pos q -ℤ pos z)
below l z m q e = omega (arith, ints)

above : (h : ℤ) (z m q : ℕ) → h +ℤ pos z ≡ pos m → q ≤ m → (pos q -ℤ pos z) ≤ℤ h
above h z m q e le = omega (arith, ints)

-- the ceiling of q × b + r, with r below b
ceiling_by : (a b q r : ℕ) → r < b → b * q + r ≡ a → q + min 1 r ≡ ceiling a b
ceiling_by a b q zero lt e =
    let s : a + (b - 1) ≡ q * b + (b - 1) = omega (arith, mul_comm b q) in
    omega (arith, ap (λ n. n / b) s, digits_div q {m = b} {r = b - 1} (omega arith))
ceiling_by a b q (suc r) lt e =
    let s : a + (b - 1) ≡ (q + 1) * b + r = omega (arith, mul_comm b q) in
    omega (arith, ap (λ n. n / b) s, digits_div (q + 1) {m = b} {r = r} (omega arith))

-- a quotient rounded up is the ceiling
pub rounded_up : (a b : ℕ) → 0 < b → a / b + min 1 (a % b) ≡ ceiling a b
rounded_up a b some = ceiling_by a b (a / b) (a % b) (mod-lt a some) (div-add-mod a b)

-- a number is at most its ceiling times the divisor
ceiling_covers : (a b : ℕ) → 0 < b → a ≤ b * ceiling a b
ceiling_covers a b some = go (a / b) (a % b) (mod-lt a some) (div-add-mod a b)
  where
    go : (q r : ℕ) → r < b → b * q + r ≡ a → a ≤ b * ceiling a b
    go q zero lt e = let is : ceiling a b ≡ q = omega (arith, ceiling_by a b q zero lt e) in rw is (omega arith)
    go q (suc r) lt e = let is : ceiling a b ≡ q + 1 = omega (arith, ceiling_by a b q (suc r) lt e) in rw is (omega arith)

-- and no less would do
ceiling_least : (a b m : ℕ) → 0 < b → a ≤ b * m → ceiling a b ≤ m
ceiling_least a b m some le =
    let lt : a + (b - 1) < (m + 1) * b = omega (arith, mul_comm b m) in
    omega (arith, div_below (a + (b - 1)) b (m + 1) some lt)

-- a quotient rounded down and moved back is a lower limit
pub low_covers : (a b z total : ℕ) → a ≤ total → (pos b *ℤ ((pos (a / b) -ℤ pos z) +ℤ pos z)) ≤ℤ pos total
low_covers a b z total le = rw (-ℤ-+ℤ_cancel (pos (a / b)) (pos z)) (pos_le _ _ (omega (arith, mul-div-le a b)))

-- a quotient rounded up and moved back is an upper limit
pub high_covers : (a b z total : ℕ) → 0 < b → total ≤ a → pos total ≤ℤ (pos b *ℤ ((pos (ceiling a b) -ℤ pos z) +ℤ pos z))
high_covers a b z total some le = rw (-ℤ-+ℤ_cancel (pos (ceiling a b)) (pos z)) (pos_le _ _ (omega (arith, ceiling_covers a b some)))

-- and every lower limit of a number is at most that
pub low_tight : (a b z : ℕ) (l : ℤ) → 0 < b → (pos b *ℤ (l +ℤ pos z)) ≤ℤ pos a → l ≤ℤ (pos (a / b) -ℤ pos z)
low_tight a b z l some h = go (l +ℤ pos z) refl h
  where
    go : (y : ℤ) → l +ℤ pos z ≡ y → (pos b *ℤ y) ≤ℤ pos a → l ≤ℤ (pos (a / b) -ℤ pos z)
    go (pos m) e le =
        let q : m ≤ a / b = le-div m a b some (omega (arith, mul_comm m b, le_pos _ _ le)) in
        back l z m (a / b) e q
    go (negsuc m) e le = below l z m (a / b) e

-- every upper limit of a number is at least that
pub high_tight : (a b z : ℕ) (h : ℤ) → 0 < b → pos a ≤ℤ (pos b *ℤ (h +ℤ pos z)) → (pos (ceiling a b) -ℤ pos z) ≤ℤ h
high_tight a b z h some le = go (h +ℤ pos z) refl le
  where
    go : (y : ℤ) → h +ℤ pos z ≡ y → pos a ≤ℤ (pos b *ℤ y) → (pos (ceiling a b) -ℤ pos z) ≤ℤ h
    go (pos m) e le = above h z m (ceiling a b) e (ceiling_least a b m some (le_pos _ _ le))
    go (negsuc m) e le = absurd (no_less a (b * suc m) (omega arith) le)
