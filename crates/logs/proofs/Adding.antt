-- Limits added up gap by gap. Assumes nothing.
use Rattle.std.proofs.Common.{◌≡◌, ℕ, ◌+◌, ◌-◌, ◌*◌, ◌/◌, ◌^◌, ◌<◌, ◌≤◌, List, [], ◌∷◌, length, refl, subst, zero-add, mul-le-mul_right, mul-le-mul_left, div-mul-le_self, arith}
use Rattle.std.proofs.lemmas.Nat.{mul-le}
use Rattle.tables.specs.declared.points.Point.{Point}
use Rattle.tables.specs.Log.{IsLog, span_of, last_value, inner_of, low, high, SharpLimits}
use Rattle.tables.specs.Least.{least_width}
use Rattle.tables.proofs.LeastWidth.{least_le_square}
use Rattle.tables.proofs.Limits.{limits_are_sharp}
use Rattle.logs.proofs.Gaps.{at_le_last}
pub use Rattle.logs.proofs.Gaps.{nth}
use Rattle.logs.proofs.Walking.{Ahead, Step, step_by}

-- lo and hi are what the gaps before those ahead add to the limits
abbrev pub Summed : List Point → List Point → ℕ → ℕ → Type 0
Summed log [] lo hi = ⊥
Summed log (p ∷ ps) lo hi = (lo + low (p ∷ ps) ≡ low log) × (hi + high (p ∷ ps) ≡ high log) × (lo ≤ p.at * 2 ^ 32) × (hi ≤ p.at * 2 ^ 32)

-- values up to B, at each of the arguments from a to b − 1
gap_bound : (a b u v B : ℕ) → a < b → u ≤ B → v ≤ B → u + (b - a - 1) * v ≤ b * B - a * B
gap_bound a b u v B lt hu hv =
    subst (λ n. u + (b - a - 1) * v ≤ n * B - a * B) {x = a + (b - a - 1 + 1)} {y = b} (omega arith) (over (b - a - 1))
  where
    over : (m : ℕ) → u + m * v ≤ (a + (m + 1)) * B - a * B
    over m = omega (arith, mul-le-mul_left m hv)

-- a part moves from what is to come to what is done
moved : (done part rest whole all : ℕ) → done + whole ≡ all → whole ≡ part + rest → (done + part) + rest ≡ all
moved done part rest whole all e f = omega arith

bounded : (done part a b : ℕ) → done ≤ a → a ≤ b → part ≤ b - a → done + part ≤ b
bounded done part a b h le k = omega arith

-- before the first gap nothing is added
pub summed_none : (log : List Point) → IsLog (span_of log) log → Summed log log 0 0
summed_none [] is = absurd is
summed_none (p ∷ ps) is = (zero-add _, zero-add _, omega arith, omega arith)

-- one gap more
pub summed_more : (log rest window next : List Point) → Step rest window next → (lo hi u v m : ℕ) → Ahead log rest → u ≡ (nth window 0).value → v ≡ (nth window 1).value → m ≡ inner_of (nth window 0) (nth window 1) → u < 2 ^ 32 → v < 2 ^ 32 → Summed log rest lo hi → Summed log next (lo + (u + m * u)) (hi + (u + m * v))
summed_more log rest window next s lo hi u v m =
    step_by
    (λ r w n. Ahead log r → u ≡ (nth w 0).value → v ≡ (nth w 1).value → m ≡ inner_of (nth w 0) (nth w 1) → u < 2 ^ 32 → v < 2 ^ 32 → Summed log r lo hi → Summed log n (lo + (u + m * u)) (hi + (u + m * v)))
    (λ p q ps a is_u is_v is_m small_u small_v t. rw (is_u, is_v, is_m) (
      moved lo (p.value + inner_of p q * p.value) (low (q ∷ ps)) (low (p ∷ (q ∷ ps))) (low log) t.0 refl,
      moved hi (p.value + inner_of p q * q.value) (high (q ∷ ps)) (high (p ∷ (q ∷ ps))) (high log) t.1 refl,
      bounded lo _ (p.at * 2 ^ 32) (q.at * 2 ^ 32) t.2 (omega (arith, a.0.0)) (gap_bound p.at q.at p.value p.value (2 ^ 32) a.0.0 (omega arith) (omega arith)),
      bounded hi _ (p.at * 2 ^ 32) (q.at * 2 ^ 32) t.3 (omega (arith, a.0.0)) (gap_bound p.at q.at p.value q.value (2 ^ 32) a.0.0 (omega arith) (omega arith)),
    ))
    rest window next s

-- so the sums stay small
pub summed_small : (log rest : List Point) (lo hi : ℕ) → span_of log ≤ 1000000 → Ahead log rest → Summed log rest lo hi → (lo < 2 ^ 63) × (hi < 2 ^ 63)
summed_small log [] lo hi short a t = absurd a
summed_small log (p ∷ ps) lo hi short a t =
    let within : p.at ≤ 1000000 = omega (arith, at_le_last p ps a.0, a.1) in
    (omega (arith, t.2, mul-le-mul_right (2 ^ 32) within), omega (arith, t.3, mul-le-mul_right (2 ^ 32) within))

-- with one point ahead, nothing but its value is to come
pub summed_all : (log rest : List Point) (lo hi : ℕ) → length rest < 2 → Ahead log rest → Summed log rest lo hi → (lo + last_value log ≡ low log) × (hi + last_value log ≡ high log)
summed_all log [] lo hi one a t = absurd a
summed_all log (p ∷ []) lo hi one a t = rw (← a.2) (t.0, t.1)
summed_all log (p ∷ (q ∷ ps)) lo hi one a t = absurd (let z : ⊥ = omega arith in z)

-- the limits by the formula are sharp
pub sharp_limits_lem : (log : List Point) → IsLog (span_of log) log → (lo hi : ℕ) → lo ≡ low log → hi ≡ high log → SharpLimits log lo hi
sharp_limits_lem log is lo hi e f = record {
  low_is = e;
  high_is = f;
  sharp = λ y.
      let both = limits_are_sharp (span_of log) log is y in
      (λ w. both.0 (omega arith, omega arith), λ p. let w = both.1 p in (omega arith, omega arith));
}

-- c × D is at most (c × span) × span, so at most the rise times the span
pub promise_fits : (rise span k d : ℕ) → d ≡ least_width span k → rise < 2 ^ 32 → span ≤ 1000000 → rise / span * d < 2 ^ 64
promise_fits rise span k d is h short =
    rw is (over (rise / span) (least_width span k) (least_le_square span k) (div-mul-le_self rise span))
  where
    over : (c l : ℕ) → l ≤ span * span → c * span ≤ rise → c * l < 2 ^ 64
    over c l e f = omega (arith, mul-le-mul_left c e, mul-le-mul_right span f, mul-le rise span (2 ^ 32) 1000000 (omega arith) short)
