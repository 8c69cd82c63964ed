-- The least width is the least, and what the diagonal makes of it. Assumes nothing.
use Rattle.std.proofs.Common.{◌≡◌, ℕ, zero, suc, ◌+◌, ◌-◌, ◌*◌, ◌/◌, ◌%◌, ◌^◌, ◌<◌, ◌≤◌, ◌⊎◌, List, [], ◌∷◌, length, refl, ap, ◌∙◌, inl, inr, ⊎_elim, mod-lt, mul-le-mul_left, div-le_self, arith}
use native.Mathlib.Nat.{div-add-mod, mul-sub, sub-zero}
use Rattle.std.proofs.lemmas.Bool.{cases_lt}
use Rattle.std.proofs.lemmas.Nat.{le-div, mul-lt}
use Rattle.tables.specs.declared.points.Point.{Point}
use Rattle.tables.specs.Least.{least_width, Positive, total, unevenness, Cuts}
use Rattle.tables.specs.Log.{Rising, last_of, IsLog, Agrees, gap_widths}
use Rattle.tables.specs.Table.{diagonal}
use Rattle.tables.specs.Theorems.{LeastIsLeast}

-- one less than a successor
pred_suc : (m : ℕ) → suc m - 1 ≡ m
pred_suc m = omega arith

-- the length q + d + 1 against the length q
above : (q d : ℕ) → 2 * q * suc (q + d) ≤ suc (q + d) * (q + d) + q * (q + 1)
above q d = omega arith

-- the length m + 1 against the length m + d + 1
below : (m d : ℕ) → 2 * (m + suc d) * suc m ≤ suc m * m + (m + suc d) * (m + suc d + 1)
below m d = omega arith

-- what one length costs is at least a straight line in it, which touches at q and at q + 1
length_bound : (q l : ℕ) → 2 * q * l ≤ l * (l - 1) + q * (q + 1)
length_bound q zero = omega arith
length_bound q (suc m) =
    rw (pred_suc m) (⊎_elim (λ h. rw (far h) (below m (q - suc m))) (λ h. rw (near h) (above q (m - q))) (cases_lt m q))
  where
    far : m < q → q ≡ m + suc (q - suc m)
    far h = omega arith

    near : q ≤ m → m ≡ q + (m - q)
    near h = omega arith

-- the same, summed over a row
row_bound : (q : ℕ) (ls : List ℕ) → 2 * q * total ls ≤ unevenness ls + length ls * (q * (q + 1))
row_bound q [] = omega arith
row_bound q (l ∷ ls) = omega (arith, length_bound q l, row_bound q ls)

-- every length of a row is q or q + 1
abbrev pub Even : ℕ → List ℕ → Type 0
Even q [] = Unit {0}
Even q (l ∷ ls) = ((l ≡ q) ⊎ (l ≡ q + 1)) × Even q ls

-- at q and at q + 1 the line touches
length_even : (q l : ℕ) → (l ≡ q) ⊎ (l ≡ q + 1) → 2 * q * l ≡ l * (l - 1) + q * (q + 1)
length_even q zero h = rw (let z : q ≡ 0 = omega arith in z)
length_even q (suc m) (inl e) = rw (pred_suc m, ← e) (omega arith)
length_even q (suc m) (inr e) = rw (pred_suc m, let z : q ≡ m = omega arith in z) (omega arith)

-- so an even row meets the bound
row_even : (q : ℕ) (ls : List ℕ) → Even q ls → 2 * q * total ls ≡ unevenness ls + length ls * (q * (q + 1))
row_even q [] e = omega arith
row_even q (l ∷ ls) e = omega (arith, length_even q l e.0, row_even q ls e.1)

-- r lengths q + 1 and d lengths q, against the line
split_even : (q r d : ℕ) → r * ((q + 1) * q) + d * (q * (q - 1)) + (r + d) * (q * (q + 1)) ≡ 2 * q * ((r + d) * q + r)
split_even zero r d = omega arith
split_even (suc m) r d = rw (pred_suc m) (omega arith)

module _ (n k : ℕ) where
  -- n in k + 1 lengths: the shorter length, how many are longer by one, and how many are not
  abbrev shorter : ℕ
  shorter = n / (k + 1)

  abbrev longer_count : ℕ
  longer_count = n % (k + 1)

  abbrev shorter_count : ℕ
  shorter_count = k + 1 - n % (k + 1)

  -- those are all lengths
  all_counted : longer_count + shorter_count ≡ k + 1
  all_counted = let h : n % (k + 1) < k + 1 = mod-lt n (omega arith) in omega arith

  -- and they add up to n
  adds_up : (longer_count + shorter_count) * shorter + longer_count ≡ n
  adds_up = rw all_counted (div-add-mod n (k + 1))

  -- the least width meets the bound
  least_even : least_width n k + (k + 1) * (shorter * (shorter + 1)) ≡ 2 * shorter * n
  least_even = rw (adds_up, all_counted) at (split_even shorter longer_count shorter_count)

  -- no row of k + 1 lengths that add up to n has less than the least width
  pub least_bound : (ls : List ℕ) → length ls ≡ k + 1 → total ls ≡ n → least_width n k ≤ unevenness ls
  least_bound ls e f = omega (arith, least_even, rw (e, f) at (row_bound shorter ls))

  -- an even row has it
  pub even_is_least : (ls : List ℕ) → length ls ≡ k + 1 → total ls ≡ n → Even (n / (k + 1)) ls → unevenness ls ≡ least_width n k
  even_is_least ls e f h = omega (arith, least_even, rw (e, f) at (row_even shorter ls h))

  -- where k + 1 divides n, all lengths are the same
  pub least_at_multiple : n % (k + 1) ≡ 0 → least_width n k ≡ (n / (k + 1) - 1) * n
  least_at_multiple e = same shorter (shorter - 1) longer_count e (div-add-mod n (k + 1)) where
    same : (q p r : ℕ) → r ≡ 0 → (k + 1) * q + r ≡ n → r * ((q + 1) * q) + (k + 1 - r) * (q * p) ≡ p * n
    same q p r e f = rw (← f, e, sub-zero) (omega arith)

  -- the least width is at most the span squared
  pub least_le_square : least_width n k ≤ n * n
  least_le_square = omega (arith, within, mul-le-mul_left n (div-le_self n (k + 1))) where
    small : (q p r d : ℕ) → p ≤ q → r * ((q + 1) * q) + d * (q * p) ≤ ((r + d) * q + r) * q
    small q p r d h = omega (arith, mul-le-mul_left d (mul-le-mul_left q h))

    within : least_width n k ≤ n * shorter
    within = rw adds_up at (small shorter (shorter - 1) longer_count shorter_count (omega arith))

  -- so that of a span of 32 bits has 64 bits
  pub least_fits : n < 2 ^ 32 → least_width n k < 2 ^ 64
  least_fits h = omega (arith, least_le_square, mul-lt n n (2 ^ 32) (2 ^ 32) h h)

-- r lengths q + 1 and d lengths q make an even row
even_row : (q r d : ℕ) → 0 < q → (ls : List ℕ) × (length ls ≡ r + d) × Positive ls × (total ls ≡ (r + d) * q + r) × Even q ls
even_row q zero zero h = ([], refl, tt, omega arith, tt)
even_row q zero (suc d) h =
    let (ls, e, p, f, g) = even_row q zero d h in
    (q ∷ ls, omega arith, (h, p), omega arith, (inl refl, g))
even_row q (suc r) d h =
    let (ls, e, p, f, g) = even_row q r d h in
    ((q + 1) ∷ ls, omega arith, (omega arith, p), omega arith, (inr refl, g))

-- the least width is a lower bound, and the even row reaches it
pub least_is_least : LeastIsLeast
least_is_least n k h = record { bound = λ ls c. least_bound n k ls c.0 c.2; reached = row } where
  row : (ls : List ℕ) × Cuts n k ls × (unevenness ls ≡ least_width n k)
  row =
      let h' = le-div 1 n (k + 1) (omega arith) (omega arith) in
      let (ls, e, p, f, g) = even_row (shorter n k) (longer_count n k) (shorter_count n k) h' in
      let e' = e ∙ all_counted n k in
      let f' = f ∙ adds_up n k in
      (ls, (e', p, f'), even_is_least n k ls e' f' g)

-- the lengths of a log's gaps
abbrev pub gap_lengths : List Point → List ℕ
gap_lengths [] = []
gap_lengths (p ∷ []) = []
gap_lengths (p ∷ (q ∷ ps)) = (q.at - p.at) ∷ gap_lengths (q ∷ ps)

-- there is one for each point after the first
count_lengths : (p : Point) (ps : List Point) → length (gap_lengths (p ∷ ps)) ≡ length ps
count_lengths p [] = refl
count_lengths p (q ∷ ps) = ap suc (count_lengths q ps)

-- they are positive
positive_lengths : (p : Point) (ps : List Point) → Rising p ps → Positive (gap_lengths (p ∷ ps))
positive_lengths p [] h = tt
positive_lengths p (q ∷ ps) h = (omega arith, positive_lengths q ps h.2)

-- and lead from the first argument to the last
total_lengths : (p : Point) (ps : List Point) → Rising p ps → p.at + total (gap_lengths (p ∷ ps)) ≡ (last_of p ps).at
total_lengths p [] h = omega arith
total_lengths p (q ∷ ps) h = omega (arith, total_lengths q ps h.2)

-- a log with k points between its ends cuts its span into k + 1 lengths
pub lengths_cut : (n k : ℕ) (log : List Point) → IsLog n log → length log ≡ k + 2 → Cuts n k (gap_lengths log)
lengths_cut n k [] h e = elim h [ ]
lengths_cut n k (p ∷ ps) h e =
    (omega (arith, count_lengths p ps), positive_lengths p ps h.2, omega (arith, total_lengths p ps h.2))

-- on the diagonal of rise c, the widths of the gaps are c times the unevenness of their lengths
pub diagonal_gaps : (c : ℕ) (p : Point) (ps : List Point) → Rising p ps → Agrees (diagonal c) (p ∷ ps) → gap_widths (p ∷ ps) ≡ c * unevenness (gap_lengths (p ∷ ps))
diagonal_gaps c p [] h a = omega arith
diagonal_gaps c p (q ∷ ps) h a =
    let l = q.at - p.at in
    rw (← a.0, ← a.1.0, ← mul-sub c q.at p.at) (step l (l - 1) _ _ (diagonal_gaps c q ps h.2 a.1))
  where
    step : (l m w u : ℕ) → w ≡ c * u → m * (c * l) + w ≡ c * (l * m + u)
    step l m w u e = omega arith
