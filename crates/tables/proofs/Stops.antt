-- Stops that rise from 0 to N, the log of a table at the first of them, and the cuts of N into even parts. Assumes nothing.
use Rattle.std.proofs.Common.{◌≡◌, ℕ, zero, suc, ◌+◌, ◌-◌, ◌*◌, ◌/◌, ◌<◌, ◌≤◌, true, false, not, ◌&&◌, eqb, ltb, ◌⊎◌, List, [], ◌∷◌, map, Some, refl, ap, ◌∙◌, subst, inl, inr, ⊎_elim, zero-mul, div-mul-le_self, arith}
use native.Mathlib.Nat.{lt-div-mul-add, mul-div_cancel_left, zero-div}
use Rattle.std.specs.List.{range_with_len}
use Rattle.std.proofs.lemmas.Nat.{le-div, div_below}
use Rattle.std.proofs.lemmas.Bool.{cases_lt, cond_both, eqb-false, lt-ltb, le-ltb, ne_eqb, and_right, cond-true, cond-false, not_from_true}
use Rattle.tables.specs.declared.points.Point.{Point}
use Rattle.tables.specs.Table.{Table}
use Rattle.tables.specs.Log.{last_of, span_of, has, insert}
use Rattle.tables.specs.Plan.{unknown, first_unknown}
use Rattle.tables.specs.Theorems.{ceiling}
use Rattle.tables.proofs.Unknown.{askable_unknown}
use Rattle.tables.proofs.LeastWidth.{gap_lengths}

-- the point of a table at x
abbrev pub point_of : Table → ℕ → Point
point_of t x = record { at = x; value = t x }

-- the points of a table at m stops from the one of index i on, and at N
abbrev pub spaced : Table → (ℕ → ℕ) → ℕ → ℕ → ℕ → List Point
spaced t stop N i zero = point_of t N ∷ []
spaced t stop N i (suc m) = point_of t (stop i) ∷ spaced t stop N (i + 1) m

-- the log of a table after the stops of index 1 to j, where the stop of index 0 is 0
abbrev pub log_at : Table → (ℕ → ℕ) → ℕ → ℕ → List Point
log_at t stop N j = spaced t stop N 0 (suc j)

-- stops rise at each step, from 0 to N in n + 1 steps
pub record Climbs (stop : ℕ → ℕ) (N n : ℕ) : Type 0 where
  pub first : stop 0 ≡ 0
  pub last : stop (n + 1) ≡ N
  pub rises : (j : ℕ) → stop j < stop (j + 1)

module _ (t : Table) (stop : ℕ → ℕ) (N n : ℕ) (climbs : Climbs stop N n) where
  -- a later stop lies further on
  further : (i d j : ℕ) → i + suc d ≡ j → stop i < stop j
  further i zero j e = subst (λ k. stop i < stop k) (let k : i + 1 ≡ j = omega arith in k) (climbs.rises i)
  further i (suc d) j e = omega (arith, climbs.rises i, further (i + 1) d j (omega arith))

  -- of two stops the one of lower index lies lower
  lower : (i j : ℕ) → i < j → stop i < stop j
  lower i j h = further i (j - i - 1) j (omega arith)

  -- a stop of an index up to n lies below N
  below : (j : ℕ) → j ≤ n → stop j < N
  below j h = omega (arith, lower j (n + 1) (omega arith), climbs.last)

  -- the last point is the one at N
  pub last_spaced : (p : Point) (i m : ℕ) → last_of p (spaced t stop N i m) ≡ point_of t N
  last_spaced p i zero = refl
  last_spaced p i (suc m) = last_spaced (point_of t (stop i)) (i + 1) m

  -- a stop among the points is known
  has_stop : (j i m : ℕ) → i ≤ j → j < i + m → has (stop j) (spaced t stop N i m) ≡ true
  has_stop j i zero h k = absurd (let z : ⊥ = omega arith in z)
  has_stop j i (suc m) h k = cond_both (eqb (stop j) (stop i)) true (has (stop j) (spaced t stop N (i + 1) m)) (λ b. b ≡ true)
      (λ e. refl)
      (λ e. let ne : j ≡ i → ⊥ = λ d. eqb-false (stop j) (stop i) e (ap stop d) in has_stop j (i + 1) m (omega arith) (omega arith))

  -- a stop past the points is not
  lacks_stop : (j i m : ℕ) → i + m ≤ j → j ≤ n → has (stop j) (spaced t stop N i m) ≡ false
  lacks_stop j i zero h k = rw (ne_eqb (stop j) N (λ e. omega (arith, below j k))) refl
  lacks_stop j i (suc m) h k = rw (ne_eqb (stop j) (stop i) (λ e. omega (arith, lower i j (omega arith)))) (lacks_stop j (i + 1) m (omega arith) k)

  -- the point at the next stop goes in after those before it
  insert_stop : (j i m : ℕ) → i + m ≡ j → j ≤ n → insert (point_of t (stop j)) (spaced t stop N i m) ≡ spaced t stop N i (suc m)
  insert_stop j i zero e h =
      let k : i ≡ j = omega arith in
      rw (lt-ltb (stop j) N (below j h), k) refl
  insert_stop j i (suc m) e h =
      rw (le-ltb (stop j) (stop i) (omega (arith, lower i j (omega arith)))) (ap (λ ps. point_of t (stop i) ∷ ps) (insert_stop j (i + 1) m (omega arith) h))

  -- so it leads from one log to the next
  pub insert_next : (j : ℕ) → j < n → insert (point_of t (stop (j + 1))) (log_at t stop N j) ≡ log_at t stop N (j + 1)
  insert_next j h = insert_stop (j + 1) 0 (suc j) (omega arith) (omega arith) ∙ ap (spaced t stop N 0) (let e : suc (suc j) ≡ suc (j + 1) = omega arith in e)

  -- the span is N
  pub span_at : (j : ℕ) → span_of (log_at t stop N j) ≡ N
  span_at j = ap (λ p. p.at) (last_spaced (point_of t (stop 0)) 1 j)

  -- the next stop is unknown there
  next_unknown : (j i : ℕ) → i ≡ j + 1 → j < n → unknown (log_at t stop N j) (stop i) ≡ true
  next_unknown j i e l =
      let positive : 0 < stop i = omega (arith, lower 0 i (omega arith)) in
      let within : stop i < span_of (log_at t stop N j) = omega (arith, below i (omega arith), span_at j) in
      askable_unknown (log_at t stop N j) (stop i) ((positive, within), lacks_stop i 0 (suc j) (omega arith) (omega arith))

  -- the stops before it are known
  past_known : (j i : ℕ) → i ≤ j → unknown (log_at t stop N j) (stop i) ≡ false
  past_known j i h =
      let log = log_at t stop N j in
      let known = has_stop i 0 (suc j) (omega arith) (omega arith) in
      and_right (ltb 0 (stop i) && ltb (stop i) (span_of log)) (not (has (stop i) log)) (not_from_true (has (stop i) log) known)

  -- so it is the first unknown one of those from any index up to its own on
  pub next_stop : (j i m : ℕ) → i ≤ j + 1 → j + 1 < i + m → j < n → first_unknown (log_at t stop N j) (map stop (range_with_len i m)) ≡ Some (stop (j + 1))
  next_stop j i zero h k l = absurd (let z : ⊥ = omega arith in z)
  next_stop j i (suc m) h k l =
      let log = log_at t stop N j in
      let rest = first_unknown log (map stop (range_with_len (i + 1) m)) in
      ⊎_elim
      (λ e. cond-false (unknown log (stop i)) (Some (stop i)) rest (past_known j i (omega arith)) ∙ next_stop j (i + 1) m (omega arith) (omega arith) l)
      (λ e. let d : i ≡ j + 1 = omega arith in cond-true (unknown log (stop i)) (Some (stop i)) rest (next_unknown j i d l) ∙ ap (λ x. Some (stop x)) d)
      (cases_lt i (j + 1))

  -- what holds of no length, and of one more where it holds of the others, holds of the lengths between the stops
  pub lengths_by : (F : List ℕ → Type 0) → F [] → ((j : ℕ) (ls : List ℕ) → F ls → F ((stop (j + 1) - stop j) ∷ ls)) → (i m : ℕ) → i + m ≡ n → F (gap_lengths (spaced t stop N i (suc m)))
  lengths_by F none more i zero e =
      let d : i ≡ n = omega arith in
      subst (λ x. F ((x - stop i) ∷ [])) (ap (λ k. stop (k + 1)) d ∙ climbs.last) (more i [] none)
  lengths_by F none more i (suc m) e = more i (gap_lengths (spaced t stop N (i + 1) (suc m))) (lengths_by F none more (i + 1) m (omega arith))

-- the stop of index j in an even cut of N into k parts
abbrev pub cut_at : ℕ → ℕ → ℕ → ℕ
cut_at N k j = j * N / k

-- a step of an even cut is the quotient or one more
pub even_step : (N k j : ℕ) → 0 < k → (cut_at N k (j + 1) - cut_at N k j ≡ N / k) ⊎ (cut_at N k (j + 1) - cut_at N k j ≡ N / k + 1)
even_step N k j h =
    let x = cut_at N k j + N / k in
    let least : x ≤ cut_at N k (j + 1) = le-div x ((j + 1) * N) k h (omega (arith, div-mul-le_self (j * N) k, div-mul-le_self N k)) in
    let most : cut_at N k (j + 1) < x + 2 = div_below ((j + 1) * N) k (x + 2) h (omega (arith, lt-div-mul-add {a = j * N} h, lt-div-mul-add {a = N} h)) in
    ⊎_elim (λ l. inl (omega arith)) (λ l. inr (omega arith)) (cases_lt (cut_at N k (j + 1)) (x + 1))

-- and at most the ceiling
pub ceiling_step : (N k j : ℕ) → 0 < k → cut_at N k (j + 1) - cut_at N k j ≤ ceiling N k
ceiling_step N k j h =
    let x = cut_at N k j + ceiling N k in
    let most : cut_at N k (j + 1) < x + 1 = div_below ((j + 1) * N) k (x + 1) h (omega (arith, lt-div-mul-add {a = j * N} h, lt-div-mul-add {a = N + (k - 1)} h)) in
    omega arith

-- an even cut of N into n + 1 parts climbs to N
pub cut_climbs : (N n : ℕ) → n < N → Climbs (cut_at N (n + 1)) N n
cut_climbs N n h = record { first = rw zero-mul (zero-div (n + 1)); last = mul-div_cancel_left N (omega arith); rises = rises }
  where
    rises : (j : ℕ) → cut_at N (n + 1) j < cut_at N (n + 1) (j + 1)
    rises j = omega (arith, even_step N (n + 1) j (omega arith), le-div 1 N (n + 1) (omega arith) (omega arith))
