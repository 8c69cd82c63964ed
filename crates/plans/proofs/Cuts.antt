-- The stops of equal spacing, one after another. Assumes nothing.
use Rattle.std.proofs.Common.{◌≡◌, ℕ, suc, ◌+◌, ◌-◌, ◌*◌, ◌<◌, ◌≤◌, true, false, List, ◌∷◌, map, Some, None, Option, sym, ap, ◌∙◌, div-mul-le_self, mul-le-mul_right, arith}
use Rattle.std.specs.List.{range_with_len}
use Rattle.std.proofs.lemmas.Nat.{le-div, div_below}
use Rattle.std.proofs.lemmas.Bool.{cond-true, cond-false}
use Rattle.tables.specs.declared.points.Point.{Point}
use Rattle.tables.specs.Plan.{unknown, first_unknown, stops}
use Rattle.tables.proofs.Stops.{cut_at}

-- every stop is below the span
pub stop_below : (N k j : ℕ) → 0 < N → j < k → cut_at N k j < N
stop_below N k j some h = div_below (j * N) k N (omega arith) (omega (arith, mul-le-mul_right N h))

-- the next stop is not lower
pub stop_later : (N k j : ℕ) → 0 < k → cut_at N k j ≤ cut_at N k (j + 1)
stop_later N k j h = le-div (cut_at N k j) ((j + 1) * N) k h (omega (arith, div-mul-le_self (j * N) k))

-- the first unknown stop of those from j on, of an even cut of N into k parts
abbrev pub from_stop : List Point → ℕ → ℕ → ℕ → Option ℕ
from_stop log N k j = first_unknown log (map (cut_at N k) (range_with_len j (k - j)))

-- from the first on they are all stops
pub all_stops : (log : List Point) (M N k n : ℕ) → M ≡ N → k ≡ n → from_stop log M (k + 1) 1 ≡ first_unknown log (stops N n)
all_stops log M N k n d e = rw (d, e) (ap (λ m. first_unknown log (map (cut_at N (n + 1)) (range_with_len 1 m))) {x = n + 1 - 1} {y = n} (omega arith))

module _ (log : List Point) (N k j : ℕ) (o : Option ℕ) (s : from_stop log N k j ≡ o) where
  -- after the last one there is none
  pub stop_none : k ≤ j → None ≡ o
  stop_none h = ap (λ m. first_unknown log (map (cut_at N k) (range_with_len j m))) {x = 0} {y = k - j} (omega arith) ∙ s

  -- the stops from j on are that of j, and those after it
  stop_first : j < k → first_unknown log (cut_at N k j ∷ map (cut_at N k) (range_with_len (j + 1) (k - (j + 1)))) ≡ o
  stop_first h = ap (λ m. first_unknown log (map (cut_at N k) (range_with_len j m))) {x = suc (k - (j + 1))} {y = k - j} (omega arith) ∙ s

  -- where the stop of j is unknown, it is the first
  pub stop_taken : j < k → unknown log (cut_at N k j) ≡ true → Some (cut_at N k j) ≡ o
  stop_taken h u = sym (cond-true _ _ _ u) ∙ stop_first h

  -- where it is not, the first is one of those after it
  pub stop_passed : j < k → unknown log (cut_at N k j) ≡ false → from_stop log N k (j + 1) ≡ o
  stop_passed h u = sym (cond-false _ _ _ u) ∙ stop_first h
