-- Equal spacing: it is lawful, asks its stops, and how wide a log it leaves. Assumes nothing.
use Rattle.std.proofs.Common.{◌≡◌, ℕ, zero, suc, ◌+◌, ◌-◌, ◌*◌, ◌/◌, ◌<◌, ◌≤◌, List, [], ◌∷◌, map, Some, ap, ◌∙◌, subst, mul-le-mul_right, mul-le-mul_left, zero-add, arith}
use native.Mathlib.Nat.{mul-sub}
use Rattle.std.specs.List.{range_with_len, AllByRecursion}
use Rattle.tables.specs.declared.points.Point.{Point}
use Rattle.tables.specs.Table.{Table, NeverFalls, diagonal}
use Rattle.tables.specs.Log.{Rising, last_of, IsLog, span_of, fresh, Agrees, inner_of, width, gap_widths}
use Rattle.tables.specs.Least.{unevenness}
use Rattle.tables.specs.Plan.{first_unknown, lowest_unknown, or_else, stops, equal_spacing}
use Rattle.tables.specs.Run.{Run, WholeRun, spent, asks}
use Rattle.tables.specs.Theorems.{ceiling, SpacingIsLawful, SpacingAsksStops, SpacingOnDiagonal, SpacingOnAnyTable}
use Rattle.tables.proofs.Limits.{width_is_gaps}
use Rattle.tables.proofs.LeastWidth.{gap_lengths, Even, lengths_cut, diagonal_gaps, even_is_least}
use Rattle.tables.proofs.Runs.{run_is_unique, lawful_asks_all}
use Rattle.tables.proofs.Unknown.{or_else_lawful, first_askable}
use Rattle.tables.proofs.Stops.{point_of, spaced, log_at, cut_at, even_step, ceiling_step, cut_climbs, last_spaced, span_at, next_stop, insert_next, lengths_by}

-- equal spacing is a lawful plan
pub spacing_is_lawful : SpacingIsLawful
spacing_is_lawful n = or_else_lawful (λ log. first_unknown log (stops (span_of log) n)) (λ k log i. first_askable k log i (stops (span_of log) n))

-- the log of a table after j stops of the even cut of N into n + 1 parts
abbrev after : Table → ℕ → ℕ → ℕ → List Point
after t N n = log_at t (cut_at N (n + 1)) N

module _ (t : Table) (N n : ℕ) (fits : n < N) where
  -- the plan's answer to it is the next stop
  asks_next : (j : ℕ) → j < n → equal_spacing n (after t N n j) ≡ Some (cut_at N (n + 1) (j + 1))
  asks_next j h =
      let log = after t N n j in
      ap (λ s. or_else (first_unknown log (stops s n)) (lowest_unknown log)) (span_at t (cut_at N (n + 1)) N n (cut_climbs N n fits) j)
      ∙ ap (λ o. or_else o (lowest_unknown log)) (next_stop t (cut_at N (n + 1)) N n (cut_climbs N n fits) j 1 n (omega arith) (omega arith) h)

  -- from there on it asks the stops that are left
  run_from : (k j : ℕ) → j + k ≡ n → Run (equal_spacing n) t k (after t N n j) (map (cut_at N (n + 1)) (range_with_len (j + 1) k)) (after t N n n)
  run_from zero j e = let d : j ≡ n = omega arith in rw d spent
  run_from (suc k) j e = asks (asks_next j (omega arith)) (rw (insert_next t (cut_at N (n + 1)) N n (cut_climbs N n fits) j (omega arith)) (run_from k (j + 1) (omega arith)))

  -- a whole run asks the stops and leaves the log of all of them
  whole_run : (xs : List ℕ) (end : List Point) → WholeRun (equal_spacing n) t N n xs end → (xs ≡ stops N n) × (end ≡ after t N n n)
  whole_run xs end run =
      let start = ap (λ x. point_of t x ∷ point_of t N ∷ []) (cut_climbs N n fits).first in
      run_is_unique (equal_spacing n) t n (fresh N (t 0) (t N)) xs (stops N n) end (after t N n n) run
      (subst (λ log. Run (equal_spacing n) t n log (stops N n) (after t N n n)) start (run_from n 0 (zero-add n)))

  -- what holds of no length, and of one more by a step of the cut, holds of the lengths that it leaves
  lengths_left : (F : List ℕ → Type 0) → F [] → ((j : ℕ) (ls : List ℕ) → F ls → F ((cut_at N (n + 1) (j + 1) - cut_at N (n + 1) j) ∷ ls)) → F (gap_lengths (after t N n n))
  lengths_left F none more = lengths_by t (cut_at N (n + 1)) N n (cut_climbs N n fits) F none more 0 n (zero-add n)

-- the stops are asked in their order
pub spacing_asks_stops : SpacingAsksStops
spacing_asks_stops t N n fits xs end run = (whole_run t N n fits xs end run).0

-- the diagonal never falls
pub diagonal_climbs : (c N : ℕ) → NeverFalls (diagonal c) 0 N
diagonal_climbs c N i j _ h _ = mul-le-mul_left c h

-- on the diagonal the width of a log is c times the unevenness of its lengths
diagonal_width : (c N : ℕ) (log : List Point) → IsLog N log → Agrees (diagonal c) log → width log ≡ c * unevenness (gap_lengths log)
diagonal_width c N [] i a = elim i [ ]
diagonal_width c N (p ∷ ps) i a = (width_is_gaps N (p ∷ ps) i).1 ∙ diagonal_gaps c p ps i.2 a

-- on the diagonal it leaves c times the least width
pub spacing_on_diagonal : SpacingOnDiagonal
spacing_on_diagonal c N n fits xs end run =
    let asked = lawful_asks_all (equal_spacing n) (spacing_is_lawful n) (diagonal c) N n (diagonal_climbs c N) fits xs end run in
    let cut = lengths_cut N n end asked.is_log asked.points in
    let even = lengths_left (diagonal c) N n fits (Even (N / (n + 1))) tt (λ j ls h. (even_step N (n + 1) j (omega arith), h)) in
    diagonal_width c N end asked.is_log asked.agrees
    ∙ ap (λ w. c * w) (even_is_least N n (gap_lengths end) cut.0 cut.2 (rw (whole_run (diagonal c) N n fits xs end run).1 even))

-- one gap more of at most m inner arguments
gap_more : (i m u v w z : ℕ) → i ≤ m → u ≤ v → w + m * v ≤ z → i * (v - u) + w + m * u ≤ z
gap_more i m u v w z h k l = go (v - u) (omega arith)
  where
    go : (d : ℕ) → v ≡ u + d → i * d + w + m * u ≤ z
    go d e = omega (arith, mul-le-mul_right d h, ap (λ x. m * x) e)

-- where every gap has at most m inner arguments, the widths add up to at most m times the whole rise
narrow_gaps : (m : ℕ) (p : Point) (ps : List Point) → Rising p ps → AllByRecursion (λ l. l - 1 ≤ m) (gap_lengths (p ∷ ps)) → gap_widths (p ∷ ps) + m * p.value ≤ m * (last_of p ps).value
narrow_gaps m p [] r h = omega arith
narrow_gaps m p (q ∷ ps) r h = gap_more (inner_of p q) m p.value q.value (gap_widths (q ∷ ps)) (m * (last_of q ps).value) h.0 r.1 (narrow_gaps m q ps r.2 h.1)

-- m times a rise, from m times its two ends
rise_times : (w m u v a b : ℕ) → a ≡ u → b ≡ v → w + m * a ≤ m * b → w ≤ m * (v - u)
rise_times w m u v a b d e h = rw (mul-sub, ← d, ← e) (omega arith)

-- the log that equal spacing leaves has at most the ceiling less 1 times the whole rise
spacing_gaps : (t : Table) (N n : ℕ) → n < N → IsLog N (after t N n n) → gap_widths (after t N n n) ≤ (ceiling N (n + 1) - 1) * (t N - t 0)
spacing_gaps t N n fits i =
    let m = ceiling N (n + 1) - 1 in
    let climbs = cut_climbs N n fits in
    let p = point_of t (cut_at N (n + 1) 0) in
    let ps = spaced t (cut_at N (n + 1)) N 1 n in
    let short = lengths_left t N n fits (AllByRecursion (λ l. l - 1 ≤ m)) tt (λ j ls h. (omega (arith, ceiling_step N (n + 1) j (omega arith)), h)) in
    rise_times (gap_widths (p ∷ ps)) m (t 0) (t N) p.value (last_of p ps).value
    (ap t climbs.first)
    (ap (λ q. q.value) (last_spaced t (cut_at N (n + 1)) N n climbs p 1 n))
    (narrow_gaps m p ps i.2 short)

-- on any table it leaves at most that
pub spacing_on_any_table : SpacingOnAnyTable
spacing_on_any_table t N n falls fits xs end run =
    let log = (lawful_asks_all (equal_spacing n) (spacing_is_lawful n) t N n falls fits xs end run).is_log in
    let same = (whole_run t N n fits xs end run).1 in
    rw ((width_is_gaps N end log).1, same) (spacing_gaps t N n fits (rw same at log))
