-- What a run on the diagonal shows of every other logger, and which plan is best. Assumes nothing.
use Rattle.std.proofs.Common.{◌≡◌, ℕ, ◌+◌, ◌-◌, ◌*◌, ◌/◌, ◌%◌, ◌<◌, ◌≤◌, List, [], ◌∷◌, refl, ap, mul_left_comm, arith}
use native.Mathlib.Nat.{sub-zero, div-add-mod, div-eq_of_lt-le}
use Rattle.tables.specs.declared.points.Point.{Point}
use Rattle.tables.specs.Table.{Table, sum_of, diagonal}
use Rattle.tables.specs.Log.{IsLog, Agrees, low, high, width, low_table, high_table, fresh}
use Rattle.tables.specs.Least.{least_width}
use Rattle.tables.specs.Plan.{Plan, Lawful, equal_spacing}
use Rattle.tables.specs.Run.{WholeRun}
use Rattle.tables.specs.Theorems.{Asked, ceiling}
use Rattle.tables.specs.Bench.{SameTable, SeesNoOther, Benched, Bench, Optimum}
use Rattle.tables.proofs.Limits.{width_is_gaps, squeezed_agrees, tables_of_log, limits_are_sharp}
use Rattle.tables.proofs.LeastWidth.{least_at_multiple}
use Rattle.tables.proofs.Runs.{run_exists, run_is_unique, same_run, lawful_asks_all}
use Rattle.tables.proofs.Steep.{diagonal_floor}
use Rattle.tables.proofs.Spacing.{spacing_is_lawful, diagonal_climbs, spacing_on_any_table}

-- a table agrees with a log where one with the same values up to the log's span does
same_agrees : (N : ℕ) (t u : Table) (log : List Point) → IsLog N log → SameTable N t u → Agrees u log → Agrees t log
same_agrees N t u [] l same a = tt
same_agrees N t u (p ∷ ps) l same a =
    squeezed_agrees u t u p ps l.2 (λ x _ h. omega (arith, same x (omega arith))) a a

-- on a table that agrees with the log that a run leaves, the plan sees no other
sees_no_other :
    (plan : Plan) (t u : Table) (N n : ℕ) (xs : List ℕ) (end : List Point) → WholeRun plan t N n xs end → Agrees u end →
    SeesNoOther plan u N n xs end
sees_no_other plan t u N n xs end run a =
    let again = same_run plan t u N n xs end run a in
    record {
      runs = (xs, end, again);
      alike = λ ys stop other.
          let one = run_is_unique plan u n (fresh N (u 0) (u N)) ys xs stop end other again in
          (one.0, ap low one.1, ap high one.1);
    }

module _
    (plan : Plan) (lawful : Lawful plan) (c N n : ℕ) (fits : n < N) (xs : List ℕ) (end : List Point)
    (run : WholeRun plan (diagonal c) N n xs end) where
  -- what a lawful plan does on the diagonal
  on_diagonal : Asked (diagonal c) N n xs end
  on_diagonal = lawful_asks_all plan lawful (diagonal c) N n (diagonal_climbs c N) fits xs end run

  -- it leaves at least c times the least width
  floor_on_diagonal : c * least_width N n ≤ width end
  floor_on_diagonal = diagonal_floor c N n end on_diagonal.is_log on_diagonal.agrees on_diagonal.points

  -- on a table with the values of one that agrees with the log it leaves, the plan sees no other
  sees : (t u : Table) → Agrees u end → SameTable N t u → SeesNoOther plan t N n xs end
  sees t u a same = sees_no_other plan (diagonal c) t N n xs end run (same_agrees N t u end on_diagonal.is_log same a)

  -- so the run is benched
  benched : Benched plan c N n xs end
  benched =
      let ts = tables_of_log N end on_diagonal.is_log in
      record {
        low_never_falls = ts.low_never_falls;
        high_never_falls = ts.high_never_falls;
        on_low = λ t. sees t (low_table end) ts.low_agrees;
        on_high = λ t. sees t (high_table end) ts.high_agrees;
        apart = omega (arith, ts.low_sum, ts.high_sum, width_is_gaps N end on_diagonal.is_log);
        floor = floor_on_diagonal;
      }

-- every lawful plan's run on the diagonal exists and is benched
pub bench : Bench
bench plan lawful c N n fits =
    (run_exists plan (diagonal c) n (fresh N (diagonal c 0) (diagonal c N)), benched plan lawful c N n fits)

-- the ceiling of an exact quotient is the quotient
ceiling_exact : (N k : ℕ) → 0 < k → N % k ≡ 0 → ceiling N k ≡ N / k
ceiling_exact N k h e = div-eq_of_lt-le k (omega (arith, div-add-mod N k)) (omega (arith, div-add-mod N k))

-- so the bound on any table from 0 to c × N is c times the least width
exact_bound : (c N n : ℕ) → N % (n + 1) ≡ 0 → (ceiling N (n + 1) - 1) * (c * N - 0) ≡ c * least_width N n
exact_bound c N n e =
    rw (ceiling_exact N (n + 1) (omega arith) e, least_at_multiple N n e, sub-zero) (mul_left_comm (N / (n + 1) - 1) c N)

-- where n + 1 divides N no plan is better than equal spacing
pub optimum : Optimum
optimum c N n fits even = record {
  spacing = λ t falls bottom top xs end run.
      let asked = lawful_asks_all (equal_spacing n) (spacing_is_lawful n) t N n falls fits xs end run in
      let most = spacing_on_any_table t N n falls fits xs end run in
      record {
        holds = (limits_are_sharp N end asked.is_log (sum_of t N)).1 (t, falls, asked.agrees, refl);
        narrow = rw (← exact_bound c N n even) (rw (top, bottom) at most);
      };
  others = λ plan lawful. floor_on_diagonal plan lawful c N n fits;
}
