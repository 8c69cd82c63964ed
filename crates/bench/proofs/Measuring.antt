-- What a run on the diagonal comes to. Assumes nothing.
use Rattle.std.proofs.Common.{◌≡◌, ℕ, ◌+◌, ◌-◌, ◌*◌, ◌^◌, ◌<◌, ◌≤◌, min, Bool, false, ltb, List, length, None, Ok, Err, Result, IsOk, rules, ap, ◌∙◌, subst, mul-le-mul_left, arith}
use Rattle.std.proofs.lemmas.Nat.{mul-le}
use Rattle.std.proofs.lemmas.Bool.{or_parts, ltb-false, le-ltb}
use Rattle.denials.specs.declared.Denial.{Denial}
use Rattle.denials.specs.Bounds.{bad_budget}
use Rattle.denials.specs.Checks.{Decided}
use Rattle.denials.specs.Told.{told}
use Rattle.denials.proofs.Passing.{promised, accepted}
use Rattle.logs.specs.Buffers.{written, too_short}
use Rattle.loggers.specs.declared.diagonals.Diagonal.{Diagonal}
use Rattle.tables.specs.declared.points.Point.{Point}
use Rattle.tables.specs.Least.{least_width}
use Rattle.tables.specs.Log.{span_of, low_table, high_table}
use Rattle.tables.specs.Plan.{Plan, Lawful}
use Rattle.tables.specs.Table.{Table, diagonal}
use Rattle.tables.specs.Theorems.{Asked}
use Rattle.tables.proofs.Benching.{bench}
use Rattle.tables.proofs.LeastWidth.{least_le_square}
use Rattle.tables.proofs.Limits.{width_is_gaps}
use Rattle.tables.proofs.Runs.{lawful_asks_all}
use Rattle.tables.proofs.Unknown.{span_of_log}
use Rattle.readout.specs.Views.{View}
use Rattle.bench.specs.declared.running.Ran.{Ran}
use Rattle.bench.specs.declared.scoring.Widths.{Widths}
use Rattle.bench.specs.Runs.{run_denied, RanOn}
use Rattle.bench.specs.Scores.{score_denied, Fit, Scored}

-- a budget that is accepted is below the span
pub budget_below : (N n : ℕ) → 1 ≤ N → bad_budget N n ≡ false → n < N
budget_below N n some h = omega (arith, ltb-false (N - 1) n (or_parts (ltb 254 n) (ltb (N - 1) n) h).1)

-- the least width on a diagonal of 32 bits has 64 bits
pub least_on_fits : (c N n a b l : ℕ) → a ≡ c → b ≡ N → l ≡ least_width b n → N ≤ 1000000 → c * N < 2 ^ 32 → a * l < 2 ^ 64
least_on_fits c N n a b l e f g short fits = rw (e, g, f) (over (least_width N n) (least_le_square N n))
  where
    over : (k : ℕ) → k ≤ N * N → c * k < 2 ^ 64
    over k h = omega (arith, mul-le-mul_left c h, mul-le (c * N) N (2 ^ 32) 1000000 (omega arith) short)

-- a row with room for a table takes it
pub wrote : (N len : ℕ) → N < len → (r : Result (Unit {0}) Denial) (P : Unit {0} → Type 0) (Q : Type 0) → Decided told (too_short N len) r P Q → IsOk r × P tt
wrote N len room r P Q decided = go r (rw (le-ltb len (N + 1) (omega arith)) at decided)
  where
    go : (r : Result (Unit {0}) Denial) → Decided told None r P Q → IsOk r × P tt
    go (Ok _) p = (search rules, p)
    go (Err e) p = absurd p

-- a diagonal that no check of a score refused, and what a run on it gave
module _ (plan : Plan) (lawful : Lawful plan) (N c n a b : ℕ) (d : Diagonal) (passed : Decided {E = Denial} told (score_denied N c n a b) (Ok d) (Fit N c n a b) (Unit {0})) where
  fit : Fit N c n a b d
  fit = promised told (score_denied N c n a b) d (Fit N c n a b) (Unit {0}) passed

  few : n < d.span
  few = omega (arith, fit.span, budget_below N n (omega (arith, fit.span, d.long)) fit.budget)

  module _ (awake : Bool) (v : View) (Q : Type 0) (out : Result Ran Denial) (decided : Decided told (run_denied awake d.span n) out (RanOn plan (diagonal d.rise) d.span n 0 v) Q) (r : Ran) (is : out ≡ Ok r) where
    abbrev Gave : Ran → Type 0
    Gave = RanOn plan (diagonal d.rise) d.span n 0 v

    abbrev end : List Point
    end = v.points

    on : Gave r
    on = promised told (run_denied awake d.span n) r Gave Q (subst (λ o. Decided told (run_denied awake d.span n) o Gave Q) is decided)

    asked_all_lem : Asked (diagonal d.rise) d.span n on.questions end
    asked_all_lem = lawful_asks_all plan lawful (diagonal d.rise) d.span n (λ i j _ le _. mul-le-mul_left d.rise le) few on.questions end on.run

    span_is : span_of end ≡ d.span
    span_is = span_of_log d.span end asked_all_lem.is_log

    -- its limits are in order
    pub in_order : r.low ≤ r.high
    in_order = omega (arith, on.limits.low_is, on.limits.high_is, (width_is_gaps d.span end asked_all_lem.is_log).0)

    -- a table of its log goes into a row that is as long as the shorter one
    pub row :
        (log : List Point) → log ≡ end → (table : List Point → Table) (before after : List ℕ) → min a b ≤ length before →
        (w : Result (Unit {0}) Denial) (Q : Type 0) → Decided told (too_short (span_of log) (length before)) w (λ _. after ≡ written (table log) (span_of log) before) Q →
        IsOk w × (after ≡ written (table end) d.span before)
    row log same table before after fits w Q did =
        let span = ap span_of same ∙ span_is in
        let done = wrote (span_of log) (length before) (omega (arith, span, fit.span, fit.low_fits, fit.high_fits)) w _ Q did in
        (done.0, done.1 ∙ (λ i. written (table (same i)) (span i) before))

    -- and it is scored by them
    pub scored :
        (s : Widths) → s.width ≡ r.high - r.low → s.least ≡ d.rise * least_width d.span n →
        (low-old low-new high-old high-new : List ℕ) → low-new ≡ written (low_table end) d.span low-old → high-new ≡ written (high_table end) d.span high-old → (Q : Type 0) →
        Decided told (score_denied N c n a b) (Ok s) (Scored plan c N n low-old low-new high-old high-new) Q
    scored s wide least low-old low-new high-old high-new low_row high_row Q =
        accepted told (score_denied N c n a b) d s (Fit N c n a b) (Unit {0}) (Scored plan c N n low-old low-new high-old high-new) Q passed
        (subst (λ (k : ℕ × ℕ). Scored plan k.0 k.1 n low-old low-new high-old high-new s) (λ i. (fit.rise i, fit.span i)) (record {
          questions = on.questions;
          log = end;
          run = on.run;
          width_is = wide ∙ (λ i. on.limits.high_is i - on.limits.low_is i);
          least_is = least;
          low_row = low_row;
          high_row = high_row;
          benched = (bench plan lawful d.rise d.span n few).1 on.questions end on.run;
        }))
