-- The limits of a mean are sharp. Assumes nothing.
use Rattle.std.proofs.Common.{◌≡◌, ℕ, ◌+◌, ◌-◌, ◌/◌, ◌%◌, ◌<◌, min, List, length, ℤ, pos, ◌-ℤ◌, ◌≤ℤ◌, Some, sym, refl, ◌∙◌, arith}
use Rattle.std.proofs.lemmas.Bool.{cond-false, ne_eqb}
use Rattle.logs.specs.declared.limits.Limits.{Limits}
use Rattle.readout.specs.Levels.{levels}
use Rattle.tables.specs.declared.points.Point.{Point}
use Rattle.tables.specs.Log.{IsLog, last_value, span_of, low_table, high_table}
use Rattle.tables.specs.Table.{sum_of}
use Rattle.tables.specs.Theorems.{ceiling}
use Rattle.tables.proofs.Limits.{limits_are_sharp, tables_of_log}
use Rattle.certificates.specs.declared.means.Mean.{Mean}
use Rattle.certificates.specs.Means.{mean_of, Covers, SharpMean}
use Rattle.certificates.proofs.Rounding.{rounded_up, low_covers, high_covers, low_tight, high_tight}

module _ (z : ℕ) (log : List Point) (is : IsLog (span_of log) log) (some : 0 < last_value log) where
  -- the mean of no agreeing table lies outside
  covers : Covers z log (pos ((levels log).low / last_value log) -ℤ pos z) (pos (ceiling (levels log).high (last_value log)) -ℤ pos z)
  covers t never agrees =
      let within = (limits_are_sharp (span_of log) log is (sum_of t (span_of log))).1 (t, never, agrees, refl) in (
        low_covers (levels log).low (last_value log) z _ (omega (arith, within.0, within.1)),
        high_covers (levels log).high (last_value log) z _ some (omega (arith, within.0, within.1)),
      )

  -- the low table has the greatest mean and the high one the least, so nothing closer together would do
  tight : (l h : ℤ) → Covers z log l h → (l ≤ℤ (pos ((levels log).low / last_value log) -ℤ pos z)) × ((pos (ceiling (levels log).high (last_value log)) -ℤ pos z) ≤ℤ h)
  tight l h c =
      let ts = tables_of_log (span_of log) log is in
      let least = (c (high_table log) ts.high_never_falls ts.high_agrees).0 in
      let most = (c (low_table log) ts.low_never_falls ts.low_agrees).1 in (
        low_tight (levels log).low (last_value log) z l some (rw ts.high_sum at least),
        high_tight (levels log).high (last_value log) z h some (rw ts.low_sum at most),
      )

  -- a mean with these limits is the mean of the log, and sharp
  pub sharp_mean_lem :
      (m : Mean) → m.low ≡ pos ((levels log).low / last_value log) -ℤ pos z → m.high ≡ pos (ceiling (levels log).high (last_value log)) -ℤ pos z → m.questions ≡ length log - 2 →
      (Some m ≡ mean_of z log) × SharpMean z log m
  sharp_mean_lem m low high questions = (
    (λ i. Some (record { low = low i; high = high i; questions = questions i })) ∙ sym (cond-false _ _ _ (ne_eqb (last_value log) 0 (λ e. omega arith))),
    record { covers = rw (low, high) covers; tight = rw (low, high) tight },
  )

-- the same of numbers that were worked out from the log
pub mean_so :
    (z : ℕ) (log : List Point) → IsLog (span_of log) log → (b : ℕ) → b ≡ last_value log → 0 < b → (total : Limits) → total ≡ levels log →
    (origin up : ℕ) → origin ≡ z → up ≡ total.high / b + min 1 (total.high % b) →
    (m : Mean) → m.low ≡ pos (total.low / b) -ℤ pos origin → m.high ≡ pos up -ℤ pos origin → m.questions ≡ length log - 2 →
    (Some m ≡ mean_of z log) × SharpMean z log m
mean_so z log is b last some total t origin up e u m low high questions =
    let rounded : up ≡ ceiling (levels log).high (last_value log) = u ∙ rounded_up total.high b some ∙ (λ i. ceiling (t i).high (last i)) in
    sharp_mean_lem z log is (omega (arith, last)) m
    (low ∙ (λ i. pos ((t i).low / last i) -ℤ pos (e i)))
    (high ∙ (λ i. pos (rounded i) -ℤ pos (e i)))
    questions
