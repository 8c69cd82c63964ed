-- What the log of a readout by equal spacing certifies. Assumes nothing.
use Rattle.std.proofs.Common.{◌≡◌, ℕ, ◌+◌, ◌-◌, ◌*◌, ◌≤◌, leb, List, length, Some, None, Option, sym, refl, ap, ◌∙◌, subst, arith, MatchOption}
use Rattle.std.proofs.lemmas.List.Sums.{count_by-le-length}
use Rattle.counters.specs.Counting.{counter_table, never_falls}
use Rattle.counters.proofs.Totals.{counted_total}
use Rattle.readout.specs.Levels.{levels, last_everywhere}
use Rattle.tables.specs.declared.points.Point.{Point}
use Rattle.tables.specs.Log.{IsLog, span_of, first_value, last_value}
use Rattle.tables.specs.Plan.{equal_spacing}
use Rattle.tables.specs.Table.{Table, sum_of}
use Rattle.tables.specs.Theorems.{Asked, promise}
use Rattle.tables.proofs.Ends.{last_value_lem, log_promise}
use Rattle.tables.proofs.Limits.{limits_are_sharp}
use Rattle.tables.proofs.Runs.{lawful_asks_all}
use Rattle.tables.proofs.Spacing.{spacing_is_lawful}
use Rattle.tables.proofs.Unknown.{span_of_log}
use Rattle.certificates.specs.declared.certifying.Certificate.{Certificate}
use Rattle.certificates.specs.declared.means.Mean.{Mean}
use Rattle.certificates.specs.Certified.{Certified, true_total}
use Rattle.certificates.specs.Means.{mean_of, MeanWithin, SharpMean}
use Rattle.certificates.specs.Readouts.{SpacedLog}

module _ {X : Type 0} (level : X → ℕ) (rs : List X) (N n : ℕ) (log : List Point) (s : SpacedLog (counter_table level rs) N n log) where
  -- the counter's table
  abbrev t : Table
  t = counter_table level rs

  -- the log of the run
  asked : Asked t N n s.questions log
  asked = lawful_asks_all (equal_spacing n) (spacing_is_lawful n) t N n (never_falls level rs N) s.few s.questions log s.run

  span_is : span_of log ≡ N
  span_is = span_of_log N log asked.is_log

  is : IsLog (span_of log) log
  is = subst (λ k. IsLog k log) (sym span_is) asked.is_log

  last_is : last_value log ≡ t N
  last_is = last_value_lem t N log asked.is_log asked.agrees

  -- no more readings are counted than there are
  pub counted_le : last_value log ≤ length rs
  counted_le = omega (arith, last_is, count_by-le-length (λ r. leb (level r) N) rs)

  -- what the sum of the counter's table leaves is the true total
  total_is : last_everywhere log - sum_of t (span_of log) ≡ true_total level rs N
  total_is = (λ i. last_is i * (span_is i + 1) - sum_of t (span_is i)) ∙ sym (counted_total level rs N).total

  -- and lies within the limits
  within : ((levels log).low ≤ true_total level rs N) × (true_total level rs N ≤ (levels log).high)
  within =
      let h = (limits_are_sharp (span_of log) log is (sum_of t (span_of log))).1 (t, never_falls level rs (span_of log), asked.agrees, refl) in
      (omega (arith, total_is, h.0, h.1), omega (arith, total_is, h.0, h.1))

  -- the true mean lies within the limits of the mean
  true_mean_lem : (z counted : ℕ) → counted ≡ last_value log → (o : Option Mean) → MatchOption o (last_value log ≡ 0) (SharpMean z log) → MatchOption o (counted ≡ 0) (λ m. MeanWithin z counted (true_total level rs N) m.low m.high)
  true_mean_lem z counted e None none = e ∙ none
  true_mean_lem z counted e (Some m) sharp =
      subst (λ (k : ℕ × ℕ). MeanWithin z k.0 k.1 m.low m.high) (λ i. (sym e i, total_is i)) (sharp.covers t (never_falls level rs (span_of log)) asked.agrees)

  -- the case of no mean, by the readings counted
  by_counted : (z counted : ℕ) → counted ≡ last_value log → (o : Option Mean) → MatchOption o (last_value log ≡ 0) (SharpMean z log) → MatchOption o (counted ≡ 0) (SharpMean z log)
  by_counted z counted e None none = e ∙ none
  by_counted z counted e (Some m) sharp = sharp

  -- a certificate with these figures
  pub drawn :
      (z : ℕ) (c : Certificate) → c.span ≡ N → c.questions ≡ n → c.counted ≡ last_value log → c.out_of_range ≡ length rs - c.counted →
      c.total ≡ levels log → c.mean ≡ mean_of z log → MatchOption c.mean (last_value log ≡ 0) (SharpMean z log) →
      c.width ≡ c.total.high - c.total.low → c.least ≡ promise (span_of log) (first_value log) (last_value log) (length log - 2) →
      Certified level z rs N n c
  drawn z c span questions counted out total mean sharp width least =
      record {
        span = span;
        questions = questions;
        counted = counted ∙ last_is;
        out_of_range = omega (arith, counted, out, counted_le);
        asked = s.questions;
        log = log;
        run = s.run;
        sharp_limits = record { low_is = refl; high_is = refl; sharp = limits_are_sharp (span_of log) log is };
        total = total;
        total_from = omega (arith, ap (λ l. l.low) total, within.0);
        total_to = omega (arith, ap (λ l. l.high) total, within.1);
        mean = mean;
        true_mean = true_mean_lem z c.counted counted c.mean sharp;
        sharp_mean = by_counted z c.counted counted c.mean sharp;
        width = width;
        least = least ∙ log_promise t N n s.questions log asked;
      }
