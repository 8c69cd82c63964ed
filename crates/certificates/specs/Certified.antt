-- What a certificate says. Assumes nothing.
use Rattle.std.specs.Prelude.{◌≡◌, ℕ, ◌+◌, ◌-◌, ◌≤◌, List, length, MatchOption}
use Rattle.counters.specs.Counting.{counter_table}
use Rattle.counters.specs.Totals.{total_of_levels, counted_of}
use Rattle.readout.specs.Levels.{levels}
use Rattle.tables.specs.declared.points.Point.{Point}
use Rattle.tables.specs.Log.{SharpLimits, low, high}
use Rattle.tables.specs.Plan.{equal_spacing}
use Rattle.tables.specs.Run.{WholeRun}
use Rattle.tables.specs.Theorems.{promise}
use Rattle.certificates.specs.declared.certifying.Certificate.{Certificate}
use Rattle.certificates.specs.Means.{mean_of, MeanWithin, SharpMean}

-- the total of the levels of the readings counted up to N
abbrev pub true_total : {X : Type 0} → (X → ℕ) → List X → ℕ → ℕ
true_total level rs N = total_of_levels level (counted_of level rs N)

-- the certificate of the readings rs of a kind with these levels, in a unit whose 0 has the level z,
-- by equal spacing with n questions on the counter of span N
pub record Certified {X : Type 0} (level : X → ℕ) (z : ℕ) (rs : List X) (N n : ℕ) (c : Certificate) : Type 0 where
  pub span : c.span ≡ N
  pub questions : c.questions ≡ n
  -- the readings up to the span are counted, all others are out of range
  pub counted : c.counted ≡ counter_table level rs N
  pub out_of_range : c.counted + c.out_of_range ≡ length rs
  -- the run on the counter, and the log that it leaves with its limits
  pub asked : List ℕ
  pub log : List Point
  pub run : WholeRun (equal_spacing n) (counter_table level rs) N n asked log
  pub sharp_limits : SharpLimits log (low log) (high log)
  -- the limits of the total of levels, between which the true total lies
  pub total : c.total ≡ levels log
  pub total_from : c.total.low ≤ true_total level rs N
  pub total_to : true_total level rs N ≤ c.total.high
  -- the limits of the mean, between which the true mean lies, and no closer whole numbers would do; none of no readings
  pub mean : c.mean ≡ mean_of z log
  pub true_mean : MatchOption c.mean (c.counted ≡ 0) (λ m. MeanWithin z c.counted (true_total level rs N) m.low m.high)
  pub sharp_mean : MatchOption c.mean (c.counted ≡ 0) (SharpMean z log)
  -- the width, beside what no plan with as many questions can promise to undercut between the same ends
  pub width : c.width ≡ c.total.high - c.total.low
  pub least : c.least ≡ promise N (counter_table level rs 0) (counter_table level rs N) n
