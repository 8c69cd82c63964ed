-- The mean of the readings counted, in their own unit. Assumes nothing.
use Rattle.std.specs.Prelude.{ℕ, ◌-◌, ◌/◌, cond, List, length, ℤ, pos, ◌+ℤ◌, ◌-ℤ◌, ◌*ℤ◌, ◌≤ℤ◌, Some, None, Option, ◌==◌}
use Rattle.readout.specs.Levels.{levels, last_everywhere}
use Rattle.tables.specs.declared.points.Point.{Point}
use Rattle.tables.specs.Log.{Agrees, last_value, span_of}
use Rattle.tables.specs.Table.{Table, NeverFalls, sum_of}
use Rattle.tables.specs.Theorems.{ceiling}
use Rattle.certificates.specs.declared.means.Mean.{Mean}

-- the mean of the readings that a log counts, in a unit whose 0 has the level z: the limits of the total of levels
-- by the number of readings, the low one rounded down and the high one up, and moved back by z; none of no readings
abbrev pub mean_of : ℕ → List Point → Option Mean
mean_of z log =
    let b = last_value log in
    cond (b == 0) None
    (Some (record {
      low = pos ((levels log).low / b) -ℤ pos z;
      high = pos (ceiling (levels log).high b) -ℤ pos z;
      questions = length log - 2;
    }))

-- the mean of b readings with this total of levels, moved back by z, is from l to h:
-- b × (l + z) ≤ total ≤ b × (h + z)
abbrev pub MeanWithin : ℕ → ℕ → ℕ → ℤ → ℤ → Type 0
MeanWithin z b total l h = ((pos b *ℤ (l +ℤ pos z)) ≤ℤ pos total) × (pos total ≤ℤ (pos b *ℤ (h +ℤ pos z)))

-- of every table that never falls and agrees with the log, the mean is from l to h
abbrev pub Covers : ℕ → List Point → ℤ → ℤ → Type 0
Covers z log l h =
    (t : Table) → NeverFalls t 0 (span_of log) → Agrees t log → MeanWithin z (last_value log) (last_everywhere log - sum_of t (span_of log)) l h

-- the limits of a mean are never too narrow, and no whole numbers closer together would do
pub record SharpMean (z : ℕ) (log : List Point) (m : Mean) : Type 0 where
  pub covers : Covers z log m.low m.high
  pub tight : (l h : ℤ) → Covers z log l h → (l ≤ℤ m.low) × (m.high ≤ℤ h)
