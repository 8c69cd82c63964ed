-- The total of levels: by how much a table's sum stays below its last value at every argument. Assumes nothing.
use Rattle.std.specs.Prelude.{ℕ, ◌+◌, ◌-◌, ◌*◌, ◌≤◌, List}
use Rattle.logs.specs.declared.limits.Limits.{Limits}
use Rattle.tables.specs.declared.points.Point.{Point}
use Rattle.tables.specs.Log.{last_value, span_of, low, high}

-- the last value of a log, once for each argument
abbrev pub last_everywhere : List Point → ℕ
last_everywhere log = last_value log * (span_of log + 1)

-- the limits of the total of levels
abbrev pub levels : List Point → Limits
levels log = record { low = last_everywhere log - high log; high = last_everywhere log - low log }

-- no limit of the log is above n, so that n less a limit cuts nothing off
pub record Above (log : List Point) (n : ℕ) : Type 0 where
  pub low_le : low log ≤ n
  pub high_le : high log ≤ n
