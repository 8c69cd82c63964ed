-- A table that was read out by equal spacing. Assumes nothing.
use Rattle.std.specs.Prelude.{ℕ, ◌<◌, List}
use Rattle.tables.specs.declared.points.Point.{Point}
use Rattle.tables.specs.Plan.{equal_spacing}
use Rattle.tables.specs.Run.{WholeRun}
use Rattle.tables.specs.Table.{Table}

-- the log that equal spacing, made for n questions and run with n on a table of span N, leaves
pub record SpacedLog (t : Table) (N n : ℕ) (log : List Point) : Type 0 where
  pub questions : List ℕ
  pub run : WholeRun (equal_spacing n) t N n questions log
  pub few : n < N
