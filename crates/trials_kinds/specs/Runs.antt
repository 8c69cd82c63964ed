-- What runs of both plans find on a logger. Assumes nothing.
use Rattle.std.specs.Prelude.{◌≡◌, ℕ, List, [], ◌∷◌}
use Rattle.plans.specs.Widest.{widest_rectangle}
use Rattle.readout.specs.Levels.{levels}
use Rattle.tables.specs.declared.points.Point.{Point}
use Rattle.tables.specs.Log.{SharpLimits}
use Rattle.tables.specs.Plan.{Plan, equal_spacing}
use Rattle.tables.specs.Run.{WholeRun}
use Rattle.tables.specs.Table.{Table}
use Rattle.trials_kinds.specs.declared.runs.Both.{Both}
use Rattle.trials_kinds.specs.declared.runs.Found.{Found}

-- what the plan's run with n questions on a table t of span N finds: it asks them all,
-- and has the limits of the sum and of the total of levels by the log that it leaves
pub record FoundOn (plan : Plan) (t : Table) (N n : ℕ) (f : Found) : Type 0 where
  pub questions : List ℕ
  pub log : List Point
  pub run : WholeRun plan t N n questions log
  pub asked : f.asked ≡ n
  pub sum : SharpLimits log f.sum.low f.sum.high
  pub total : f.levels ≡ levels log

-- the same of equal spacing, made for n, and of the widest rectangle
pub record BothOn (t : Table) (N n : ℕ) (b : Both) : Type 0 where
  pub spacing : FoundOn (equal_spacing n) t N n b.spacing
  pub widest : FoundOn widest_rectangle t N n b.widest

-- the number asked, low and high
abbrev pub sums : Found → List ℕ
sums f = f.asked ∷ f.sum.low ∷ f.sum.high ∷ []
