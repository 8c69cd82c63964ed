-- The report of a run. Assumes nothing.
use Rattle.std.specs.Prelude.{◌≡◌, ℕ, List, map}
use Rattle.loggers.specs.Meaning.{counted}
use Rattle.tables.specs.declared.points.Point.{Point}
use Rattle.tables.specs.Log.{SharpLimits}
use Rattle.tables.specs.Plan.{Plan}
use Rattle.tables.specs.Run.{WholeRun}
use Rattle.tables.specs.Table.{Table}
use Rattle.tables.specs.Theorems.{promise}
use Rattle.ask.specs.declared.answers.Answer.{Answer}
use Rattle.ask.specs.declared.runs.Report.{Report}

-- the argument x with the count there of a table t of span N
abbrev pub answer_at : Table → ℕ → ℕ → Answer
answer_at t N x = record { at = x; count = counted t N x }

-- the report of the plan's run with n questions on a table t of span N: the limits of the log that it leaves, sharp,
-- all n questions asked, the promise for them, and the questions that are listed, each with the table's count there
pub record Reported (plan : Plan) (t : Table) (N n : ℕ) (r : Report) : Type 0 where
  pub questions : List ℕ
  pub log : List Point
  pub run : WholeRun plan t N n questions log
  pub limits : SharpLimits log r.limits.low r.limits.high
  pub asked : r.asked ≡ n
  pub least : r.promise ≡ promise N (t 0) (t N) n
  pub listed : List ℕ
  pub counts : r.answers.items ≡ map (answer_at t N) listed
