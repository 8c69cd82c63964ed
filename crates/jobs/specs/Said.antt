-- The jobs of the code, which keep a table's values in fixed memory and name a run's plan. Assumes nothing.
use Rattle.std.specs.Prelude.{ℕ, Some, None, Option}
use Rattle.plans.specs.declared.ways.Way.{Way}
use Rattle.plans.specs.declared.ways.Way.TheVariants.{EqualSpacing, WidestRectangle}
use Rattle.jobs.specs.declared.jobs.Job.{Job as Kept}
use Rattle.jobs.specs.declared.jobs.Job.TheVariants as kept
use Rattle.jobs.specs.Values.{listed}
use Rattle.jobs.specs.Jobs.{Job, diagonal, table, spacing, widest}

-- a run by its plan
abbrev pub run : Way → ℕ → Job
run EqualSpacing questions = spacing questions
run WidestRectangle questions = widest questions

-- a job by what it asks for
abbrev pub job : Kept → Job
job (kept.Diagonal span rise) = diagonal span rise
job (kept.Table values) = table (listed values)
job (kept.Run way questions) = run way questions

-- the same, where there may be none
abbrev pub said : Option Kept → Option Job
said None = None
said (Some j) = Some (job j)
