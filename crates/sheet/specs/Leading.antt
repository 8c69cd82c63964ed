-- What each line of a sheet leads to. Assumes nothing.
use Rattle.std.specs.Prelude.{ℕ, ◌-◌, List, [], length, Some, None, Ok, Err, Option}
use Rattle.bench.specs.Runs.{budget_denied}
use Rattle.jobs.specs.Jobs.{Job, diagonal, table, spacing, widest}
use Rattle.loggers.specs.Makings.{diagonal_denied, table_denied}
use Rattle.loggers.specs.Meaning.{row_table}
use Rattle.plans.specs.declared.ways.Way.{Way}
use Rattle.plans.specs.declared.ways.Way.TheVariants.{EqualSpacing, WidestRectangle}
use Rattle.tables.specs.Table as tables
use Rattle.sheet.specs.Replying.{Reply}
use Rattle.sheet.specs.Running.{Figures, figures_of}
use Rattle.sheet.specs.Setting.{Setting}

-- what stands in the way of a run with n questions: no logger (13), or a budget that its span does not allow
abbrev pub run_stands : Setting → ℕ → Option (ℕ × List ℕ)
run_stands None n = Some (13, [])
run_stands (Some l) n = budget_denied l.1 n

-- what stands in the way of a job: the first denial of the call that it asks for
abbrev pub stands : Setting → Job → Option (ℕ × List ℕ)
stands s (diagonal N c) = diagonal_denied N c
stands s (table vs) = table_denied vs
stands s (spacing n) = run_stands s n
stands s (widest n) = run_stands s n

-- the figures of a run with n questions on the logger that is set
abbrev pub runs : Setting → Way → ℕ → Option Figures
runs None way n = None
runs (Some l) way n = Some (figures_of way l.0 l.1 n)

-- what a job does where nothing stands in its way: the logger that is set then, and the figures of its run
abbrev pub does : Setting → Job → Setting × Option Figures
does s (diagonal N c) = (Some (tables.diagonal c, N), None)
does s (table vs) = (Some (row_table vs, length vs - 1), None)
does s (spacing n) = (s, runs s EqualSpacing n)
does s (widest n) = (s, runs s WidestRectangle n)

-- a denial leaves the logger that is set
abbrev pub unless : Option (ℕ × List ℕ) → Setting → Setting × Option Figures → Setting × Reply
unless (Some d) s done = (s, Err d.0)
unless None s done = (done.0, Ok done.1)

-- what a line leads to, by what it asks for: one of another form is denied with 13
abbrev pub leads : Setting → Option Job → Setting × Reply
leads s None = (s, Err 13)
leads s (Some job) = unless (stands s job) s (does s job)
