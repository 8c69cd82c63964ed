-- A run as a function of the plan, the table and the log before it, and what is reported of it. Assumes nothing.
use Rattle.std.specs.Prelude.{ℕ, zero, suc, List, [], ◌∷◌, length, Some, None}
use Rattle.plans.specs.declared.ways.Way.{Way}
use Rattle.plans.specs.Ways.{plan_of}
use Rattle.tables.specs.declared.points.Point.{Point}
use Rattle.tables.specs.Log.{insert, fresh, low, high}
use Rattle.tables.specs.Plan.{Plan}
use Rattle.tables.specs.Table.{Table}
use Rattle.sheet.specs.declared.reports.Report.{Report}

-- one question before others, and the log that they leave
abbrev pub asked_first : ℕ → List ℕ × List Point → List ℕ × List Point
asked_first x later = (x ∷ later.0, later.1)

-- the questions that a plan asks with n questions left at a log, and the log that they leave
abbrev pub ran_from : Plan → Table → ℕ → List Point → List ℕ × List Point
ran_from plan t zero log = ([], log)
ran_from plan t (suc n) log =
    elim (plan log) [ None ↦ ([], log) | Some x ↦ asked_first x (ran_from plan t n (insert (record { at = x; value = t x }) log)) ]

-- a run from the ends of a table of span N on
abbrev pub ran_on : Plan → Table → ℕ → ℕ → List ℕ × List Point
ran_on plan t N n = ran_from plan t n (fresh N (t 0) (t N))

-- the figures of a run: whose plan was run, the span, the number of questions asked, and the limits
pub record Figures : Type 0 where
  pub way : Way
  pub span : ℕ
  pub asked : ℕ
  pub low : ℕ
  pub high : ℕ

-- the figures of a report
abbrev pub figures : Report → Figures
figures r = record { way = r.way; span = r.span; asked = r.asked; low = r.low; high = r.high }

-- the figures of the run of a plan, made for n questions, with n questions on a table of span N
abbrev pub figures_of : Way → Table → ℕ → ℕ → Figures
figures_of way t N n =
    record { way = way; span = N; asked = length (ran_on (plan_of way n) t N n).0; low = low (ran_on (plan_of way n) t N n).1; high = high (ran_on (plan_of way n) t N n).1 }
