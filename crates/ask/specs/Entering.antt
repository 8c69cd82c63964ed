-- What a line does. Assumes nothing.
use Rattle.std.specs.Prelude.{◌≡◌, ℕ, ◌-◌, List, length, Some, Ok, Err, vec_items, Option, Result}
use Rattle.std.specs.Option.{option_map}
use Rattle.bench.specs.Runs.{budget_denied}
use Rattle.denials.specs.Told.{told}
use Rattle.loggers.specs.Makings.{diagonal_denied, table_denied}
use Rattle.loggers.specs.Meaning.{row_table}
use Rattle.plans.specs.declared.ways.Way.{Way}
use Rattle.plans.specs.Ways.{plan_of}
use Rattle.tables.specs.Table.{diagonal}
use Rattle.ask.specs.declared.lines.Fault.{Fault}
use Rattle.ask.specs.declared.lines.Line.{Line}
use Rattle.ask.specs.declared.lines.Line.TheVariants as line
use Rattle.ask.specs.declared.runs.Report.{Report}
use Rattle.ask.specs.declared.sessions.Done.{Done}
use Rattle.ask.specs.declared.sessions.Done.TheVariants as done
use Rattle.ask.specs.declared.sessions.Refusal.{Refusal}
use Rattle.ask.specs.declared.sessions.Refusal.TheVariants as refusal
use Rattle.ask.specs.Reporting.{Reported}
use Rattle.ask.specs.Setting.{Held, nothing, row, slope}

-- why a line is refused: what a denial tells, that no logger is set, or that the line cannot be read
pub data Why : Type 0 where
  denied : ℕ × List ℕ → Why
  no_logger : Why
  unclear : Fault → Why

abbrev pub why : Refusal → Why
why (refusal.Denied d) = denied (told d)
why refusal.NoLogger = no_logger
why (refusal.Unclear f) = unclear f

-- what stands in the way of a run with n questions
abbrev pub run_stands : Held → ℕ → Option Why
run_stands nothing n = Some no_logger
run_stands (row vs) n = option_map denied (budget_denied (length vs - 1) n)
run_stands (slope N c) n = option_map denied (budget_denied N n)

-- what stands in the way of what reading a line gave, by the logger that is set
abbrev pub stands : Held → Result Line Fault → Option Why
stands h (Ok (line.Diagonal n c)) = option_map denied (diagonal_denied n c)
stands h (Ok (line.Table v)) = option_map denied (table_denied (vec_items v))
stands h (Ok (line.Run w n)) = run_stands h n
stands h (Err f) = Some (unclear f)

-- the report of a run on the logger that is set
abbrev pub RanOn : Held → Way → ℕ → Report → Type 0
RanOn nothing w n r = ⊥
RanOn (row vs) w n r = Reported (plan_of w n) (row_table vs) (length vs - 1) n r
RanOn (slope N c) w n r = Reported (plan_of w n) (diagonal c) N n r

-- what is said of a run: the plan's name and the report
abbrev pub SaysRan : Held → Way → ℕ → Done → Type 0
SaysRan h w n (done.Diagonal N c) = ⊥
SaysRan h w n (done.Table k) = ⊥
SaysRan h w n (done.Ran v r) = (v ≡ w) × RanOn h w n r

-- what an accepted line does where h is set: k is set after it, and d is said
abbrev pub Does : Held → Result Line Fault → Held → Done → Type 0
Does h (Ok (line.Diagonal n c)) k d = (k ≡ slope n c) × (d ≡ done.Diagonal n c)
Does h (Ok (line.Table v)) k d = (k ≡ row (vec_items v)) × (d ≡ done.Table (length (vec_items v)))
Does h (Ok (line.Run w n)) k d = (k ≡ h) × SaysRan h w n d
Does h (Err f) k d = ⊥
