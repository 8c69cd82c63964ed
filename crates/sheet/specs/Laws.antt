-- What a sheet prints, line by line, in terms of the calls of the library. Assumes nothing.
use Rattle.std.specs.Prelude.{◌≡◌, ℕ, ◌+◌, ◌-◌, ◌≤◌, List, [], ◌∷◌, ◌++◌, length, Some, None, ◌≢◌}
use Rattle.jobs.specs.Jobs.{Job, diagonal, table, spacing, widest, asking, Fits}
use Rattle.jobs.specs.Lines.{lines_of}
use Rattle.loggers.specs.Meaning.{row_table}
use Rattle.plans.specs.Widest.{widest_rectangle}
use Rattle.tables.specs.declared.points.Point.{Point}
use Rattle.tables.specs.Log.{SharpLimits}
use Rattle.tables.specs.Plan.{Plan, equal_spacing}
use Rattle.tables.specs.Run.{WholeRun}
use Rattle.tables.specs.Table as tables
use Rattle.tables.specs.Table.{Table}
use Rattle.words.specs.Writing.{line_bytes}
use Rattle.sheet.specs.Leading.{stands}
use Rattle.sheet.specs.Printing.{denial, sheet_prints}
use Rattle.sheet.specs.Setting.{Setting}

-- a printed run with n questions on a table t of span N: the plan's whole run asked all n, and its limits are sharp and in order
pub record RunLine (letter : ℕ) (plan : Plan) (t : Table) (N n : ℕ) (out : List ℕ) : Type 0 where
  pub questions : List ℕ
  pub log : List Point
  pub low : ℕ
  pub high : ℕ
  pub run : WholeRun plan t N n questions log
  pub all : length questions ≡ n
  pub limits : SharpLimits log low high
  pub order : low ≤ high
  pub printed : out ≡ line_bytes letter (N ∷ n ∷ low ∷ high ∷ (high - low) ∷ [])

-- line i, where a logger is set: the logger that is set after it, and what it prints
pub data Leads (i : ℕ) (s : Setting) (line : List ℕ) : Setting → List ℕ → Type 0 where
  -- it asks for no job: 13
  other_form : ((job : Job) → Fits job → line ≢ asking job) → Leads i s line s (denial i 13)
  -- it asks for a call that is denied
  denied : (job : Job) (d : ℕ × List ℕ) → Fits job → line ≡ asking job → stands s job ≡ Some d → Leads i s line s (denial i d.0)
  -- it sets a diagonal, or a table
  sets_diagonal : (N c : ℕ) → line ≡ asking (diagonal N c) → stands s (diagonal N c) ≡ None → Leads i s line (Some (tables.diagonal c, N)) []
  sets_table : (vs : List ℕ) → line ≡ asking (table vs) → stands s (table vs) ≡ None → Leads i s line (Some (row_table vs, length vs - 1)) []
  -- it runs equal spacing, or the widest rectangle
  runs_spacing : (t : Table) (N n : ℕ) (out : List ℕ) → line ≡ asking (spacing n) → s ≡ Some (t, N) → stands s (spacing n) ≡ None → RunLine 101 (equal_spacing n) t N n out → Leads i s line s out
  runs_widest : (t : Table) (N n : ℕ) (out : List ℕ) → line ≡ asking (widest n) → s ≡ Some (t, N) → stands s (widest n) ≡ None → RunLine 119 widest_rectangle t N n out → Leads i s line s out

-- lines from line i on, where a logger is set, and what they print
pub data LineByLine : ℕ → Setting → List (List ℕ) → List ℕ → Type 0 where
  over : {i : ℕ} {s : Setting} → LineByLine i s [] []
  next : {i : ℕ} {s s' : Setting} {line out : List ℕ} {lines : List (List ℕ)} {later : List ℕ} → Leads i s line s' out → LineByLine (i + 1) s' lines later → LineByLine i s (line ∷ lines) (out ++ later)

-- every sheet prints, line by line, what the calls that its lines ask for give
abbrev pub SheetsAreCalls : Type 0
SheetsAreCalls = (sheet : List ℕ) → LineByLine 1 None (lines_of sheet) (sheet_prints sheet)
