-- A run of a plan on a logger, through a readout. Assumes nothing.
use Rattle.std.specs.Prelude.{◌≡◌, ℕ, ◌+◌, ◌-◌, ◌<◌, Bool, true, false, List, [], ◌∷◌, length, None, Option}
use Rattle.denials.specs.Bounds.{bad_budget}
use Rattle.denials.specs.Checks.{first}
use Rattle.tables.specs.Log.{IsLog, Agrees, SharpLimits, fresh, has, insert}
use Rattle.tables.specs.Plan.{Plan}
use Rattle.tables.specs.Run.{Run, WholeRun}
use Rattle.tables.specs.Table.{Table, Inner}
use Rattle.readout.specs.declared.events.Event.{Event}
use Rattle.readout.specs.declared.events.Event.TheVariants.{Take, Answer}
use Rattle.readout.specs.Calls.{opened}
use Rattle.readout.specs.Past.{Call, after, past, accepted}
use Rattle.readout.specs.Tickets.{ticket_of}
use Rattle.readout.specs.Views.{View}
use Rattle.bench.specs.declared.running.Ran.{Ran}

-- a budget of n questions for a span N: denial 3
abbrev pub budget_denied : ℕ → ℕ → Option (ℕ × List ℕ)
budget_denied N n = first ((bad_budget N n, (3, [])) ∷ [])

-- a run with n questions on a logger of span N: denial 16 where the line is awake, then 3
abbrev pub run_denied : Bool → ℕ → ℕ → Option (ℕ × List ℕ)
run_denied awake N n = first ((awake, (16, [])) ∷ (bad_budget N n, (3, [])) ∷ [])

-- a resting readout with a question left, whose log the table agrees with, may ask the inner argument x
pub record Ready (t : Table) (N : ℕ) (v : View) (x : ℕ) : Type 0 where
  pub rests : v.out ≡ None
  pub left : 0 < v.left
  pub is_log : IsLog N v.points
  pub agrees : Agrees t v.points
  pub inner : Inner N x
  pub new : has x v.points ≡ false

-- the readout after one question is asked and answered
abbrev pub asked : View → ℕ → ℕ → View
asked v x y = record { points = insert (record { at = x; value = y }) v.points; left = v.left - 1; mark = v.mark; out = None }

-- a resting readout that knows the ends of a table of span N
pub record Started (t : Table) (N : ℕ) (v : View) : Type 0 where
  pub points : v.points ≡ fresh N (t 0) (t N)
  pub rests : v.out ≡ None

-- from the view v to the view w the plan asked its questions, each answered by the table
pub record Completed (plan : Plan) (t : Table) (v w : View) : Type 0 where
  pub questions : List ℕ
  pub run : Run plan t v.left v.points questions w.points
  pub left : w.left + length questions ≡ v.left
  pub mark : w.mark ≡ v.mark
  pub rests : w.out ≡ None

-- the calls of a run on its readout: each question's ticket is taken, and answered with the table's value
abbrev pub askings : Table → ℕ → List ℕ → List Event
askings t m [] = []
askings t m (x ∷ xs) = Take x ∷ Answer (ticket_of m x) (t x) ∷ askings t m xs

-- no call of a row was denied
abbrev pub NoneDenied : List Call → Type 0
NoneDenied [] = Unit {0}
NoneDenied (c ∷ cs) = (accepted c.1 ≡ true) × NoneDenied cs

-- what an accepted run with n questions and mark m leaves: the plan's whole run on the table, with its limits,
-- in a readout that was opened on the table's ends and asked and answered each question with no denial
pub record RanOn (plan : Plan) (t : Table) (N n m : ℕ) (v : View) (ran : Ran) : Type 0 where
  pub questions : List ℕ
  pub run : WholeRun plan t N n questions v.points
  pub asked : ran.asked ≡ length questions
  pub all : length questions ≡ n
  pub limits : SharpLimits v.points ran.low ran.high
  pub view : v ≡ record { points = v.points; left = 0; mark = m; out = None }
  pub calls : v ≡ after (opened N (t 0) (t N) n m) (askings t m questions)
  pub undenied : NoneDenied (past (opened N (t 0) (t N) n m) (askings t m questions))
