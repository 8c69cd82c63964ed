-- What the replies of the exported calls say. Assumes nothing.
use Rattle.std.specs.Prelude.{◌≡◌, ℕ, Bool, cond, List, Some, None, Option}
use Rattle.bench.specs.declared.scoring.Widths.{Widths}
use Rattle.bench.specs.Scores.{Scored}
use Rattle.plans.specs.declared.ways.Way.{Way}
use Rattle.plans.specs.declared.ways.Way.TheVariants.{EqualSpacing, WidestRectangle}
use Rattle.plans.specs.Widest.{widest_rectangle}
use Rattle.tables.specs.declared.points.Point.{Point}
use Rattle.tables.specs.Log.{SharpLimits}
use Rattle.tables.specs.Plan.{Plan, equal_spacing}
use Rattle.tables.specs.Run.{WholeRun}
use Rattle.tables.specs.Table.{Table}
use Rattle.exports.specs.declared.replies.Reply.{Reply}
use Rattle.exports.specs.Denied.{denied}

-- a call's reply: where a denial stands in its way it tells that one, and Q holds; where none does, P holds of it
abbrev pub Replied : Option (ℕ × List ℕ) → Reply → (Reply → Type 0) → Type 0 → Type 0
Replied (Some d) r P Q = (r ≡ denied d) × Q
Replied None r P Q = P r

-- one answer of this value, or no answer
abbrev pub answer_of : Option ℕ → Reply
answer_of None = record { denial = 0; answers = 0; low = 0; high = 0 }
answer_of (Some v) = record { denial = 0; answers = 1; low = v; high = v }

-- the two ends of a table of span N
abbrev pub ends_of : Table → ℕ → Reply
ends_of t N = record { denial = 0; answers = 0; low = t 0; high = t N }

-- the plan that a call names
abbrev pub way_of : Bool → Way
way_of widest = cond widest WidestRectangle EqualSpacing

-- the plan that a call runs with n questions: the widest rectangle, or equal spacing made for n
abbrev pub plan_of : Bool → ℕ → Plan
plan_of widest n = cond widest widest_rectangle (equal_spacing n)

-- the limits that a plan's run with n questions on a table t of span N leaves
pub record RunOf (plan : Plan) (t : Table) (N n : ℕ) (r : Reply) : Type 0 where
  pub questions : List ℕ
  pub log : List Point
  pub run : WholeRun plan t N n questions log
  pub accepted : r.denial ≡ 0
  pub asked : r.answers ≡ n
  pub limits : SharpLimits log r.low r.high

-- the widths that a reply gives of a score: the least as its low limit, the one left as its high
abbrev pub widths_of : Reply → Widths
widths_of r = record { width = r.high; least = r.low }

-- the score of the widest rectangle's run with n questions on the diagonal of rise c and span N, and the rows after it
abbrev pub ScoreOf : ℕ → ℕ → ℕ → List ℕ → List ℕ → List ℕ → List ℕ → Reply → Type 0
ScoreOf c N n low-old low-new high-old high-new r =
    (r.denial ≡ 0) × (r.answers ≡ n) × Scored widest_rectangle c N n low-old low-new high-old high-new (widths_of r)

-- so many bytes were written
abbrev pub end_of : ℕ → Reply
end_of n = record { denial = 0; answers = 0; low = n; high = n }
