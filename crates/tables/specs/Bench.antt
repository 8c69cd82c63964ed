-- The bench: what a plan's run on the diagonal shows of every other logger. Assumes nothing.
use Rattle.std.specs.Prelude.{◌≡◌, ℕ, ◌+◌, ◌*◌, ◌%◌, ◌<◌, ◌≤◌, List}
use Rattle.tables.specs.declared.points.Point.{Point}
use Rattle.tables.specs.Table.{Table, NeverFalls, sum_of, diagonal}
use Rattle.tables.specs.Log.{low, high, width, low_table, high_table, Within}
use Rattle.tables.specs.Least.{least_width}
use Rattle.tables.specs.Plan.{Plan, Lawful, equal_spacing}
use Rattle.tables.specs.Run.{WholeRun}

-- two tables have the same values up to the span
abbrev pub SameTable : ℕ → Table → Table → Type 0
SameTable N t u = (x : ℕ) → x ≤ N → t x ≡ u x

-- the plan's run with n questions on t exists, and every such run asks xs in that order and has the limits of end
pub record SeesNoOther (plan : Plan) (t : Table) (N n : ℕ) (xs : List ℕ) (end : List Point) : Type 0 where
  pub runs : (ys : List ℕ) × (stop : List Point) × WholeRun plan t N n ys stop
  pub alike : (ys : List ℕ) (stop : List Point) → WholeRun plan t N n ys stop → (ys ≡ xs) × (low stop ≡ low end) × (high stop ≡ high end)

-- the bench's findings for a run with n questions on the diagonal of rise c and span N that asked xs and left end
pub record Benched (plan : Plan) (c N n : ℕ) (xs : List ℕ) (end : List Point) : Type 0 where
  pub low_never_falls : NeverFalls (low_table end) 0 N
  pub high_never_falls : NeverFalls (high_table end) 0 N
  -- on any logger with the low table, and on any with the high one, the plan asks the same and finds the same
  pub on_low : (t : Table) → SameTable N t (low_table end) → SeesNoOther plan t N n xs end
  pub on_high : (t : Table) → SameTable N t (high_table end) → SeesNoOther plan t N n xs end
  -- and yet their sums differ by the whole width
  pub apart : sum_of (high_table end) N ≡ sum_of (low_table end) N + width end
  pub floor : c * least_width N n ≤ width end

-- every lawful plan's run on the diagonal exists and is so benched
abbrev pub Bench : Type 0
Bench =
    (plan : Plan) → Lawful plan → (c N n : ℕ) → n < N
    → ((xs : List ℕ) × (end : List Point) × WholeRun plan (diagonal c) N n xs end)
    × ((xs : List ℕ) (end : List Point) → WholeRun plan (diagonal c) N n xs end → Benched plan c N n xs end)

-- what equal spacing leaves on a table from 0 to c × N
pub record Held (t : Table) (c N n : ℕ) (end : List Point) : Type 0 where
  pub holds : Within end (sum_of t N)
  pub narrow : width end ≤ c * least_width N n

-- where n + 1 divides the span, equal spacing is the best plan with n questions
pub record Best (c N n : ℕ) : Type 0 where
  -- its limits hold the sum of every table from 0 to c × N, and lie at most c × D(N, n) apart
  pub spacing : (t : Table) → NeverFalls t 0 N → t 0 ≡ 0 → t N ≡ c * N → (xs : List ℕ) (end : List Point) → WholeRun (equal_spacing n) t N n xs end → Held t c N n end
  -- every lawful plan leaves at least that on the diagonal
  pub others : (plan : Plan) → Lawful plan → (xs : List ℕ) (end : List Point) → WholeRun plan (diagonal c) N n xs end → c * least_width N n ≤ width end

abbrev pub Optimum : Type 0
Optimum = (c N n : ℕ) → n < N → N % (n + 1) ≡ 0 → Best c N n
