-- The general theorems, for all numbers, tables, logs and plans. Assumes nothing.
use Rattle.std.specs.Prelude.{◌≡◌, ℕ, ◌+◌, ◌-◌, ◌*◌, ◌/◌, ◌<◌, ◌≤◌, Bool, true, false, cond, ◌↔◌, List, [], ◌∷◌, length, ◌==◌}
use Rattle.tables.specs.declared.points.Point.{Point}
use Rattle.tables.specs.Table.{Table, NeverFalls, sum_of, Inner, diagonal}
use Rattle.tables.specs.Log.{IsLog, Agrees, low, high, width, gap_widths, low_table, high_table, Within, Possible}
use Rattle.tables.specs.Least.{least_width, unevenness, Cuts}
use Rattle.tables.specs.Plan.{Plan, Lawful, stops, equal_spacing}
use Rattle.tables.specs.Run.{Run, WholeRun}

-- the width, high minus low, is the sum over the gaps of inner arguments times rise
abbrev pub WidthIsGaps : Type 0
WidthIsGaps = (n : ℕ) (log : List Point) → IsLog n log → (low log ≤ high log) × (width log ≡ gap_widths log)

-- a number lies within the limits exactly when some table that never falls and agrees with the log sums to it
abbrev pub LimitsAreSharp : Type 0
LimitsAreSharp = (n : ℕ) (log : List Point) → IsLog n log → (y : ℕ) → Within log y ↔ Possible n log y

-- the low and the high table of a log
pub record LogTables (n : ℕ) (log : List Point) : Type 0 where
  pub low_never_falls : NeverFalls (low_table log) 0 n
  pub high_never_falls : NeverFalls (high_table log) 0 n
  pub low_agrees : Agrees (low_table log) log
  pub high_agrees : Agrees (high_table log) log
  pub low_sum : sum_of (low_table log) n ≡ low log
  pub high_sum : sum_of (high_table log) n ≡ high log

-- low and high table never fall, agree with their log, and sum to the low and the high limit
abbrev pub TablesOfLog : Type 0
TablesOfLog = (n : ℕ) (log : List Point) → IsLog n log → LogTables n log

-- no row of k + 1 positive lengths that add up to n is less uneven than the least width, and some row has it
pub record Least (n k : ℕ) : Type 0 where
  pub bound : (ls : List ℕ) → Cuts n k ls → least_width n k ≤ unevenness ls
  pub reached : (ls : List ℕ) × Cuts n k ls × (unevenness ls ≡ least_width n k)

-- the least width is the least sum of length × (length − 1) over k + 1 positive lengths that add up to n
abbrev pub LeastIsLeast : Type 0
LeastIsLeast = (n k : ℕ) → k < n → Least n k

-- on the diagonal of rise c, a log with k points between its ends has at least c times the least width
abbrev pub DiagonalFloor : Type 0
DiagonalFloor = (c n k : ℕ) (log : List Point) → IsLog n log → Agrees (diagonal c) log → length log ≡ k + 2 → c * least_width n k ≤ width log

-- the table rises by at least c at every step of the span n
abbrev pub Climbs : ℕ → Table → ℕ → Type 0
Climbs c t n = (x : ℕ) → x < n → t x + c ≤ t (x + 1)

-- and so has a log of any table that climbs at least as steeply
abbrev pub SteepFloor : Type 0
SteepFloor = (c n k : ℕ) (t : Table) (log : List Point) → IsLog n log → Agrees t log → Climbs c t n → length log ≡ k + 2 → c * least_width n k ≤ width log

-- from any log, with any number of questions, a run exists
abbrev pub RunExists : Type 0
RunExists = (plan : Plan) (t : Table) (n : ℕ) (log : List Point) → (xs : List ℕ) × (end : List Point) × Run plan t n log xs end

-- and there is only one
abbrev pub RunIsUnique : Type 0
RunIsUnique = (plan : Plan) (t : Table) (n : ℕ) (log : List Point) (xs ys : List ℕ) (end stop : List Point) → Run plan t n log xs end → Run plan t n log ys stop → (xs ≡ ys) × (end ≡ stop)

-- a table that agrees with the log that a run leaves gets the same questions and leaves the same log
abbrev pub SameRun : Type 0
SameRun = (plan : Plan) (t u : Table) (N n : ℕ) (xs : List ℕ) (end : List Point) → WholeRun plan t N n xs end → Agrees u end → WholeRun plan u N n xs end

-- x stands in the row xs
abbrev pub among : ℕ → List ℕ → Bool
among x [] = false
among x (y ∷ ys) = cond (x == y) true (among x ys)

-- all arguments of a row are inner ones of the span N, and different
abbrev pub InnerAndDifferent : ℕ → List ℕ → Type 0
InnerAndDifferent N [] = Unit {0}
InnerAndDifferent N (x ∷ xs) = Inner N x × (among x xs ≡ false) × InnerAndDifferent N xs

-- what a run of a lawful plan with n questions does on a table of span N
pub record Asked (t : Table) (N n : ℕ) (xs : List ℕ) (end : List Point) : Type 0 where
  pub count : length xs ≡ n
  pub apart : InnerAndDifferent N xs
  pub is_log : IsLog N end
  pub agrees : Agrees t end
  pub points : length end ≡ n + 2

-- a lawful plan with n ≤ N − 1 questions asks exactly n, all inner and different, and leaves a log that the table agrees with
abbrev pub LawfulAsksAll : Type 0
LawfulAsksAll = (plan : Plan) → Lawful plan → (t : Table) (N n : ℕ) → NeverFalls t 0 N → n < N → (xs : List ℕ) (end : List Point) → WholeRun plan t N n xs end → Asked t N n xs end

-- equal spacing is a lawful plan
abbrev pub SpacingIsLawful : Type 0
SpacingIsLawful = (n : ℕ) → Lawful (equal_spacing n)

-- made for n and run with n questions it asks its stops, in their order
abbrev pub SpacingAsksStops : Type 0
SpacingAsksStops = (t : Table) (N n : ℕ) → n < N → (xs : List ℕ) (end : List Point) → WholeRun (equal_spacing n) t N n xs end → xs ≡ stops N n

-- it then leaves exactly c times the least width on the diagonal
abbrev pub SpacingOnDiagonal : Type 0
SpacingOnDiagonal = (c N n : ℕ) → n < N → (xs : List ℕ) (end : List Point) → WholeRun (equal_spacing n) (diagonal c) N n xs end → width end ≡ c * least_width N n

-- the ceiling of a / b
abbrev pub ceiling : ℕ → ℕ → ℕ
ceiling a b = (a + (b - 1)) / b

-- and on any table at most (ceiling of N / (n + 1), minus 1) times the rise between its ends
abbrev pub SpacingOnAnyTable : Type 0
SpacingOnAnyTable = (t : Table) (N n : ℕ) → NeverFalls t 0 N → n < N → (xs : List ℕ) (end : List Point) → WholeRun (equal_spacing n) t N n xs end → width end ≤ (ceiling N (n + 1) - 1) * (t N - t 0)

-- what no plan with k questions undercuts on every table from A to B of span N
abbrev pub promise : ℕ → ℕ → ℕ → ℕ → ℕ
promise N A B k = (B - A) / N * least_width N k

-- whatever the plan, some table between the same ends leaves it at least that wide
abbrev pub NoPlanPromisesLess : Type 0
NoPlanPromisesLess =
    (plan : Plan) → Lawful plan → (N A B k : ℕ) → k < N → A ≤ B
    → (t : Table) × NeverFalls t 0 N × (t 0 ≡ A) × (t N ≡ B) × ((xs : List ℕ) (end : List Point) → WholeRun plan t N k xs end → promise N A B k ≤ width end)
