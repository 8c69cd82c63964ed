-- What the counts say of the total of levels. Assumes nothing.
use Rattle.std.specs.Prelude.{◌≡◌, ℕ, ◌+◌, ◌-◌, ◌*◌, ◌≤◌, List, length, sum_by, filter, nat_le}
use Rattle.std.specs.List.{AllByRecursion}
use Rattle.tables.specs.Table.{sum_of}
use Rattle.counters.specs.Counting.{counter_table}

-- the total of the levels of readings
abbrev pub total_of_levels : {X : Type 0} → (X → ℕ) → List X → ℕ
total_of_levels level rs = sum_by level rs

-- the readings that a counter of span n counts: those whose level is at most n
abbrev pub counted_of : {X : Type 0} → (X → ℕ) → List X → ℕ → List X
counted_of level rs n = filter (λ r. nat_le (level r) n) rs

-- the last count b is the number of the readings counted, the sum of the table of span n is at most b × (n + 1),
-- and the total of the levels of the readings counted is what the sum leaves of that
pub record Counts {X : Type 0} (level : X → ℕ) (rs : List X) (n : ℕ) : Type 0 where
  pub number : counter_table level rs n ≡ length (counted_of level rs n)
  pub sum_le : sum_of (counter_table level rs) n ≤ counter_table level rs n * (n + 1)
  pub total : total_of_levels level (counted_of level rs n) ≡ counter_table level rs n * (n + 1) - sum_of (counter_table level rs) n

-- so of every row of readings
abbrev pub CountedTotal : {X : Type 0} → (X → ℕ) → Type 0
CountedTotal {X} level = (rs : List X) (n : ℕ) → Counts level rs n

-- where no level is above n, the last count b is the number of readings,
-- and the total of the levels is b × (n + 1) less the sum of the table of span n
abbrev pub TotalIsCounted : {X : Type 0} → (X → ℕ) → Type 0
TotalIsCounted {X} level =
    (rs : List X) (n : ℕ) → AllByRecursion (λ r. level r ≤ n) rs → (counter_table level rs n ≡ length rs) × (sum_of (counter_table level rs) n ≤ counter_table level rs n * (n + 1)) × (total_of_levels level rs ≡ counter_table level rs n * (n + 1) - sum_of (counter_table level rs) n)
