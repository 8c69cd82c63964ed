-- What a logger means, and what it answers. Assumes nothing.
use Rattle.std.specs.Prelude.{ℕ, ◌<◌, ◌≤◌, cond, List, length, Some, None, Option, nat_le, slice_index}
use Rattle.tables.specs.Table.{Table, NeverFalls}

-- a table t of span n is one that a logger may mean: the span is from 1 to 1,000,000, and t never falls
abbrev pub Sound : Table → ℕ → Type 0
Sound t n = (1 ≤ n) × (n ≤ 1000000) × NeverFalls t 0 n

-- the count at x of a table t of span n: the value at x up to the span, none above
abbrev pub counted : Table → ℕ → ℕ → Option ℕ
counted t n x = cond (nat_le x n) (Some (t x)) None

-- the table of a row of values: its x-th value, from 0, is the value at x
abbrev pub row_table : List ℕ → Table
row_table vs x = slice_index vs x

-- no value of a row is lower than one before it
abbrev pub RowNeverFalls : List ℕ → Type 0
RowNeverFalls vs = (i j : ℕ) → i ≤ j → j < length vs → row_table vs i ≤ row_table vs j
