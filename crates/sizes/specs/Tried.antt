-- What a logger of any size gives. Assumes nothing.
use Rattle.std.specs.Prelude.{◌≡◌, ℕ, List, Option}
use Rattle.std.specs.Option.{option_or}
use Rattle.bench.specs.Runs.{budget_denied}
use Rattle.tables.specs.Table.{Table}
use Rattle.trials_kinds.specs.Runs.{BothOn}
use Rattle.sizes.specs.declared.tries.Tried.{Tried}

-- what stands in the way of a logger of span N and of runs with 254 questions on it: first of its making, then of the runs
abbrev pub try_denied : Option (ℕ × List ℕ) → ℕ → Option (ℕ × List ℕ)
try_denied making N = option_or making (budget_denied N 254)

-- a table t of span N gives its span, its last value and what both plans find with 254 questions
pub record TriedOn (t : Table) (N : ℕ) (r : Tried) : Type 0 where
  pub span : r.span ≡ N
  pub last : r.last ≡ t N
  pub both : BothOn t N 254 r.both
