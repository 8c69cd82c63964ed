-- The ticket that is out, if one is. Assumes nothing.
use Rattle.std.specs.Prelude.{ℕ, Bool, true, List, Some, None, Option}
use Rattle.tables.specs.declared.points.Point.{Point}
use Rattle.tables.specs.Plan.{unknown}

-- how many tickets are out
abbrev pub tickets : Option ℕ → ℕ
tickets None = 0
tickets (Some x) = 1

-- a ticket out asks for an inner argument that is not in the log
abbrev pub asks_new : Option ℕ → List Point → Bool
asks_new None log = true
asks_new (Some x) log = unknown log x
