-- A row of values in fixed memory. Assumes nothing.
use Rattle.std.specs.Prelude.{ℕ, List, take}
use Rattle.jobs.specs.declared.values.Values.{Values}

-- the values in use
abbrev pub listed : Values → List ℕ
listed v = take v.count v.row
