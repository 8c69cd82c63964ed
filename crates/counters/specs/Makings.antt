-- What stands in the way of a counter's making: its checks, in their order. Assumes nothing.
use Rattle.std.specs.Prelude.{ℕ, List, [], ◌∷◌, Option, nat_lt}
use Rattle.denials.specs.Bounds.{bad_span}
use Rattle.denials.specs.Checks.{first}

-- what stands in the way of a counter of span n over this number of readings
abbrev pub counter_denied : ℕ → ℕ → Option (ℕ × List ℕ)
counter_denied n number = first ((bad_span n, (1, [])) ∷ (nat_lt 1000000 number, (15, [])) ∷ [])
