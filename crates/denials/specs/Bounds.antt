-- What the handheld accepts. Assumes nothing.
use Rattle.std.specs.Prelude.{ℕ, ◌-◌, Bool, ◌||◌, ◌==◌, nat_lt}

-- a span is from 1 to 1,000,000
abbrev pub bad_span : ℕ → Bool
bad_span n = n == 0 || nat_lt 1000000 n

-- a budget is at most 254, and at most the number of inner arguments
abbrev pub bad_budget : ℕ → ℕ → Bool
bad_budget span n = nat_lt 254 n || nat_lt (span - 1) n
