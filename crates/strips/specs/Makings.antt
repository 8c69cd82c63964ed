-- What stands in the way of a door strip's making: its checks, in their order. Assumes nothing.
use Rattle.std.specs.Prelude.{ℕ, ◌*◌, List, [], ◌∷◌, length, Option, nat_lt}
use Rattle.denials.specs.Bounds.{bad_span}
use Rattle.denials.specs.Checks.{first}

-- what stands in the way of a strip of these words with span n: a bad span, then fewer bits than the span
abbrev pub strip_denied : List ℕ → ℕ → Option (ℕ × List ℕ)
strip_denied ws n = first ((bad_span n, (1, [])) ∷ (nat_lt (64 * length ws) n, (15, [])) ∷ [])
