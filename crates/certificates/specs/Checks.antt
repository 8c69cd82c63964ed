-- What stands in the way of a certificate: its checks, in their order. Assumes nothing.
use Rattle.std.specs.Prelude.{ℕ, List, [], ◌∷◌, Option, nat_lt}
use Rattle.denials.specs.Bounds.{bad_span, bad_budget}
use Rattle.denials.specs.Checks.{first}

-- a certificate of span N for this number of readings, by n questions: denials 1, 15 and 3
abbrev pub certify_denied : ℕ → ℕ → ℕ → Option (ℕ × List ℕ)
certify_denied N number n = first ((bad_span N, (1, [])) ∷ (nat_lt 1000000 number, (15, [])) ∷ (bad_budget N n, (3, [])) ∷ [])
