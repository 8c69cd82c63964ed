-- What stands in the way of a logger's making: its checks, in their order. Assumes nothing.
use Rattle.std.specs.Prelude.{ℕ, ◌+◌, ◌-◌, ◌*◌, Bool, cond, ◌||◌, List, [], ◌∷◌, length, is_some, Some, None, Option, ◌==◌, nat_lt}
use Rattle.denials.specs.Bounds.{bad_span}
use Rattle.denials.specs.Checks.{first}

-- what stands in the way of a logger of span n
abbrev pub span_denied : ℕ → Option (ℕ × List ℕ)
span_denied n = first ((bad_span n, (1, [])) ∷ [])

-- no diagonal of span n has this rise: it is 0, or the last value would pass 4,294,967,295
abbrev pub bad_rise : ℕ → ℕ → Bool
bad_rise n c = c == 0 || nat_lt 4294967295 (c * n)

-- the first place whose value is lower than the one before, of values from place k on, before which v stands
abbrev pub fall_from : ℕ → ℕ → List ℕ → Option ℕ
fall_from k v [] = None
fall_from k v (w ∷ ws) = cond (nat_lt w v) (Some k) (fall_from (k + 1) w ws)

-- the first place of a row, from 0, whose value is lower than the one before
abbrev pub first_fall : List ℕ → Option ℕ
first_fall [] = None
first_fall (v ∷ vs) = fall_from 1 v vs

-- a place, as what comes back with a denial
abbrev pub placed : Option ℕ → List ℕ
placed None = []
placed (Some place) = place ∷ []

-- what stands in the way of a table logger of these values; its span is one less than their number
abbrev pub table_denied : List ℕ → Option (ℕ × List ℕ)
table_denied vs = first ((bad_span (length vs - 1), (1, [])) ∷ (is_some (first_fall vs), (14, placed (first_fall vs))) ∷ [])

-- what stands in the way of a diagonal of span n and rise c
abbrev pub diagonal_denied : ℕ → ℕ → Option (ℕ × List ℕ)
diagonal_denied n c = first ((bad_span n, (1, [])) ∷ (bad_rise n c, (12, [])) ∷ [])
