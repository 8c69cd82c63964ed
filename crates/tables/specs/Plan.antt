-- Plans of asking: which argument to ask next, given the log so far. Assumes nothing.
use Rattle.std.specs.Prelude.{◌≡◌, ℕ, ◌+◌, ◌-◌, ◌*◌, ◌/◌, Bool, true, false, cond, not, ◌&&◌, List, [], ◌∷◌, map, Some, None, Option, MatchOption, nat_lt}
use Rattle.std.specs.List.{range_with_len}
use Rattle.tables.specs.declared.points.Point.{Point}
use Rattle.tables.specs.Log.{IsLog, span_of, has}
use Rattle.tables.specs.Table.{Inner}

-- a plan answers a log with the argument to ask next, or with none
abbrev pub Plan : Type 0
Plan = List Point → Option ℕ

-- every inner argument of the span n is in the log
abbrev pub AllKnown : ℕ → List Point → Type 0
AllKnown n log = (x : ℕ) → Inner n x → has x log ≡ true

-- the law of plans: none where every inner argument is in the log, otherwise an inner argument not in it
abbrev pub Lawful : Plan → Type 0
Lawful plan = (n : ℕ) (log : List Point) → IsLog n log → MatchOption (plan log) (AllKnown n log) (λ x. Inner n x × (has x log ≡ false))

-- x is an inner argument of the log's span, and not in the log
abbrev pub unknown : List Point → ℕ → Bool
unknown log x = nat_lt 0 x && nat_lt x (span_of log) && not (has x log)

-- the first argument of a row that is unknown
abbrev pub first_unknown : List Point → List ℕ → Option ℕ
first_unknown log [] = None
first_unknown log (x ∷ xs) = cond (unknown log x) (Some x) (first_unknown log xs)

-- the lowest unknown argument
abbrev pub lowest_unknown : Plan
lowest_unknown log = first_unknown log (range_with_len 1 (span_of log - 1))

-- the first answer, or else the second
abbrev pub or_else : Option ℕ → Option ℕ → Option ℕ
or_else (Some x) o = Some x
or_else None o = o

-- the arguments that cut the span N into n + 1 even parts: j × N div (n + 1) for j from 1 to n
abbrev pub stops : ℕ → ℕ → List ℕ
stops N n = map (λ j. j * N / (n + 1)) (range_with_len 1 n)

-- equal spacing made for n: the first of its stops that is unknown, else the lowest unknown argument
abbrev pub equal_spacing : ℕ → Plan
equal_spacing n log = or_else (first_unknown log (stops (span_of log) n)) (lowest_unknown log)
