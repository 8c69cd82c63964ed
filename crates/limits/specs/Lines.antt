-- What a line holds. Assumes nothing.
use Rattle.std.specs.Prelude.{ℕ, zero, suc, ◌+◌, ◌-◌, ◌^◌, min, List, [], ◌∷◌, length, Some, None, Ok, Err, Option, Result, ◌≢◌}
use Rattle.limits.specs.declared.lines.Line.{Line}
use Rattle.limits.specs.declared.lines.Line.TheVariants.{Ends, Answer}
use Rattle.limits.specs.declared.lines.Fault.{Fault}
use Rattle.limits.specs.declared.lines.Fault.TheVariants.{NoNumber, Count}

-- another count of numbers than a line has is told, up to the largest that can be
abbrev pub told_count : ℕ → Result (Option Line) Fault
told_count n = Err (Count (min n (2 ^ 64 - 1)))

-- no numbers make nothing, two an answer, three the ends; with more after them they make no line
abbrev pub line_of : List ℕ → ℕ → Result (Option Line) Fault
line_of [] zero = Ok None
line_of (x ∷ []) zero = told_count 1
line_of (x ∷ (v ∷ [])) zero = Ok (Some (Answer (record { at = x; value = v })))
line_of (n ∷ (a ∷ (b ∷ []))) zero = Ok (Some (Ends n a b))
line_of (n ∷ (a ∷ (b ∷ (c ∷ ns)))) zero = told_count (length (n ∷ (a ∷ (b ∷ (c ∷ ns)))))
line_of ns (suc more) = told_count (length ns + suc more)

-- not a count of numbers
abbrev pub NotCount : Fault → Type 0
NotCount (NoNumber w) = Unit {0}
NotCount (Count n) = ⊥

-- a count of numbers is told only where it fits no kind of line
abbrev pub Told : Result (Option Line) Fault → Type 0
Told (Ok line) = Unit {0}
Told (Err (NoNumber w)) = Unit {0}
Told (Err (Count n)) = (n ≢ 0) × (n ≢ 2) × (n ≢ 3)
