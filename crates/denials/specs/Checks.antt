-- Checks in their order, and what a call makes of the first that fails. Assumes nothing.
use Rattle.std.specs.Prelude.{◌≡◌, Bool, cond, List, [], ◌∷◌, Some, None, Ok, Err, Option, Result}

-- the first of a row of checks that fails, by what it answers
abbrev pub first : {X : Type 0} → List (Bool × X) → Option X
first [] = None
first (c ∷ cs) = cond c.0 (Some c.1) (first cs)

-- a call's outcome: where a denial d stands in its way, an error that tells d, and Q holds;
-- where none does, a result of which P holds
abbrev pub Decided : {X E D : Type 0} → (E → D) → Option D → Result X E → (X → Type 0) → Type 0 → Type 0
Decided tells (Some d) (Err e) P Q = (tells e ≡ d) × Q
Decided tells (Some d) (Ok x) P Q = ⊥
Decided tells None (Err e) P Q = ⊥
Decided tells None (Ok x) P Q = P x
