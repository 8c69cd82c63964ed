-- What a text between white space is read as. Assumes nothing.
use Rattle.std.specs.Prelude.{List, ℕ, Some, None, Ok, Err, Option, Result}
use Rattle.std.proofs.lemmas.Str.Pattern.{IsTrimResult}

-- between the white space around it, bs is what `gives` reads as this value, or as none
abbrev pub Reads : {X E : Type 0} → (List ℕ → Result X E → Type 0) → List ℕ → Option X → Type 0
Reads gives bs (Some x) = (t : List ℕ) × IsTrimResult bs t × gives t (Ok x)
Reads {X} {E} gives bs None = (t : List ℕ) × (e : E) × IsTrimResult bs t × gives t (Err e)
