-- What a line of readings holds. Assumes nothing.
use Rattle.std.specs.Prelude.{◌≡◌, ℕ, ◌<◌, ◌≤◌, Bool, true, List, length, Ok, Err, Result, slice_index}
use Rattle.std.proofs.lemmas.Str.Pattern.{IsTrimResult}
use Rattle.records.specs.declared.kinds.Fault.{Fault}
use Rattle.records.specs.declared.lines.Line.{Line}
use Rattle.records.specs.declared.lines.Line.TheVariants as line

-- nothing is left of a line without the white space around it
abbrev pub IsBlank : List ℕ → Type 0
IsBlank bs = (t : List ℕ) × IsTrimResult bs t × (length t ≡ 0)

-- something is left of it
abbrev pub IsFull : List ℕ → Type 0
IsFull bs = (t : List ℕ) × IsTrimResult bs t × (0 < length t)

-- the byte c is a digit
abbrev pub IsDigit : ℕ → Type 0
IsDigit c = (48 ≤ c) × (c ≤ 57)

-- a digit stands in the line
abbrev pub HasDigit : List ℕ → Type 0
HasDigit bs = (i : ℕ) × (i < length bs) × IsDigit (slice_index bs i)

-- no digit stands in it
abbrev pub NoDigit : List ℕ → Type 0
NoDigit bs = (i : ℕ) → i < length bs → IsDigit (slice_index bs i) → ⊥

-- what a line holds, where `says` tells what a line says that is neither blank nor a header:
-- a header is the first line that is not blank, with no digit in it
abbrev pub SaysLine : {X : Type 0} → (List ℕ → Result X Fault → Type 0) → Bool → List ℕ → Result (Line X) Fault → Type 0
SaysLine says first bs (Ok line.Blank) = IsBlank bs
SaysLine says first bs (Ok line.Header) = IsFull bs × (first ≡ true) × NoDigit bs
SaysLine says first bs (Ok (line.Reading x)) = IsFull bs × (first ≡ true → HasDigit bs) × says bs (Ok x)
SaysLine says first bs (Err f) = IsFull bs × (first ≡ true → HasDigit bs) × says bs (Err f)
