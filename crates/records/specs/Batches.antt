-- A batch of lines. Assumes nothing.
use Rattle.std.specs.Prelude.{◌≡◌, ℕ, Bool, true, false, not, List, [], ◌∷◌, ◌++◌, length, Some, Ok, Err, vec_items, count_by, Option, Result}
use Rattle.std.specs.Option.{option_map}
use Rattle.certificates.specs.Certified.{Certified}
use Rattle.certificates.specs.Checks.{certify_denied}
use Rattle.denials.specs.Told.{told}
use Rattle.records.specs.declared.batches.BadLine.{BadLine}
use Rattle.records.specs.declared.batches.Batch.{Batch}
use Rattle.records.specs.declared.batches.Refusal.{Refusal}
use Rattle.records.specs.declared.batches.Refusal.TheVariants as refusal
use Rattle.records.specs.declared.batches.Report.{Report}
use Rattle.records.specs.declared.kinds.Fault.{Fault}
use Rattle.records.specs.declared.lines.Line.{Line}
use Rattle.records.specs.declared.lines.Line.TheVariants as line
use Rattle.records.specs.Lines.{SaysLine}

-- the readings, the lines that are none, and whether a line that is not blank has come
pub record Held (X : Type 0) : Type 0 where
  pub readings : List X
  pub bad : List BadLine
  pub begun : Bool

abbrev pub held : {X : Type 0} → Batch X → Held X
held b = record { readings = vec_items b.readings; bad = vec_items b.bad; begun = b.begun }

-- no line yet
abbrev pub nothing : {X : Type 0} → Held X
nothing = record { readings = []; bad = []; begun = false }

-- what a line with this number makes of what is held
abbrev pub taken : {X : Type 0} → Held X → ℕ → Result (Line X) Fault → Held X
taken h n (Ok line.Blank) = h
taken h n (Ok line.Header) = record { readings = h.readings; bad = h.bad; begun = true }
taken h n (Ok (line.Reading x)) = record { readings = h.readings ++ x ∷ []; bad = h.bad; begun = true }
taken h n (Err f) = record { readings = h.readings; bad = h.bad ++ record { number = n; fault = f } ∷ []; begun = true }

-- what the text of a line makes of it
abbrev pub Takes : {X : Type 0} → (List ℕ → Result X Fault → Type 0) → Held X → ℕ → List ℕ → Held X → Type 0
Takes {X} says h n bs after = (l : Result (Line X) Fault) × SaysLine says (not h.begun) bs l × (after ≡ taken h n l)

-- why nothing is certified: some lines are no readings, or what a denial tells
pub data Why : Type 0 where
  bad_lines : Why
  denied : ℕ × List ℕ → Why

abbrev pub why : Refusal → Why
why refusal.BadLines = bad_lines
why (refusal.Denied d) = denied (told d)

-- what stands in the way of a certificate
abbrev pub stands_by : List BadLine → ℕ → ℕ → ℕ → Option Why
stands_by [] number N n = option_map denied (certify_denied N number n)
stands_by (b ∷ bs) number N n = Some bad_lines

abbrev pub stands : {X : Type 0} → Held X → ℕ → ℕ → Option Why
stands h N n = stands_by h.bad (length h.readings) N n

-- the certificate of the readings, and how many of them lie below the reading of level 0
pub record Drawn {X : Type 0} (level : X → ℕ) (z : ℕ) (low : X → Bool) (rs : List X) (N n : ℕ) (r : Report) : Type 0 where
  pub certified : Certified level z rs N n r.certificate
  pub low_is : r.low ≡ count_by low rs
