-- What the text of a line says. Assumes nothing.
use Rattle.std.specs.Prelude.{◌≡◌, ℕ, ◌^◌, ◌<◌, Bool, List, ◌∷◌, ◌++◌, length, ℤ, negsuc, Some, None, Ok, Err, Option, Result, FitsSigned, ◌≢◌, int_lt, slice_index}
use Rattle.std.specs.Int.{Width, w16}
use Rattle.std.proofs.lemmas.Str.Pattern.{IsTrimResult}
use Rattle.std.specs.Str.Parse.{IsNumeral, digits_value, signed_digits_value, without_leading_plus, without_leading_sign}
use Rattle.counters.specs.declared.levels.ClimateReading.{ClimateReading}
use Rattle.counters.specs.declared.levels.SupplyReading.{SupplyReading}
use Rattle.records.specs.declared.kinds.Fault.{Fault}
use Rattle.records.specs.declared.kinds.Fault.TheVariants.{NoComma, Minute, Temperature, Millivolts}

-- an answer is v where P holds, and else there is none
abbrev pub Only : {X : Type 0} → Option X → Type 0 → X → Type 0
Only (Some x) P v = P × (x ≡ v)
Only None P v = P → ⊥

-- between the white space around it, bs has the digits of a whole number below 2 ^ k and nothing else, but for a plus in front
abbrev pub WritesUnsigned : ℕ → List ℕ → Option ℕ → Type 0
WritesUnsigned k bs r = (t : List ℕ) × IsTrimResult bs t × Only r (IsNumeral 10 (without_leading_plus t) × (digits_value 10 (without_leading_plus t) < 2 ^ k)) (digits_value 10 (without_leading_plus t))

-- the same of a whole number that a signed type of width w holds, with a plus or a minus in front
abbrev pub WritesSigned : Width → List ℕ → Option ℤ → Type 0
WritesSigned w bs r = (t : List ℕ) × IsTrimResult bs t × Only r (IsNumeral 10 (without_leading_sign t) × FitsSigned w (signed_digits_value 10 t)) (signed_digits_value 10 t)

-- the byte c does not stand in bs
abbrev pub Lacks : ℕ → List ℕ → Type 0
Lacks c bs = (i : ℕ) → i < length bs → slice_index bs i ≢ c

-- bs is xs and ys with the first comma between them
abbrev pub AtComma : List ℕ → List ℕ → List ℕ → Type 0
AtComma bs xs ys = (bs ≡ xs ++ (44 ∷ ys)) × Lacks 44 xs

-- a line of the climate: a minute, a comma and a temperature in hundredths of a degree
abbrev pub SaysClimate : List ℕ → Result ClimateReading Fault → Type 0
SaysClimate bs (Ok r) = (xs : List ℕ) × (ys : List ℕ) × AtComma bs xs ys × WritesUnsigned 32 xs (Some r.minute) × WritesSigned w16 ys (Some r.temperature)
SaysClimate bs (Err NoComma) = Lacks 44 bs
SaysClimate bs (Err Minute) = (xs : List ℕ) × (ys : List ℕ) × AtComma bs xs ys × WritesUnsigned 32 xs None
SaysClimate bs (Err Temperature) = (xs : List ℕ) × (ys : List ℕ) × (n : ℕ) × AtComma bs xs ys × WritesUnsigned 32 xs (Some n) × WritesSigned w16 ys None
SaysClimate bs (Err Millivolts) = ⊥

-- a line of the supply: millivolts
abbrev pub SaysSupply : List ℕ → Result SupplyReading Fault → Type 0
SaysSupply bs (Ok r) = WritesUnsigned 16 bs (Some r.millivolts)
SaysSupply bs (Err NoComma) = ⊥
SaysSupply bs (Err Minute) = ⊥
SaysSupply bs (Err Temperature) = ⊥
SaysSupply bs (Err Millivolts) = WritesUnsigned 16 bs None

-- a temperature below −40.00 °C
abbrev pub too_cold : ℤ → Bool
too_cold t = int_lt t (negsuc 3999)
