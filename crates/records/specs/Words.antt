-- What is said in words of lines that are no readings. Assumes nothing.
use Rattle.std.specs.Prelude.{ℕ, List, ◌∷◌, ◌++◌, codes, decimal}
use Rattle.denials.specs.Words.{said}
use Rattle.records.specs.declared.batches.BadLine.{BadLine}
use Rattle.records.specs.declared.batches.Refusal.{Refusal}
use Rattle.records.specs.declared.batches.Refusal.TheVariants.{BadLines, Denied}
use Rattle.records.specs.declared.kinds.Fault.{Fault}
use Rattle.records.specs.declared.kinds.Fault.TheVariants.{NoComma, Minute, Temperature, Millivolts}

-- a fault, with the minus sign in UTF-8
abbrev pub fault_says : Fault → List ℕ
fault_says NoComma = codes "there is no comma between a minute and a temperature"
fault_says Minute = codes "the minute is no whole number up to 4,294,967,295"
fault_says Temperature = codes "the temperature is no whole number of hundredths of a degree from " ++ (226 ∷ 136 ∷ 146 ∷ codes "32768 to 32767")
fault_says Millivolts = codes "the millivolts are no whole number up to 65535"

-- a line that is no reading: its number and its fault
abbrev pub bad_line_says : BadLine → List ℕ
bad_line_says b = codes "line " ++ (decimal b.number ++ (codes ": " ++ fault_says b.fault))

-- why nothing is certified
abbrev pub refusal_says : Refusal → List ℕ
refusal_says BadLines = codes "some lines are no readings"
refusal_says (Denied d) = said d
