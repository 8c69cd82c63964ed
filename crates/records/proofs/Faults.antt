-- Faults of a line of the climate. Assumes nothing.
use Rattle.std.proofs.Common.{◌≡◌, ℕ, List, Result, Some, None, Err}
use Rattle.std.specs.Int.{w16}
use Rattle.counters.specs.declared.levels.ClimateReading.{ClimateReading}
use Rattle.records.specs.declared.kinds.Fault.{Fault}
use Rattle.records.specs.declared.kinds.Fault.TheVariants.{Minute, Temperature}
use Rattle.records.specs.Saying.{AtComma, WritesUnsigned, WritesSigned, SaysClimate}

-- where no minute stands before the comma, the answer is that fault
pub no_minute : (bs xs ys : List ℕ) (r : Result ClimateReading Fault) → AtComma bs xs ys → WritesUnsigned 32 xs None → r ≡ Err Minute → SaysClimate bs r
no_minute bs xs ys r at none is = rw is (xs, ys, at, none)

-- where no temperature stands after it, that one
pub no_temperature : (bs xs ys : List ℕ) (n : ℕ) (r : Result ClimateReading Fault) → AtComma bs xs ys → WritesUnsigned 32 xs (Some n) → WritesSigned w16 ys None → r ≡ Err Temperature → SaysClimate bs r
no_temperature bs xs ys n r at some none is = rw is (xs, ys, n, at, some, none)
