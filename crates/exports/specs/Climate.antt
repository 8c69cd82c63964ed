-- The level of a climate reading. Assumes nothing.
use Rattle.std.specs.Prelude.{ℕ}
use Rattle.counters.specs.declared.levels.ClimateReading.{ClimateReading}
use Rattle.counters.specs.Levels.{climate_level}

-- the level by which a climate reading is counted
abbrev pub temperature_level : ClimateReading → ℕ
temperature_level r = climate_level r.temperature
