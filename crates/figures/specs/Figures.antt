-- Worked figures, derived from the definitions. Assumes nothing.
use Rattle.std.specs.Prelude.{◌≡◌, ℕ, zero, suc, ◌+◌, ◌-◌, ◌*◌, List, [], ◌∷◌, ◌++◌, map, pos, neg_ℤ}
use Rattle.tables.specs.Figures.{Figure, figures as of_logs_and_plans}
use Rattle.tables.specs.Table.{Table, sum_of}
use Rattle.counters.specs.declared.levels.ClimateReading.{ClimateReading}
use Rattle.counters.specs.Counting.{counter_table}
use Rattle.counters.specs.Levels.{climate_level}
use Rattle.counters.specs.Totals.{total_of_levels}
use Rattle.strips.specs.Bits.{strip_table}
use Rattle.windows.specs.Meaning.{turned, windowed, beginning, ending}

-- a figure that is one number
abbrev number : ℕ → ℕ → Figure
number a b = record { derived = a ∷ []; stated = b ∷ [] }

-- m values of a table from argument a on
abbrev values_from : Table → ℕ → ℕ → List ℕ
values_from t a zero = []
values_from t a (suc m) = t a ∷ values_from t (a + 1) m

-- a figure that is a whole table of span n: its values at 0 … n
abbrev values : Table → ℕ → List ℕ → Figure
values t n vs = record { derived = values_from t 0 (n + 1); stated = vs }

-- the table of the door strip with the one word 11
abbrev pub door : Table
door = strip_table (11 ∷ [])

-- a climate reading of so many hundredths of a degree below zero
abbrev below : ℕ → ClimateReading
below t = record { minute = 0; temperature = neg_ℤ (pos t) }

-- the readings −40.01, −40.00 and −39.98 degrees
abbrev pub cold : List ClimateReading
cold = below 4001 ∷ below 4000 ∷ below 3998 ∷ []

-- the level of a climate reading
abbrev level : ClimateReading → ℕ
level r = climate_level r.temperature

-- the table of the counter of these readings
abbrev pub counted : Table
counted = counter_table level cold

-- the row of worked figures: those of logs and plans, and then those of the loggers
abbrev pub figures : List Figure
figures =
    of_logs_and_plans
    ++ (values door 4 (0 ∷ 1 ∷ 2 ∷ 2 ∷ 3 ∷ [])
    ∷ values (turned door 4) 4 (0 ∷ 1 ∷ 1 ∷ 2 ∷ 3 ∷ [])
    ∷ values (windowed door (beginning 4 1 3)) (ending 4 1 3 - beginning 4 1 3) (1 ∷ 2 ∷ 2 ∷ [])
    ∷ values counted 3 (2 ∷ 2 ∷ 3 ∷ 3 ∷ [])
    ∷ number (total_of_levels level cold) 2
    ∷ number (counted 3 * (3 + 1) - sum_of counted 3) 2
    ∷ [])

-- every figure of the row comes out as stated
abbrev pub FiguresAreRight : Type 0
FiguresAreRight = map (λ (f : Figure). f.derived) figures ≡ map (λ (f : Figure). f.stated) figures
