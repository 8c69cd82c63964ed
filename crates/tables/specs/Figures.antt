-- Worked figures, derived from the definitions. Assumes nothing.
use Rattle.std.specs.Prelude.{◌≡◌, ℕ, List, [], ◌∷◌, ◌++◌, map}
use Rattle.std.specs.Option.{option_to_list}
use Rattle.tables.specs.declared.points.Point.{Point}
use Rattle.tables.specs.Least.{least_width}
use Rattle.tables.specs.Log.{fresh, insert, low, high, width}
use Rattle.tables.specs.Plan.{equal_spacing}

-- a figure: what the definitions give, and what it should be
pub record Figure : Type 0 where
  pub derived : List ℕ
  pub stated : List ℕ

-- a figure that is one number
abbrev number : ℕ → ℕ → Figure
number a b = record { derived = a ∷ []; stated = b ∷ [] }

-- the point at x with value v
abbrev point : ℕ → ℕ → Point
point x v = record { at = x; value = v }

-- the points (0, 0), (6, 18), (12, 36)
abbrev pub halves : List Point
halves = point 0 0 ∷ point 6 18 ∷ point 12 36 ∷ []

-- span 4, the points (0, 0), (2, 1), (4, 9)
abbrev pub steep : List Point
steep = point 0 0 ∷ point 2 1 ∷ point 4 9 ∷ []

-- the row of worked figures
abbrev pub figures : List Figure
figures =
    number (least_width 12 3) 24
    ∷ number (least_width 12 4) 18
    ∷ number (least_width 10 2) 24
    ∷ number (least_width 1 0) 0
    ∷ number (least_width 5 4) 0
    ∷ number (width halves) 180
    ∷ record { derived = low steep ∷ high steep ∷ []; stated = 11 ∷ 20 ∷ [] }
    ∷ record {
      derived = option_to_list (equal_spacing 2 (fresh 10 0 0)) ++ option_to_list (equal_spacing 2 (insert (point 3 0) (fresh 10 0 0)));
      stated = 3 ∷ 6 ∷ [];
    }
    ∷ []

-- every figure of the row comes out as stated
abbrev pub FiguresAreRight : Type 0
FiguresAreRight = map (λ (f : Figure). f.derived) figures ≡ map (λ (f : Figure). f.stated) figures
