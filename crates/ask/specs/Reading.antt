-- What the words of a line say. Assumes nothing.
use Rattle.std.specs.Prelude.{◌≡◌, ℕ, List, [], ◌∷◌, length, Some, None, Ok, Err, vec_items, codes, Option, Result, Vec, ◌≢◌}
use Rattle.std.specs.declared.alloc.Global.{Global}
use Rattle.plans.specs.declared.ways.Way.{Way}
use Rattle.plans.specs.declared.ways.Way.TheVariants as way
use Rattle.ask.specs.declared.kinds.Kind.{Kind}
use Rattle.ask.specs.declared.kinds.Kind.TheVariants as kind
use Rattle.ask.specs.declared.lines.Fault.{Fault}
use Rattle.ask.specs.declared.lines.Fault.TheVariants as fault
use Rattle.ask.specs.declared.lines.Line.{Line}
use Rattle.ask.specs.declared.lines.Line.TheVariants as line

-- what the first word says
abbrev pub Says : List ℕ → Option Kind → Type 0
Says w (Some kind.Diagonal) = w ≡ codes "diagonal"
Says w (Some kind.Table) = w ≡ codes "table"
Says w (Some (kind.Run way.EqualSpacing)) = w ≡ codes "spacing"
Says w (Some (kind.Run way.WidestRectangle)) = w ≡ codes "rectangle"
Says w None = (w ≢ codes "diagonal") × (w ≢ codes "table") × (w ≢ codes "spacing") × (w ≢ codes "rectangle")

-- another count of numbers than is needed
abbrev pub miscounted : ℕ → List ℕ → Result Line Fault
miscounted needed vs = Err (fault.Count needed (length vs))

-- a diagonal takes two numbers
abbrev pub diagonal_of : List ℕ → Result Line Fault
diagonal_of [] = miscounted 2 []
diagonal_of (n ∷ []) = miscounted 2 (n ∷ [])
diagonal_of (n ∷ c ∷ []) = Ok (line.Diagonal n c)
diagonal_of (n ∷ c ∷ v ∷ vs) = miscounted 2 (n ∷ c ∷ v ∷ vs)

-- a run takes one
abbrev pub run_of : Way → List ℕ → Result Line Fault
run_of w [] = miscounted 1 []
run_of w (n ∷ []) = Ok (line.Run w n)
run_of w (n ∷ v ∷ vs) = miscounted 1 (n ∷ v ∷ vs)

-- a table takes any number of them
abbrev pub line_of : Kind → Vec ℕ Global → Result Line Fault
line_of kind.Diagonal v = diagonal_of (vec_items v)
line_of kind.Table v = Ok (line.Table v)
line_of (kind.Run w) v = run_of w (vec_items v)
