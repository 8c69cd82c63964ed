-- The logger that is set. Assumes nothing.
use Rattle.std.specs.Prelude.{ℕ, List, Some, None, Option, Vec}
use Rattle.std.specs.declared.alloc.Global.{Global}
use Rattle.std.specs.declared.convert.AsSlice.{Ghosts as Lends}
use Rattle.loggers.specs.declared.chosen.Chosen.{Chosen}
use Rattle.loggers.specs.declared.chosen.Chosen.TheVariants as chosen

-- none, the table of a row, or the diagonal of a span and a rise
pub data Held : Type 0 where
  nothing : Held
  row : List ℕ → Held
  slope : ℕ → ℕ → Held

abbrev pub held : {lends : Lends (Vec ℕ Global) ℕ} → Option (Chosen (Vec ℕ Global) lends) → Held
held None = nothing
held {lends} (Some (chosen.Table t)) = row (lends.items t.values)
held (Some (chosen.Diagonal d)) = slope d.span d.rise
