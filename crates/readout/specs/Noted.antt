-- A point that has gone into a log. Assumes nothing.
use Rattle.std.specs.Prelude.{◌≡◌, ◌+◌, false, List, length}
use Rattle.tables.specs.declared.points.Point.{Point}
use Rattle.tables.specs.Log.{insert}
use Rattle.readout.specs.Calls.{out_of_order}

-- its value was in order, and the log has it and is longer by one
pub record Noted (before : List Point) (p : Point) (after : List Point) : Type 0 where
  pub in_order : out_of_order before p.at p.value ≡ false
  pub inserts : after ≡ insert p before
  pub longer : length after ≡ length before + 1
