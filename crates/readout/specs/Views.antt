-- What a readout shows. Assumes nothing.
use Rattle.std.specs.Prelude.{ℕ, List, Option}
use Rattle.tables.specs.declared.points.Point.{Point}
use Rattle.logs.specs.Points as log
use Rattle.readout.specs.declared.readouts.Readout.{Readout}

-- the points known, the questions left, the mark, and the argument of the ticket that is out
pub record View : Type 0 where
  pub points : List Point
  pub left : ℕ
  pub mark : ℕ
  pub out : Option ℕ

abbrev pub view : Readout → View
view r = record { points = log.points r.log; left = r.left; mark = r.mark; out = r.out }
