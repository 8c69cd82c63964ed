use Rattle.tables.proofs.Steep.{diagonal_floor, steep_floor}
use Rattle.tables.proofs.theorems.diagonal_floor.Goals as goal

pub returns : goal.returns
returns c = record { diagonal = diagonal_floor; steep = steep_floor }
