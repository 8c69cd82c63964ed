use Rattle.strips.proofs.Places.{bits_placed}
use Rattle.strips.proofs.bits.bits_are_placed.Goals as goal

pub returns : goal.returns
returns c = bits_placed
