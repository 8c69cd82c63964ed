use Rattle.std.proofs.Common.{refl}
use Rattle.strips.specs.Bits.{low_bits}
use Rattle.figures.proofs.figures_are_right.Goals as goal

pub returns : goal.returns
unfolding low_bits
returns c = refl
