-- What is said where a log refuses. Assumes nothing.
use Rattle.std.specs.Prelude.{ℕ, List, codes}
use Rattle.logs.specs.declared.misfits.BadEnds.{BadEnds}
use Rattle.logs.specs.declared.misfits.BadEnds.TheVariants.{Span, Order}
use Rattle.logs.specs.declared.misfits.Misfit.{Misfit}
use Rattle.logs.specs.declared.misfits.Misfit.TheVariants.{NotInner, Known, Full, OutOfOrder}

-- of its ends
abbrev pub said_of_ends : BadEnds → List ℕ
said_of_ends Span = codes "the span must be from 1 to 1,000,000"
said_of_ends Order = codes "the first value is above the last"

-- of a point
abbrev pub said_of_point : Misfit → List ℕ
said_of_point NotInner = codes "the argument must lie strictly between 0 and the span"
said_of_point Known = codes "the argument has its answer already"
said_of_point Full = codes "the log is full, with 256 points"
said_of_point OutOfOrder = codes "the value must lie between those of the answers on either side"
