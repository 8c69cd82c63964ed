-- What a denial tells: its number, and the numbers that come back with it. Assumes nothing.
use Rattle.std.specs.Prelude.{ℕ, List, [], ◌∷◌}
use Rattle.denials.specs.declared.Denial.{Denial}
use Rattle.denials.specs.declared.Denial.TheVariants.{Span, Ends, Budget, TicketOut, NotInner, Known, NoneLeft, NotThisTicket, OutOfOrder, Short, Window, Rise, Form, Falls, Readings, LineAwake}

-- a denial's number, with what comes back: the length needed, the line or the place
abbrev pub told : Denial → ℕ × List ℕ
told Span = (1, [])
told Ends = (2, [])
told Budget = (3, [])
told TicketOut = (4, [])
told NotInner = (5, [])
told Known = (6, [])
told NoneLeft = (7, [])
told NotThisTicket = (8, [])
told OutOfOrder = (9, [])
told (Short length) = (10, length ∷ [])
told Window = (11, [])
told Rise = (12, [])
told (Form line) = (13, line ∷ [])
told (Falls place) = (14, place ∷ [])
told Readings = (15, [])
told LineAwake = (16, [])
