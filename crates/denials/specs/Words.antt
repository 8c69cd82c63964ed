-- What a denial says in words. Assumes nothing.
use Rattle.std.specs.Prelude.{ℕ, List, ◌++◌, codes, decimal}
use Rattle.denials.specs.declared.Denial.{Denial}
use Rattle.denials.specs.declared.Denial.TheVariants.{Span, Ends, Budget, TicketOut, NotInner, Known, NoneLeft, NotThisTicket, OutOfOrder, Short, Window, Rise, Form, Falls, Readings, LineAwake}
use Rattle.denials.specs.Told.{told}

-- the cause, in words
abbrev pub cause_of : Denial → List ℕ
cause_of Span = codes "the span is 0 or above 1,000,000"
cause_of Ends = codes "the first end is above the last"
cause_of Budget = codes "the budget is above 254 or above the span less 1"
cause_of TicketOut = codes "a ticket is out"
cause_of NotInner = codes "the argument is not strictly between the ends"
cause_of Known = codes "the argument is in the log"
cause_of NoneLeft = codes "no question is left"
cause_of NotThisTicket = codes "no ticket is out, or this is not the one"
cause_of OutOfOrder = codes "the value is below the lower or above the upper neighbour"
cause_of (Short n) = codes "the buffer is too short"
cause_of Window = codes "the window does not lie within the span"
cause_of Rise = codes "the rise is 0 or too steep for the span"
cause_of (Form n) = codes "the line is not of the form"
cause_of (Falls n) = codes "a value is lower than the one before"
cause_of Readings = codes "too many readings, or fewer strip bits than the span"
cause_of LineAwake = codes "the line is awake"

-- what is printed of a denial: its number and its cause
abbrev pub said : Denial → List ℕ
said d = codes "denied (" ++ (decimal (told d).0 ++ (codes "): " ++ cause_of d))
