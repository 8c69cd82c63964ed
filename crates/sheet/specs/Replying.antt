-- The reply to a line. Assumes nothing.
use Rattle.std.specs.Prelude.{ℕ, Some, None, Ok, Err, Option, Result}
use Rattle.denials.specs.declared.Denial.{Denial}
use Rattle.denials.specs.Told.{told}
use Rattle.sheet.specs.declared.reports.Report.{Report}
use Rattle.sheet.specs.Running.{Figures, figures}

-- nothing where a logger was set, the figures of an accepted run, or the number of a denial
abbrev pub Reply : Type 0
Reply = Result (Option Figures) ℕ

-- a reply of the code
abbrev pub replied : Result (Option Report) Denial → Reply
replied (Ok None) = Ok None
replied (Ok (Some r)) = Ok (Some (figures r))
replied (Err denial) = Err (told denial).0
