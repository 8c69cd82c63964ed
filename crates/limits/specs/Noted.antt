-- What a line does to the notes. Assumes nothing.
use Rattle.std.specs.Prelude.{◌≡◌, ◌-◌, List, length, Some, None, Option, Ok, Err, Result}
use Rattle.tables.specs.declared.points.Point.{Point}
use Rattle.tables.specs.Log.{fresh, insert, span_of, first_value, last_value, SharpLimits}
use Rattle.tables.specs.Theorems.{promise}
use Rattle.logs.specs.declared.logs.Log.{Log}
use Rattle.logs.specs.Fits.{bad_ends, misfit}
use Rattle.logs.specs.Points.{points}
use Rattle.limits.specs.declared.lines.Fault.{Fault}
use Rattle.limits.specs.declared.lines.Line.{Line}
use Rattle.limits.specs.declared.lines.Line.TheVariants as line
use Rattle.limits.specs.declared.notes.Notes.{Notes}
use Rattle.limits.specs.declared.notes.Done.{Done}
use Rattle.limits.specs.declared.notes.Done.TheVariants as done
use Rattle.limits.specs.declared.notes.Refusal.{Refusal}
use Rattle.limits.specs.declared.notes.Refusal.TheVariants as refusal
use Rattle.limits.specs.declared.notes.Summary.{Summary}

-- the points of a log, where there is one
abbrev pub points_of : Option Log → Option (List Point)
points_of None = None
points_of (Some log) = Some (points log)

-- the points known, once the ends are
abbrev pub known : Notes → Option (List Point)
known notes = points_of notes.log

-- the refusal, or else what is done
abbrev pub or_refuse : {E : Type 0} → Option E → (E → Refusal) → Done → Result Done Refusal
or_refuse (Some e) refuses does = Err (refuses e)
or_refuse None refuses does = Ok does

-- what comes of what reading a line gave, given the points known
abbrev pub said : Option (List Point) → Result Line Fault → Result Done Refusal
said (Some log) (Ok (line.Ends n a b)) = Err refusal.OpenedBefore
said None (Ok (line.Ends n a b)) = or_refuse (bad_ends n a b) refusal.Ends (done.Opened n a b)
said (Some log) (Ok (line.Answer p)) = or_refuse (misfit log p) refusal.Point (done.Taken p)
said None (Ok (line.Answer p)) = Err refusal.NotOpened
said o (Err f) = Err (refusal.Unclear f)

-- the points known after it
abbrev pub kept : Option (List Point) → Result Done Refusal → Option (List Point)
kept o (Ok (done.Opened n a b)) = Some (fresh n a b)
kept (Some log) (Ok (done.Taken p)) = Some (insert p log)
kept None (Ok (done.Taken p)) = None
kept o (Err e) = o

-- the summary: none before the ends are known, then the sharp limits, the answers and the promise
abbrev pub Summed : Option (List Point) → Option Summary → Type 0
Summed None None = Unit {0}
Summed None (Some s) = ⊥
Summed (Some log) None = ⊥
Summed (Some log) (Some s) =
    SharpLimits log s.limits.low s.limits.high × (s.answers ≡ length log - 2)
    × (s.promise ≡ promise (span_of log) (first_value log) (last_value log) (length log - 2))
