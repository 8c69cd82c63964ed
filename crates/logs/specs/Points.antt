-- The points of a log. Assumes nothing.
use Rattle.std.specs.Prelude.{List}
use Rattle.tables.specs.declared.points.Point.{Point}
use Rattle.logs.specs.declared.logs.Log.{Log}
use Rattle.logs.specs.Held.{held}

-- the points of a log, in the order of their arguments
abbrev pub points : Log → List Point
points log = held log.places
