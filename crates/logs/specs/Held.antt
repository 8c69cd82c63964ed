-- What the memory of a log holds, and when that is a log. Assumes nothing.
use Rattle.std.specs.Prelude.{Bool, true, false, ◌&&◌, List, [], ◌∷◌, take, ◌==◌, nat_le, nat_lt}
use Rattle.tables.specs.declared.points.Point.{Point}
use Rattle.logs.specs.declared.places.Places.{Places}

-- the points in use
abbrev pub held : Places → List Point
held s = take s.used s.points

-- the test of Rising: from the point p on, arguments rise strictly and values never fall
abbrev pub rises : Point → List Point → Bool
rises p [] = true
rises p (q ∷ ps) = nat_lt p.at q.at && (nat_le p.value q.value && rises q ps)

-- the test of IsLog at the last argument
abbrev pub is_log : List Point → Bool
is_log [] = false
is_log (p ∷ ps) = p.at == 0 && rises p ps
