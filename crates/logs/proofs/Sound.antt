-- The points of a log are a log. Assumes nothing.
use Rattle.std.proofs.Common.{◌≡◌, ℕ, ◌<◌, true, ◌&&◌, eqb, ltb, leb, List, [], ◌∷◌, length, refl, arith}
use Rattle.std.proofs.lemmas.Bool.{and_parts, and_from, false≢true, ltb-true, leb-true, eqb-true, lt-ltb, le-leb, eq-eqb}
use Rattle.tables.specs.declared.points.Point.{Point}
use Rattle.tables.specs.Log.{Rising, IsLog, span_of}
use Rattle.logs.specs.declared.logs.Log.{Log}
use Rattle.logs.specs.Held.{rises, is_log}
use Rattle.logs.specs.Points.{points}

rising : (p : Point) (ps : List Point) → rises p ps ≡ true → Rising p ps
rising p [] e = tt
rising p (q ∷ ps) e =
    let one = and_parts (ltb p.at q.at) (leb p.value q.value && rises q ps) e in
    let two = and_parts (leb p.value q.value) (rises q ps) one.1 in
    (ltb-true p.at q.at one.0, leb-true p.value q.value two.0, rising q ps two.1)

rises_so : (p : Point) (ps : List Point) → Rising p ps → rises p ps ≡ true
rises_so p [] r = refl
rises_so p (q ∷ ps) r =
    and_from (ltb p.at q.at) (leb p.value q.value && rises q ps) (lt-ltb p.at q.at r.0)
    (and_from (leb p.value q.value) (rises q ps) (le-leb p.value q.value r.1) (rises_so q ps r.2))

-- what passes the test is a log
pub is_log_lem : (log : List Point) → is_log log ≡ true → IsLog (span_of log) log
is_log_lem [] e = absurd (false≢true e)
is_log_lem (p ∷ ps) e =
    let both = and_parts (eqb p.at 0) (rises p ps) e in
    (eqb-true p.at 0 both.0, refl, rising p ps both.1)

-- and a log passes it
pub log_passes : (n : ℕ) (log : List Point) → IsLog n log → is_log log ≡ true
log_passes n [] e = absurd e
log_passes n (p ∷ ps) e = and_from (eqb p.at 0) (rises p ps) (eq-eqb p.at 0 e.0) (rises_so p ps e.2)

-- a log has points
pub log_some : (log : List Point) → is_log log ≡ true → 0 < length log
log_some [] e = absurd (false≢true e)
log_some (p ∷ ps) e = omega arith

-- as the type says of every log
pub points_are_log : (log : Log) → IsLog (span_of (points log)) (points log)
points_are_log log = is_log_lem (points log) log.sound
