-- No limit of a log passes its last value at every argument. Assumes nothing.
use Rattle.std.proofs.Common.{◌≡◌, ◌+◌, ◌*◌, ◌≤◌, List, [], ◌∷◌, ap, mul-le-mul_left, arith}
use Rattle.tables.specs.declared.points.Point.{Point}
use Rattle.tables.specs.Log.{Rising, last_of, IsLog, span_of, inner_of, high}
use Rattle.tables.proofs.Limits.{width_is_gaps}
use Rattle.logs.proofs.Gaps.{value_le_last}
use Rattle.readout.specs.Levels.{last_everywhere, Above}

-- the high limit is at most the last value at every argument from the first on
high_le : (p : Point) (ps : List Point) → Rising p ps → high (p ∷ ps) + p.at * (last_of p ps).value ≤ (last_of p ps).value * ((last_of p ps).at + 1)
high_le p [] r = omega arith
high_le p (q ∷ ps) r =
    let inner = inner_of p q in
    let top = (last_of q ps).value in
    let e : q.at ≡ p.at + (inner + 1) = omega arith in
    let h : q.value ≤ top = value_le_last q ps r.2 in
    omega (arith, ap (λ m. m * top) e, mul-le-mul_left inner h, high_le q ps r.2)

-- so neither limit passes it
pub above_all : (log : List Point) → IsLog (span_of log) log → Above log (last_everywhere log)
above_all [] is = absurd is
above_all (p ∷ ps) is =
    let h = high_le p ps is.2 in
    record { low_le = omega (arith, h, (width_is_gaps (span_of (p ∷ ps)) (p ∷ ps) is).0); high_le = omega (arith, h) }
