-- The ends of a log, and of a table that agrees with it. Assumes nothing.
use Rattle.std.proofs.Common.{◌≡◌, ℕ, ◌-◌, List, [], ◌∷◌, length, sym, ap, ◌∙◌, arith}
use Rattle.tables.specs.declared.points.Point.{Point}
use Rattle.tables.specs.Log.{IsLog, Agrees, last_of, span_of, first_value, last_value}
use Rattle.tables.specs.Table.{Table}
use Rattle.tables.specs.Theorems.{Asked, promise}
use Rattle.tables.proofs.Unknown.{span_of_log}

-- a log that a table agrees with begins with the table's first value
pub first_value_lem : (t : Table) (N : ℕ) (log : List Point) → IsLog N log → Agrees t log → first_value log ≡ t 0
first_value_lem t N [] is agrees = elim is [ ]
first_value_lem t N (p ∷ ps) is agrees = sym agrees.0 ∙ ap t is.0

agrees_last : (t : Table) (p : Point) (ps : List Point) → Agrees t (p ∷ ps) → t (last_of p ps).at ≡ (last_of p ps).value
agrees_last t p [] agrees = agrees.0
agrees_last t p (q ∷ ps) agrees = agrees_last t q ps agrees.1

-- and ends with its last
pub last_value_lem : (t : Table) (N : ℕ) (log : List Point) → IsLog N log → Agrees t log → last_value log ≡ t N
last_value_lem t N [] is agrees = elim is [ ]
last_value_lem t N (p ∷ ps) is agrees = sym (agrees_last t p ps agrees) ∙ ap t is.1

-- what the log of a run promises is what its ends and its questions promise
pub log_promise :
    (t : Table) (N n : ℕ) (xs : List ℕ) (log : List Point) → Asked t N n xs log →
    promise (span_of log) (first_value log) (last_value log) (length log - 2) ≡ promise N (t 0) (t N) n
log_promise t N n xs log all =
    let span = span_of_log N log all.is_log in
    let low = first_value_lem t N log all.is_log all.agrees in
    let high = last_value_lem t N log all.is_log all.agrees in
    let k : length log - 2 ≡ n = omega (arith, all.points) in
    λ i. promise (span i) (low i) (high i) (k i)
