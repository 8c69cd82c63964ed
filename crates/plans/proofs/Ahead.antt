-- What is ahead in a log tells which stops it has. Assumes nothing.
use Rattle.std.proofs.Common.{◌≡◌, ℕ, zero, suc, ◌<◌, ◌≤◌, Bool, true, false, not, eqb, ltb, List, [], ◌∷◌, length, drop, sym, refl, ap, ◌∙◌, subst, ⊎_elim, arith}
use Rattle.std.specs.List.Sorted.{IsPartitionPoint}
use Rattle.std.proofs.lemmas.Bool.{cases_lt, cond_both, cond-true, cond-false, lt-ltb, le-ltb, ltb-true, ne_eqb, eq-eqb}
use Rattle.std.proofs.lemmas.List.Sorted.{IsNonDecreasingBy-drop}
use Rattle.tables.specs.declared.points.Point.{Point}
use Rattle.tables.specs.Log.{Rising, last_of, IsLog, span_of, has}
use Rattle.tables.specs.Plan.{unknown}
use Rattle.tables.proofs.Stops.{cut_at}
use Rattle.logs.specs.declared.logs.Log.{Log}
use Rattle.logs.specs.Points.{points}
use Rattle.logs.proofs.Gaps.{at_up}
use Rattle.logs.proofs.Sound.{points_are_log}
use Rattle.plans.specs.Ahead.{Rises, ahead, begins_at}
use Rattle.plans.specs.Lawful.{lacks_before}
use Rattle.plans.proofs.Cuts.{stop_below}

-- the place up to which arguments are below x is where what is ahead begins
pub ahead_from : (l : List Point) (x k : ℕ) → k ≤ length l → IsPartitionPoint (λ (p : Point). ltb p.at x ≡ true) (λ p. ltb p.at x ≡ false) l k → drop k l ≡ ahead x l
ahead_from [] x zero h s = refl
ahead_from [] x (suc k) h s = absurd (let z : ⊥ = omega arith in z)
ahead_from (p ∷ ps) x zero h s = sym (cond-false _ _ _ (s.1 0 p (omega arith) (omega arith)))
ahead_from (p ∷ ps) x (suc k) h s =
    ahead_from ps x k (omega arith) (λ i d le lt. s.0 (suc i) d (omega arith) (omega arith), λ i d le lt. s.1 (suc i) d (omega arith) (omega arith))
    ∙ sym (cond-true _ _ _ (s.0 0 p (omega arith) (omega arith)))

-- the points of a log rise
pub log_rises : (log : Log) (l : List Point) → l ≡ points log → Rises l
unfolding Rises
log_rises log l e = rw e (at_up (points log) (points_are_log log))

-- and what is ahead in a row that rises does so too
ahead_rises : (x : ℕ) (ps : List Point) → Rises ps → Rises (ahead x ps)
unfolding Rises
ahead_rises x [] r = r
ahead_rises x (p ∷ ps) r =
    cond_both (ltb p.at x) (ahead x ps) (p ∷ ps) Rises
    (λ t. ahead_rises x ps (IsNonDecreasingBy-drop (λ (q : Point). q.at) 1 (p ∷ ps) r))
    (λ f. r)

pub left_rises : (l ps : List Point) (x : ℕ) → l ≡ ahead x ps → Rises ps → Rises l
left_rises l ps x e r = subst Rises (sym e) (ahead_rises x ps r)

-- what is ahead of a y that is not below x is ahead of x
pub ahead_later : (x y : ℕ) (ps : List Point) → x ≤ y → ahead y (ahead x ps) ≡ ahead y ps
ahead_later x y [] h = refl
ahead_later x y (p ∷ ps) h =
    cond_both (ltb p.at x) (ahead x ps) (p ∷ ps) (λ l. ahead y l ≡ ahead y (p ∷ ps))
    (λ t. ahead_later x y ps h ∙ sym (cond-true _ _ _ (lt-ltb p.at y (omega (arith, ltb-true p.at x t)))))
    (λ f. refl)

-- points that rise from x or above have x only at their first
first_has : (p : Point) (ps : List Point) (x : ℕ) → Rising p ps → x ≤ p.at → eqb p.at x ≡ has x (p ∷ ps)
first_has p ps x r h =
    ⊎_elim
    (λ (lt : x < p.at). ne_eqb p.at x (omega arith) ∙ sym (lacks_before p ps x r lt).0)
    (λ (ge : p.at ≤ x). let e : p.at ≡ x = omega arith in eq-eqb p.at x e ∙ sym (cond-true _ _ _ (eq-eqb x p.at (sym e))))
    (cases_lt x p.at)

-- so points that rise have x exactly when what is ahead begins there
ahead_has : (p : Point) (ps : List Point) (x : ℕ) → Rising p ps → begins_at x (ahead x (p ∷ ps)) ≡ has x (p ∷ ps)
ahead_has p [] x r =
    ⊎_elim
    (λ (lt : p.at < x). rw (lt-ltb p.at x lt, ne_eqb x p.at (omega arith)) refl)
    (λ (le : x ≤ p.at). rw (le-ltb p.at x le) (first_has p [] x r le))
    (cases_lt p.at x)
ahead_has p (q ∷ ps) x r =
    ⊎_elim
    (λ (lt : p.at < x). rw (lt-ltb p.at x lt, ne_eqb x p.at (omega arith)) (ahead_has q ps x r.2))
    (λ (le : x ≤ p.at). rw (le-ltb p.at x le) (first_has p (q ∷ ps) x r le))
    (cases_lt p.at x)

-- an argument below the span is unknown exactly when what is ahead does not begin there
ahead_unknown : (log : List Point) (x : ℕ) → IsLog (span_of log) log → x < span_of log → unknown log x ≡ not (begins_at x (ahead x log))
ahead_unknown [] x is h = absurd is
ahead_unknown (p ∷ ps) x is h =
    ⊎_elim
    (λ (some : 0 < x). rw (lt-ltb 0 x some, lt-ltb x (last_of p ps).at h) (ap not (sym (ahead_has p ps x is.2))))
    (λ (none : x ≤ 0). rw (le-ltb 0 x none, le-ltb p.at x (omega arith), eq-eqb p.at x (omega (arith, is.0))) refl)
    (cases_lt 0 x)

-- and so is a stop of equal spacing, of which the points left are ahead
pub stop_unknown : (log : Log) (span k j : ℕ) (left : List Point) (b : Bool) → span ≡ span_of (points log) → j < k → left ≡ ahead (cut_at span k j) (points log) → b ≡ begins_at (cut_at span k j) left → unknown (points log) (cut_at span k j) ≡ not b
stop_unknown log span k j left b e h l g =
    let inside : cut_at span k j < span_of (points log) = omega (arith, stop_below span k j (omega (arith, log.spans)) h) in
    ahead_unknown (points log) (cut_at span k j) (points_are_log log) inside ∙ ap not (sym (g ∙ ap (begins_at (cut_at span k j)) l))
