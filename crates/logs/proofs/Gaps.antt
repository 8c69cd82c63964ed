-- Where an argument belongs in a log, and what stands beside it. Assumes nothing.
use Rattle.std.proofs.Common.{◌≡◌, ℕ, zero, suc, ◌+◌, ◌-◌, ◌<◌, ◌≤◌, true, false, cond, eqb, ltb, leb, List, [], ◌∷◌, length, get_or, sym, refl, ap, ◌∙◌, subst, ⊎_elim, one-add, arith}
use Rattle.std.specs.List.{insert as inserted}
use Rattle.std.specs.List.Sorted.{IsNonDecreasingBy, IsPartitionPoint}
use Rattle.std.proofs.lemmas.Bool.{cases_lt, lt-ltb, le-ltb, le-leb, lt-leb, eq-eqb, ne_eqb, cond-true, cond-false, true≢false}
use Rattle.std.proofs.lemmas.Bool.Decides.{nat_tests}
use Rattle.tables.specs.declared.points.Point.{Point}
use Rattle.tables.specs.Log.{Rising, last_of, IsLog, span_of, first_value, last_value, has, insert, low_table, high_table}
use Rattle.tables.specs.Table.{Inner}
use Rattle.tables.proofs.Inserts.{insert_is_log, insert-length, insert_span}
use Rattle.logs.specs.Fits.{place, origin, Beside, Goes}
use Rattle.logs.specs.Held.{is_log}
use Rattle.logs.proofs.Sound.{is_log_lem, log_passes}

-- the point at place i
abbrev pub nth : List Point → ℕ → Point
nth log i = get_or log i origin

-- the place up to which arguments are at most x is that of x
pub place_by : (x : ℕ) (log : List Point) (i : ℕ) → i ≤ length log → IsPartitionPoint (λ (p : Point). leb p.at x ≡ true) (λ p. leb p.at x ≡ false) log i → place x log ≡ i
place_by x [] i h s = omega arith
place_by x (p ∷ ps) zero h s = cond-false _ _ _ (s.1 0 p (omega arith) (omega arith))
place_by x (p ∷ ps) (suc i) h s =
    cond-true _ _ _ (s.0 0 p (omega arith) (omega arith))
    ∙ ap (λ m. 1 + m) (place_by x ps i (omega arith) (λ k d le lt. s.0 (suc k) d (omega arith) (omega arith), λ k d le lt. s.1 (suc k) d (omega arith) (omega arith)))
    ∙ one-add i

-- a point goes in at its place
pub insert_at_place : (q : Point) (log : List Point) → insert q log ≡ inserted log (place q.at log) q
insert_at_place q [] = refl
insert_at_place q (p ∷ ps) =
    ⊎_elim
    (λ (lt : q.at < p.at). rw (lt-ltb q.at p.at lt, lt-leb p.at q.at lt) refl)
    (λ (le : p.at ≤ q.at). rw (le-ltb q.at p.at le, le-leb p.at q.at le, one-add) (ap (λ l. p ∷ l) (insert_at_place q ps)))
    (cases_lt q.at p.at)

-- arguments rise with the place
rises_from : (p : Point) (ps : List Point) → Rising p ps → (k : ℕ) (d : Point) → k < length ps → p.at < (get_or ps k d).at
rises_from p [] r k d h = absurd (let z : ⊥ = omega arith in z)
rises_from p (q ∷ ps) r zero d h = r.0
rises_from p (q ∷ ps) r (suc k) d h = omega (arith, r.0, rises_from q ps r.2 k d (omega arith))

rises_between : (p : Point) (ps : List Point) → Rising p ps → (i j : ℕ) (d : Point) → i < j → j < length (p ∷ ps) → (get_or (p ∷ ps) i d).at < (get_or (p ∷ ps) j d).at
rises_between p ps r zero zero d lt h = absurd (let z : ⊥ = omega arith in z)
rises_between p ps r zero (suc j) d lt h = rises_from p ps r j d (omega arith)
rises_between p [] r (suc i) j d lt h = absurd (let z : ⊥ = omega arith in z)
rises_between p (q ∷ ps) r (suc i) zero d lt h = absurd (let z : ⊥ = omega arith in z)
rises_between p (q ∷ ps) r (suc i) (suc j) d lt h = rises_between q ps r.2 i j d (omega arith) (omega arith)

-- so they do from place to place of a log
pub rises_by_place : (log : List Point) → IsLog (span_of log) log → (i j : ℕ) (d : Point) → i < j → j < length log → (get_or log i d).at < (get_or log j d).at
rises_by_place [] is i j d lt h = absurd is
rises_by_place (p ∷ ps) is i j d lt h = rises_between p ps is.2 i j d lt h

-- and do not fall
pub at_up : (log : List Point) → IsLog (span_of log) log → IsNonDecreasingBy (λ (p : Point). p.at) log
at_up log is i j d le h =
    ⊎_elim
    (λ (lt : i < j). omega (arith, rises_by_place log is i j d lt h))
    (λ (ge : j ≤ i). subst (λ m. (get_or log i d).at ≤ (get_or log m d).at) {x = i} {y = j} (omega arith) (omega arith))
    (cases_lt i j)

-- the last point at or before x
abbrev prior : Point → List Point → ℕ → Point
prior p [] x = p
prior p (q ∷ ps) x = cond (ltb x q.at) p (prior q ps x)

place_starts : (p : Point) (ps : List Point) (x : ℕ) → p.at ≤ x → place x (p ∷ ps) ≡ 1 + place x ps
place_starts p ps x h = cond-true _ _ _ (le-leb p.at x h)

-- it stands right before the place of x
pub prior_at : (p : Point) (ps : List Point) (x : ℕ) (d : Point) → p.at ≤ x → get_or (p ∷ ps) (place x (p ∷ ps) - 1) d ≡ prior p ps x
prior_at p [] x d h = rw (place_starts p [] x h) refl
prior_at p (q ∷ ps) x d h =
    ⊎_elim
    (λ (lt : x < q.at). rw (place_starts p (q ∷ ps) x h, lt-leb q.at x lt, lt-ltb x q.at lt) refl)
    (λ (le : q.at ≤ x).
    rw (place_starts p (q ∷ ps) x h, le-ltb x q.at le)
    (ap (λ m. get_or (p ∷ q ∷ ps) m d) {x = 1 + place x (q ∷ ps) - 1} {y = suc (place x (q ∷ ps) - 1)} (omega (arith, place_starts q ps x le)) ∙ prior_at q ps x d le))
    (cases_lt x q.at)

-- the low table has its value
low_at_prior : (p : Point) (ps : List Point) (x : ℕ) → low_table (p ∷ ps) x ≡ (prior p ps x).value
low_at_prior p [] x = refl
low_at_prior p (q ∷ ps) x =
    ⊎_elim
    (λ (lt : x < q.at). rw (lt-ltb x q.at lt) refl)
    (λ (le : q.at ≤ x). rw (le-ltb x q.at le) (low_at_prior q ps x))
    (cases_lt x q.at)

has_not_before : (p : Point) (ps : List Point) (x : ℕ) → Rising p ps → x < p.at → has x (p ∷ ps) ≡ false
has_not_before p [] x r h = rw (ne_eqb x p.at (omega arith)) refl
has_not_before p (q ∷ ps) x r h = rw (ne_eqb x p.at (omega arith)) (has_not_before q ps x r.2 (omega (arith, r.0)))

-- and x is in the log exactly when it is at x
has_at_prior : (p : Point) (ps : List Point) (x : ℕ) → Rising p ps → p.at ≤ x → has x (p ∷ ps) ≡ eqb x (prior p ps x).at
has_at_prior p [] x r h = grind (arith, nat_tests)
has_at_prior p (q ∷ ps) x r h =
    ⊎_elim
    (λ (lt : x < q.at). rw (lt-ltb x q.at lt, has_not_before q ps x r.2 lt) (grind (arith, nat_tests)))
    (λ (le : q.at ≤ x). rw (le-ltb x q.at le, ne_eqb x p.at (omega (arith, r.0))) (has_at_prior q ps x r.2 le))
    (cases_lt x q.at)

place_inside : (p : Point) (ps : List Point) (x : ℕ) → x < (last_of p ps).at → place x (p ∷ ps) < length (p ∷ ps)
place_inside p [] x h = rw (lt-leb p.at x h) (omega arith)
place_inside p (q ∷ ps) x h =
    ⊎_elim
    (λ (lt : x < p.at). rw (lt-leb p.at x lt) (omega arith))
    (λ (le : p.at ≤ x). rw (place_starts p (q ∷ ps) x le) (omega (arith, place_inside q ps x h)))
    (cases_lt x p.at)

high_at_place : (p : Point) (ps : List Point) (x : ℕ) (d : Point) → x < (last_of p ps).at → has x (p ∷ ps) ≡ false → high_table (p ∷ ps) x ≡ (get_or (p ∷ ps) (place x (p ∷ ps)) d).value
high_at_place p [] x d h out = rw (le-leb x p.at (omega arith), lt-leb p.at x h) refl
high_at_place p (q ∷ ps) x d h out =
    ⊎_elim
    (λ (lt : x < p.at). rw (le-leb x p.at (omega arith), lt-leb p.at x lt) refl)
    (λ (le : p.at ≤ x).
    let ne : x ≡ p.at → ⊥ = λ e. true≢false (sym (cond-true _ _ _ (eq-eqb x p.at e)) ∙ out) in
    rw (lt-leb x p.at (omega arith), place_starts p (q ∷ ps) x le, one-add (place x (q ∷ ps)))
    (high_at_place q ps x d h (sym (cond-false _ _ _ (ne_eqb x p.at ne)) ∙ out)))
    (cases_lt x p.at)

-- no place is past the end
place_le : (x : ℕ) (log : List Point) → place x log ≤ length log
place_le x [] = omega arith
place_le x (p ∷ ps) =
    ⊎_elim
    (λ (lt : x < p.at). rw (lt-leb p.at x lt) (omega arith))
    (λ (le : p.at ≤ x). rw (place_starts p ps x le) (omega (arith, place_le x ps)))
    (cases_lt x p.at)

eqb-turned : (a b : ℕ) → eqb a b ≡ eqb b a
eqb-turned a b = grind (arith, nat_tests)

-- what stands beside the place of an argument
pub beside : (log : List Point) (x : ℕ) → IsLog (span_of log) log → Beside log x (place x log)
beside [] x is = absurd is
beside (p ∷ ps) x is =
    let h : p.at ≤ x = omega (arith, is.0) in
    record {
      some = omega (arith, place_starts p ps x h);
      within = place_le x (p ∷ ps);
      inside = place_inside p ps x;
      known = has_at_prior p ps x is.2 h ∙ eqb-turned x (prior p ps x).at ∙ ap (λ (q : Point). eqb q.at x) (sym (prior_at p ps x origin h));
      below = low_at_prior p ps x ∙ ap (λ (q : Point). q.value) (sym (prior_at p ps x origin h));
      above = high_at_place p ps x origin;
    }

-- no argument is above the last
pub at_le_last : (p : Point) (ps : List Point) → Rising p ps → p.at ≤ (last_of p ps).at
at_le_last p [] r = omega arith
at_le_last p (q ∷ ps) r = omega (arith, r.0, at_le_last q ps r.2)

last_at_end : (p : Point) (ps : List Point) (d : Point) → get_or (p ∷ ps) (length (p ∷ ps) - 1) d ≡ last_of p ps
last_at_end p [] d = refl
last_at_end p (q ∷ ps) d =
    ap (λ m. get_or (p ∷ q ∷ ps) m d) {x = length (p ∷ q ∷ ps) - 1} {y = suc (length (q ∷ ps) - 1)} (omega arith) ∙ last_at_end q ps d

-- the span of a log is the argument at its last place
pub span_at_end : (log : List Point) (d : Point) → IsLog (span_of log) log → (get_or log (length log - 1) d).at ≡ span_of log
span_at_end [] d is = absurd is
span_at_end (p ∷ ps) d is = ap (λ (q : Point). q.at) (last_at_end p ps d)

-- no value is above the last
pub value_le_last : (p : Point) (ps : List Point) → Rising p ps → p.value ≤ (last_of p ps).value
value_le_last p [] r = omega arith
value_le_last p (q ∷ ps) r = omega (arith, value_le_last q ps r.2)

-- the end values of a log stand at its first and last place
pub ends_at : (log : List Point) → IsLog (span_of log) log → ((get_or log 0 origin).value ≡ first_value log) × ((get_or log (length log - 1) origin).value ≡ last_value log) × ((get_or log 0 origin).value ≤ (get_or log (length log - 1) origin).value)
ends_at [] is = absurd is
ends_at (p ∷ ps) is =
    let last = ap (λ (q : Point). q.value) (last_at_end p ps origin) in
    (refl, last, omega (arith, last, value_le_last p ps is.2))

-- a point that does not misfit goes in at its place i
pub goes : (log : List Point) (p : Point) → is_log log ≡ true → Inner (span_of log) p.at → (i : ℕ) → i ≡ place p.at log → ((nth log (i - 1)).at ≡ p.at → ⊥) → length log < 256 → (nth log (i - 1)).value ≤ p.value → p.value ≤ (nth log i).value → Goes log p i
goes log p sound inner i here new room lo hi =
    let n = span_of log in
    let is = is_log_lem log sound in
    let at : Beside log p.at i = subst (Beside log p.at) (sym here) (beside log p.at is) in
    let out : has p.at log ≡ false = at.known ∙ ne_eqb (nth log (i - 1)).at p.at new in
    let after = insert_is_log n p.at p.value log is inner out (omega (arith, at.below)) (omega (arith, at.above inner.1 out)) in
    record {
      within = at.within;
      room = room;
      inserts = ap (λ k. inserted log k p) here ∙ sym (insert_at_place p log);
      longer = insert-length p log;
      sound = log_passes n (insert p log) after;
      span = insert_span n p log is inner.1;
    }
