-- Runs of plans: there is exactly one, what it asks, and which log it leaves. Assumes nothing.
use Rattle.std.proofs.Common.{◌≡◌, ℕ, zero, suc, ◌+◌, ◌<◌, ◌≤◌, true, false, List, [], ◌∷◌, length, Some, None, Option, sym, refl, subst, ⊎_elim, arith, MatchOption}
use Rattle.std.proofs.lemmas.Bool.{cases_lt, ne_eqb, both_ways}
use Rattle.tables.proofs.Inserts.{insert-length, has_new, has_still, insert_agrees, agrees_insert, insert_is_log}
use Rattle.tables.proofs.Limits.{at_le_last, between}
use Rattle.tables.specs.declared.points.Point.{Point}
use Rattle.tables.specs.Log.{Rising, last_of, IsLog, Agrees, has, insert, fresh}
use Rattle.tables.specs.Plan.{Plan, Lawful, AllKnown}
use Rattle.tables.specs.Run.{Run, spent, done, asks}
use Rattle.tables.specs.Table.{Table, NeverFalls, Inner}
use Rattle.tables.specs.Theorems.{RunExists, RunIsUnique, SameRun, LawfulAsksAll, InnerAndDifferent, among}

-- the point that the table t has at x
abbrev pub answer : Table → ℕ → Point
answer t x = record { at = x; value = t x }

-- a run with one question more, from the runs with the others
one_more : (plan : Plan) (t : Table) (n : ℕ) (log : List Point) (o : Option ℕ) → plan log ≡ o → ((l : List Point) → (xs : List ℕ) × (end : List Point) × Run plan t n l xs end) → (xs : List ℕ) × (end : List Point) × Run plan t (suc n) log xs end
one_more plan t n log None e f = ([], log, done e)
one_more plan t n log (Some x) e f = let r = f (insert (answer t x) log) in (x ∷ r.0, r.1, asks e r.2)

-- from any log, with any number of questions, a run exists
pub run_exists : RunExists
run_exists plan t zero log = ([], log, spent)
run_exists plan t (suc n) log = one_more plan t n log (plan log) refl (λ l. run_exists plan t n l)

-- two runs from one log are the same
pub run_is_unique : RunIsUnique
run_is_unique plan t n log xs ys end stop spent spent = (refl, refl)
run_is_unique plan t n log xs ys end stop (done e) (done f) = (refl, refl)
run_is_unique plan t n log xs ys end stop (done e) (asks f s) = ((cc), (cc))
run_is_unique plan t n log xs ys end stop (asks e r) (done f) = ((cc), (cc))
run_is_unique plan t n log xs ys end stop (asks {n = m} {x = x} {xs = us} e r) (asks {x = y} {xs = vs} f s) =
    let d : y ≡ x = cc in
    let k = run_is_unique plan t m (insert (answer t x) log) us vs end stop r (subst (λ z. Run plan t m (insert (answer t z) log) vs stop) d s) in
    (cc k.0, k.1)

-- a table that agrees with the log that a run leaves agrees with the one it began with
agreed_before : {plan : Plan} {t : Table} (u : Table) {n : ℕ} {log : List Point} {xs : List ℕ} {end : List Point} → Run plan t n log xs end → Agrees u end → Agrees u log
agreed_before u spent a = a
agreed_before u (done e) a = a
agreed_before {t = t} u {log = log} (asks {x = x} e r) a = (agrees_insert u (answer t x) log (agreed_before u r a)).1

-- a table that agrees with the log that a run leaves gets the same run from the same log
pub same_run_from : {plan : Plan} {t : Table} (u : Table) {n : ℕ} {log : List Point} {xs : List ℕ} {end : List Point} → Run plan t n log xs end → Agrees u end → Run plan u n log xs end
same_run_from u spent a = spent
same_run_from u (done e) a = done e
same_run_from {plan} {t} u {log = log} {end = end} (asks {n = m} {x = x} {xs = xs} e r) a =
    let k = agrees_insert u (answer t x) log (agreed_before u r a) in
    asks e (subst (λ v. Run plan u m (insert (record { at = x; value = v }) log) xs end) (sym k.0) (same_run_from u r a))

-- and the same whole run
pub same_run : SameRun
same_run plan t u N n xs end r a =
    let k = agreed_before u r a in
    rw (k.0, k.1.0) (same_run_from u r a)

-- points that rise have no argument before their first
none_before : (x : ℕ) (p : Point) (ps : List Point) → Rising p ps → x < p.at → has x (p ∷ ps) ≡ false
none_before x p [] h k = rw (ne_eqb x p.at (omega arith))
none_before x p (q ∷ qs) h k = rw (ne_eqb x p.at (omega arith)) (none_before x q qs h.2 (omega arith))

-- an argument that is not p's is in ps where it is in p ∷ ps
has_later : (x : ℕ) (p : Point) (ps : List Point) → (x ≡ p.at → ⊥) → has x (p ∷ ps) ≡ true → has x ps ≡ true
has_later x p ps h e = rw (ne_eqb x p.at h) at e

-- in points that rise, q is at most one above p where the argument after p's is not missing
next_near : (p q : Point) (qs : List Point) → Rising q qs → (p.at + 1 < (last_of q qs).at → has (p.at + 1) (q ∷ qs) ≡ true) → q.at ≤ p.at + 1
next_near p q qs h known =
    ⊎_elim
    (λ k. absurd (both_ways (has (p.at + 1) (q ∷ qs)) (none_before (p.at + 1) q qs h k) (known (omega (arith, at_le_last q qs h)))))
    (λ k. k)
    (cases_lt (p.at + 1) q.at)

-- points that rise and have every argument between the first and the last are as many as these arguments
no_gaps : (p : Point) (ps : List Point) → Rising p ps → ((x : ℕ) → p.at < x → x < (last_of p ps).at → has x ps ≡ true) → (last_of p ps).at ≤ p.at + length ps
no_gaps p [] h known = omega arith
no_gaps p (q ∷ qs) h known =
    let near = next_near p q qs h.2 (known (p.at + 1) (omega arith)) in
    omega (arith, no_gaps q qs h.2 (λ x k m. has_later x q qs (omega arith) (known x (omega arith) m)))

-- a log that has every inner argument of its span n has at least n + 1 points
pub all_known_length : (n : ℕ) (log : List Point) → IsLog n log → AllKnown n log → n + 1 ≤ length log
all_known_length n [] i known = elim i [ ]
all_known_length n (p ∷ ps) i known =
    omega (arith, no_gaps p ps i.2 (λ x k m. has_later x p ps (omega arith) (known x (omega arith))))

-- what a lawful plan says of a log: an inner argument that is new, or that every inner argument is known
pub says : (plan : Plan) → Lawful plan → (N : ℕ) (log : List Point) (o : Option ℕ) → IsLog N log → plan log ≡ o → MatchOption o (AllKnown N log) (λ x. Inner N x × (has x log ≡ false))
says plan lawful N log o i e = subst (λ o. MatchOption o (AllKnown N log) (λ x. Inner N x × (has x log ≡ false))) e (lawful N log i)

-- the log with the answer to a lawful plan's question is a log again, and the table agrees with it
pub answer_stays : (plan : Plan) → Lawful plan → (t : Table) (N : ℕ) → NeverFalls t 0 N → (log : List Point) (x : ℕ) → IsLog N log → Agrees t log → plan log ≡ Some x → IsLog N (insert (answer t x) log) × Agrees t (insert (answer t x) log)
answer_stays plan lawful t N falls log x i a e =
    let new = says plan lawful N log (Some x) i e in
    let b = between N log t i falls a x (omega arith) in
    (insert_is_log N x (t x) log i new.0 new.1 b.0 b.1, insert_agrees t (answer t x) log refl a)

-- what a run of a lawful plan with n questions does from a log of span N that the table agrees with
pub record AskedFrom (t : Table) (N n : ℕ) (log : List Point) (xs : List ℕ) (end : List Point) : Type 0 where
  pub is_log : IsLog N end
  pub agrees : Agrees t end
  pub points : length end ≡ length log + length xs
  pub apart : InnerAndDifferent N xs
  -- what is in the log is not asked
  pub others : (x : ℕ) → has x log ≡ true → among x xs ≡ false
  -- where the span has room for n points more, all n are asked
  pub count : length log + n ≤ N + 1 → length xs ≡ n

-- a lawful plan asks inner arguments that are new each time, and the log stays one that the table agrees with
pub run_stays : (plan : Plan) → Lawful plan → (t : Table) (N : ℕ) → NeverFalls t 0 N → (n : ℕ) (log : List Point) (xs : List ℕ) (end : List Point) → IsLog N log → Agrees t log → Run plan t n log xs end → AskedFrom t N n log xs end
run_stays plan lawful t N falls n log xs end i a spent =
    record { is_log = i; agrees = a; points = omega arith; apart = tt; others = λ x h. refl; count = λ h. refl }
run_stays plan lawful t N falls n log xs end i a (done e) =
    let all = all_known_length N log i (says plan lawful N log None i e) in
    record { is_log = i; agrees = a; points = omega arith; apart = tt; others = λ x h. refl; count = λ h. omega arith }
run_stays plan lawful t N falls n log xs end i a (asks {n = m} {x = x} {xs = ys} e r) =
    let q = answer t x in
    let new = says plan lawful N log (Some x) i e in
    let b = answer_stays plan lawful t N falls log x i a e in
    let k = run_stays plan lawful t N falls m (insert q log) ys end b.0 b.1 r in
    let longer = insert-length q log in
    record {
      is_log = k.is_log;
      agrees = k.agrees;
      points = omega arith;
      apart = (new.0, k.others x (has_new q log), k.apart);
      others = λ y h. rw (ne_eqb y x (λ d. both_ways (has x log) new.1 (rw d at h))) (k.others y (has_still y q log h));
      count = λ h. omega (arith, k.count (omega arith));
    }

-- a lawful plan with n ≤ N − 1 questions asks exactly n, all inner and different, and leaves a log that the table agrees with
pub lawful_asks_all : LawfulAsksAll
lawful_asks_all plan lawful t N n falls h xs end r =
    let ends : t 0 ≤ t N = falls 0 N (omega arith) (omega arith) (omega arith) in
    let k = run_stays plan lawful t N falls n (fresh N (t 0) (t N)) xs end (refl, refl, (omega arith, ends, tt)) (refl, (refl, tt)) r in
    let c : length xs ≡ n = k.count (omega arith) in
    record { count = c; apart = k.apart; is_log = k.is_log; agrees = k.agrees; points = omega arith }
