-- A point goes into a log: what the longer log holds, and when it is a log again. Assumes nothing.
use Rattle.std.proofs.Common.{◌≡◌, ℕ, ◌+◌, ◌<◌, ◌≤◌, Bool, true, false, cond, eqb, ltb, List, [], ◌∷◌, length, refl, ap, ◌∙◌, arith}
use Rattle.std.proofs.lemmas.Bool.{cond_both, lt-ltb, le-ltb, le-leb, lt-leb, ltb-true, ltb-false, eq-eqb, eqb-false, true≢false}
use Rattle.tables.specs.declared.points.Point.{Point}
use Rattle.tables.specs.Log.{Rising, last_of, IsLog, span_of, Agrees, has, insert, low_table, high_table}
use Rattle.tables.specs.Table.{Table, Inner}

-- what holds where the point goes before p, and where it goes behind p, holds of the log with the point
by_place : (P : List Point → Type 0) (q p : Point) (ps : List Point) → (q.at < p.at → P (q ∷ p ∷ ps)) → (p.at ≤ q.at → P (p ∷ insert q ps)) → P (insert q (p ∷ ps))
by_place P q p ps before behind =
    cond_both (ltb q.at p.at) (q ∷ p ∷ ps) (p ∷ insert q ps) P
    (λ e. before (ltb-true q.at p.at e))
    (λ e. behind (ltb-false q.at p.at e))

-- there is one point more
pub insert-length : (q : Point) (log : List Point) → length (insert q log) ≡ length log + 1
insert-length q [] = omega arith
insert-length q (p ∷ ps) =
    by_place (λ l. length l ≡ length (p ∷ ps) + 1) q p ps
    (λ _. omega arith)
    (λ _. omega (arith, insert-length q ps))

-- two tests in the other order
swapped : (a b c : Bool) → cond a true (cond b true c) ≡ cond b true (cond a true c)
swapped true true c = refl
swapped true false c = refl
swapped false true c = refl
swapped false false c = refl

-- the log has the new argument, and what it had
pub insert-has : (x : ℕ) (q : Point) (log : List Point) → has x (insert q log) ≡ cond (eqb x q.at) true (has x log)
insert-has x q [] = refl
insert-has x q (p ∷ ps) =
    by_place (λ l. has x l ≡ cond (eqb x q.at) true (has x (p ∷ ps))) q p ps
    (λ _. refl)
    (λ _. ap (cond (eqb x p.at) true) (insert-has x q ps) ∙ swapped (eqb x p.at) (eqb x q.at) (has x ps))

-- so it has the new argument
pub has_new : (q : Point) (log : List Point) → has q.at (insert q log) ≡ true
has_new q log = rw (insert-has q.at q log, eq-eqb q.at q.at refl)

-- and keeps what it had
pub has_still : (x : ℕ) (q : Point) (log : List Point) → has x log ≡ true → has x (insert q log) ≡ true
has_still x q log h = rw (insert-has x q log, h) (either (eqb x q.at))
  where
    either : (b : Bool) → cond b true true ≡ true
    either true = refl
    either false = refl

-- a table that agrees with the log and has the point agrees with the longer log
pub insert_agrees : (t : Table) (q : Point) (log : List Point) → t q.at ≡ q.value → Agrees t log → Agrees t (insert q log)
insert_agrees t q [] e a = (e, tt)
insert_agrees t q (p ∷ ps) e a =
    by_place (Agrees t) q p ps
    (λ _. (e, a))
    (λ _. (a.0, insert_agrees t q ps e a.1))

-- and the other way round
pub agrees_insert : (t : Table) (q : Point) (log : List Point) → Agrees t (insert q log) → (t q.at ≡ q.value) × Agrees t log
agrees_insert t q [] a = (a.0, tt)
agrees_insert t q (p ∷ ps) a =
    by_place (λ l. Agrees t l → (t q.at ≡ q.value) × Agrees t (p ∷ ps)) q p ps
    (λ _ b. b)
    (λ _ b. let r = agrees_insert t q ps b.1 in (r.0, (b.0, r.1)))
    a

-- the last argument stays the last where the new one lies before it
last_stays : (q p : Point) (ps : List Point) → p.at ≤ q.at → q.at < (last_of p ps).at → (last_of p (insert q ps)).at ≡ (last_of p ps).at
last_stays q p [] h k = absurd (let z : ⊥ = omega arith in z)
last_stays q p (r ∷ rs) h k =
    by_place (λ l. (last_of p l).at ≡ (last_of r rs).at) q r rs
    (λ _. refl)
    (λ m. last_stays q r rs m k)

-- a point before the end keeps the span
pub insert_span : (n : ℕ) (q : Point) (log : List Point) → IsLog n log → q.at < n → span_of (insert q log) ≡ n
insert_span n q [] i h = elim i [ ]
insert_span n q (p ∷ ps) i h =
    by_place (λ l. span_of l ≡ n) q p ps
    (λ _. i.1)
    (λ m. last_stays q p ps m (omega arith) ∙ i.1)

-- an argument that p ∷ ps has not is not p's, and ps has it not
has_not : (x : ℕ) (p : Point) (ps : List Point) → has x (p ∷ ps) ≡ false → (x ≡ p.at → ⊥) × (has x ps ≡ false)
has_not x p ps = go (eqb x p.at) (eqb-false x p.at)
  where
    go : (b : Bool) → (b ≡ false → x ≡ p.at → ⊥) → cond b true (has x ps) ≡ false → (x ≡ p.at → ⊥) × (has x ps ≡ false)
    go true f e = absurd (true≢false e)
    go false f e = (f refl, e)

-- the points still rise where the new one's argument is new and its value lies between its neighbours'
rises_on : (q p : Point) (ps : List Point) → Rising p ps → p.at < q.at → q.at < (last_of p ps).at → has q.at ps ≡ false → low_table (p ∷ ps) q.at ≤ q.value → q.value ≤ high_table ps q.at → Rising p (insert q ps)
rises_on q p [] h k m f l u = absurd (let z : ⊥ = omega arith in z)
rises_on q p (r ∷ rs) h k m f l u =
    let g = has_not q.at r rs f in
    by_place (Rising p) q r rs
    (λ b. (k, rw (lt-ltb q.at r.at b) at l, (b, rw (le-leb q.at r.at (omega arith)) at u, h.2)))
    (λ b. (h.0, h.1, rises_on q r rs h.2 (omega arith) m g.1 (rw (le-ltb q.at r.at b) at l) (rw (lt-leb q.at r.at (omega arith)) at u)))

-- the log is a log again where the argument is inner and new and the value lies between the low and the high table
pub insert_is_log : (n x v : ℕ) (log : List Point) → IsLog n log → Inner n x → has x log ≡ false → low_table log x ≤ v → v ≤ high_table log x → IsLog n (insert (record { at = x; value = v }) log)
insert_is_log n x v [] i h f l u = elim i [ ]
insert_is_log n x v (p ∷ ps) i h f l u =
    let q : Point = record { at = x; value = v } in
    let g = has_not x p ps f in
    let a : p.at < x = omega arith in
    by_place (IsLog n) q p ps
    (λ b. absurd (let z : ⊥ = omega arith in z))
    (λ b. (i.0, last_stays q p ps b (omega arith) ∙ i.1, rises_on q p ps i.2 a (omega arith) g.1 l (rw (lt-leb x p.at a) at u)))
