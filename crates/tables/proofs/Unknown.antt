-- The lowest unknown argument, and plans that fall back on it, keep the law of plans. Assumes nothing.
use Rattle.std.proofs.Common.{◌≡◌, ℕ, ◌-◌, ◌<◌, Bool, true, false, cond, not, ◌&&◌, ltb, List, [], ◌∷◌, length, get_or, IfSome, Some, None, Option, refl, subst, ⊎_elim, arith, MatchOption}
use Rattle.std.specs.List.{range_with_len, AllByRecursion}
use Rattle.std.proofs.lemmas.List.FromFn.{length-range_with_len, get_or-range_with_len}
use Rattle.std.proofs.ByRecursion.{All-get_or}
use Rattle.std.proofs.lemmas.Bool.{and_parts, and_from, not-true, not_from_false, ltb-true, lt-ltb, cases_Bool, both_ways}
use Rattle.tables.specs.declared.points.Point.{Point}
use Rattle.tables.specs.Table.{Inner}
use Rattle.tables.specs.Log.{IsLog, span_of, has}
use Rattle.tables.specs.Plan.{Plan, AllKnown, Lawful, unknown, first_unknown, lowest_unknown, or_else}

-- x is what a lawful plan may ask of a log of span n
abbrev pub Askable : ℕ → List Point → ℕ → Type 0
Askable n log x = Inner n x × (has x log ≡ false)

-- a log of span n has the span n
pub span_of_log : (n : ℕ) (log : List Point) → IsLog n log → span_of log ≡ n
span_of_log n [] h = elim h [ ]
span_of_log n (p ∷ ps) h = h.1

-- an unknown argument may be asked
unknown_askable : (log : List Point) (x : ℕ) → unknown log x ≡ true → Askable (span_of log) log x
unknown_askable log x h =
    let a = and_parts (ltb 0 x && ltb x (span_of log)) (not (has x log)) h in
    let b = and_parts (ltb 0 x) (ltb x (span_of log)) a.0 in
    ((ltb-true 0 x b.0, ltb-true x (span_of log) b.1), not-true (has x log) a.1)

-- an argument that may be asked is unknown
pub askable_unknown : (log : List Point) (x : ℕ) → Askable (span_of log) log x → unknown log x ≡ true
askable_unknown log x h =
    and_from (ltb 0 x && ltb x (span_of log)) (not (has x log))
    (and_from (ltb 0 x) (ltb x (span_of log)) (lt-ltb 0 x h.0.0) (lt-ltb x (span_of log) h.0.1))
    (not_from_false (has x log) h.1)

-- no argument of a row is unknown
abbrev NoneUnknown : List Point → List ℕ → Type 0
NoneUnknown log = AllByRecursion (λ x. unknown log x ≡ false)

-- one argument more at the front of a row that was searched
first_more : (log : List Point) (x : ℕ) (xs : List ℕ) (b : Bool) → unknown log x ≡ b → (o : Option ℕ) → MatchOption o (NoneUnknown log xs) (Askable (span_of log) log) → MatchOption (cond b (Some x) o) (NoneUnknown log (x ∷ xs)) (Askable (span_of log) log)
first_more log x xs true e o h = unknown_askable log x e
first_more log x xs false e None h = (e, h)
first_more log x xs false e (Some y) h = h

-- the first unknown argument of a row may be asked, and where there is none, none of the row is unknown
first_unknown_lem : (log : List Point) (xs : List ℕ) → MatchOption (first_unknown log xs) (NoneUnknown log xs) (Askable (span_of log) log)
first_unknown_lem log [] = tt
first_unknown_lem log (x ∷ xs) = first_more log x xs (unknown log x) refl (first_unknown log xs) (first_unknown_lem log xs)

-- where none from 1 to the span is unknown, every inner argument is known
none_all_known : (log : List Point) → NoneUnknown log (range_with_len 1 (span_of log - 1)) → AllKnown (span_of log) log
none_all_known log none x i = ⊎_elim (λ e. e) (λ e. absurd (both_ways (unknown log x) (here e) (askable_unknown log x (i, e)))) (cases_Bool (has x log))
  where
    m : ℕ
    m = span_of log - 1

    here : has x log ≡ false → unknown log x ≡ false
    here e =
        let h : x - 1 < length (range_with_len 1 m) = omega (arith, length-range_with_len 1 m) in
        let k : get_or (range_with_len 1 m) (x - 1) 0 ≡ x = omega (arith, get_or-range_with_len 1 m (x - 1) 0 (omega arith)) in
        rw k at (All-get_or (λ y. unknown log y ≡ false) (range_with_len 1 m) (x - 1) 0 h none)

-- where an answer has no value, what that tells may be replaced by what follows from it
none_tells : (o : Option ℕ) (P Q : Type 0) (R : ℕ → Type 0) → (P → Q) → MatchOption o P R → MatchOption o Q R
none_tells None P Q R f h = f h
none_tells (Some x) P Q R f h = h

-- the first unknown argument of a row may be asked
pub first_askable : (n : ℕ) (log : List Point) → IsLog n log → (xs : List ℕ) → IfSome (first_unknown log xs) (Askable n log)
first_askable n log i xs = subst (λ k. IfSome (first_unknown log xs) (Askable k log)) (span_of_log n log i) (none_tells (first_unknown log xs) (NoneUnknown log xs) (Unit {0}) (Askable (span_of log) log) (λ _. tt) (first_unknown_lem log xs))

-- the lowest unknown argument is a lawful plan
pub lowest_unknown_lawful : Lawful lowest_unknown
lowest_unknown_lawful n log i =
    let xs = range_with_len 1 (span_of log - 1) in
    subst (λ k. MatchOption (lowest_unknown log) (AllKnown k log) (Askable k log)) (span_of_log n log i)
    (none_tells (lowest_unknown log) (NoneUnknown log xs) (AllKnown (span_of log) log) (Askable (span_of log) log) (none_all_known log) (first_unknown_lem log xs))

-- a plan that answers what may be asked, or else the lowest unknown argument, is lawful
pub or_else_lawful : (f : Plan) → ((n : ℕ) (log : List Point) → IsLog n log → IfSome (f log) (Askable n log)) → Lawful (λ log. or_else (f log) (lowest_unknown log))
or_else_lawful f h n log i = go (f log) (h n log i)
  where
    go : (o : Option ℕ) → IfSome o (Askable n log) → MatchOption (or_else o (lowest_unknown log)) (AllKnown n log) (Askable n log)
    go None a = lowest_unknown_lawful n log i
    go (Some x) a = a
