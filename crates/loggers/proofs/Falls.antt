-- The first fall of a row: how a scan finds it, and what it says of the row. Assumes nothing.
use Rattle.std.proofs.Common.{◌≡◌, ℕ, zero, suc, ◌+◌, ◌<◌, ◌≤◌, Bool, true, false, cond, ◌||◌, ltb, ◌↔◌, List, [], ◌∷◌, length, fold, is_some, Some, None, Option, sym, refl, ap, ◌∙◌, ⊎_elim, arith}
use Rattle.std.specs.List.{position, position_from}
use Rattle.std.specs.Option.{option_map}
use Rattle.std.proofs.lemmas.Iterator.Adapters.{position_from-zero}
use Rattle.std.proofs.lemmas.Bool.{cases_lt, lt-ltb, le-ltb, cond_both, cond-true, cond-false}
use Rattle.loggers.specs.Meaning.{row_table, RowNeverFalls}
use Rattle.loggers.specs.Makings.{fall_from, first_fall}
use Rattle.loggers.proofs.Pairs.{pairs}

-- whether the second of two values is lower
abbrev pub falls_at : ℕ × ℕ → Bool
falls_at p = ltb p.1 p.0

-- whether a fall was found, or the next two values are one
abbrev pub found_fall : Bool → ℕ × ℕ → Bool
found_fall f p = f || falls_at p

-- a fall here or one later on is a fall from here on
either : (f b : Bool) (i : ℕ) (o : Option ℕ) → ((f || b) || is_some o) ≡ (f || is_some (cond b (Some i) o))
either true b i o = refl
either false true i o = refl
either false false i o = refl

-- of values after v
fold_from : (f : Bool) (k v : ℕ) (vs : List ℕ) → fold found_fall f (pairs (v ∷ vs)) ≡ (f || is_some (fall_from k v vs))
fold_from true k v [] = refl
fold_from false k v [] = refl
fold_from f k v (w ∷ ws) = fold_from (f || ltb w v) (k + 1) w ws ∙ either f (ltb w v) k (fall_from (k + 1) w ws)

-- a fold over all neighbours tells whether there is a fall
pub fold_falls : (vs : List ℕ) → fold found_fall false (pairs vs) ≡ is_some (first_fall vs)
fold_falls [] = refl
fold_falls (v ∷ vs) = fold_from false 1 v vs

-- the position of the first fall among the neighbours is one less than its place
place_from : (k v : ℕ) (vs : List ℕ) → option_map (λ i. i + 1) (position_from falls_at k (pairs (v ∷ vs))) ≡ fall_from (k + 1) v vs
place_from k v [] = refl
place_from k v (w ∷ ws) =
    cond_both (ltb w v) (Some k) (position_from falls_at (k + 1) (pairs (w ∷ ws))) (λ o. option_map (λ i. i + 1) o ≡ cond (ltb w v) (Some (k + 1)) (fall_from (k + 1 + 1) w ws))
    (λ e. sym (cond-true _ _ _ e))
    (λ e. place_from (k + 1) w ws ∙ sym (cond-false _ _ _ e))

pub position_falls : (vs : List ℕ) → option_map (λ i. i + 1) (position falls_at (pairs vs)) ≡ first_fall vs
position_falls [] = refl
position_falls (v ∷ vs) = ap (option_map (λ i. i + 1)) (position_from-zero falls_at (pairs (v ∷ vs))) ∙ place_from 0 v vs

-- before a row that never falls may stand a value that is above none of it
never_falls_more : (v : ℕ) (vs : List ℕ) → ((j : ℕ) → j < length vs → v ≤ row_table vs j) → RowNeverFalls vs → RowNeverFalls (v ∷ vs)
never_falls_more v vs low h zero zero p q = omega arith
never_falls_more v vs low h zero (suc j) p q = low j (omega arith)
never_falls_more v vs low h (suc i) zero p q = omega arith
never_falls_more v vs low h (suc i) (suc j) p q = h i j (omega arith) (omega arith)

-- where no fall is found, the values never fall
none_to_never : (k v : ℕ) (vs : List ℕ) → fall_from k v vs ≡ None → RowNeverFalls (v ∷ vs)
none_to_never k v [] e = never_falls_more v [] (λ j lt. omega arith) (λ i j le lt. omega arith)
none_to_never k v (w ∷ ws) e =
    ⊎_elim
    (λ lt. absurd (let z : ◌≡◌ {A = ℕ} 0 1 = cc (lt-ltb w v lt) in omega arith))
    (λ le.
    let h : RowNeverFalls (w ∷ ws) = none_to_never (k + 1) w ws (rw (le-ltb w v le) at e) in
    never_falls_more v (w ∷ ws) (λ j lt. omega (arith, h 0 j (omega arith) lt)) h)
    (cases_lt w v)

-- where the values never fall, no fall is found
never_to_none : (k v : ℕ) (vs : List ℕ) → RowNeverFalls (v ∷ vs) → fall_from k v vs ≡ None
never_to_none k v [] h = refl
never_to_none k v (w ∷ ws) h =
    rw (le-ltb w v (h 0 1 (omega arith) (omega arith)))
    (never_to_none (k + 1) w ws (λ i j le lt. h (suc i) (suc j) (omega arith) (omega arith)))

-- a row has no first fall exactly when it never falls
pub first_fall_none : (vs : List ℕ) → (first_fall vs ≡ None) ↔ RowNeverFalls vs
first_fall_none [] = (λ e i j le lt. omega arith, λ h. refl)
first_fall_none (v ∷ vs) = (none_to_never 1 v vs, never_to_none 1 v vs)

-- and so it is of a result that is the first fall
pub told_none : (vs : List ℕ) (r : Option ℕ) → r ≡ first_fall vs → (r ≡ None) ↔ RowNeverFalls vs
told_none vs r e = rw e (first_fall_none vs)
