-- The neighbours of a row, as its windows of two give them. Assumes nothing.
use Rattle.std.proofs.Common.{◌≡◌, ℕ, ◌<◌, ◌≤◌, List, [], ◌∷◌, length, get_or, take, drop, refl, ap, ◌∙◌, arith}
use Rattle.std.specs.Borrow.{Bor}
use Rattle.std.specs.Slice.ArrayWindows.{array_windows_parts, array_windows_steps}
use Rattle.std.specs.Slice.Iter.{windows_rest, windows_size}
use Rattle.std.specs.declared.slice.ArrayWindows.{ArrayWindows}
use Rattle.std.proofs.lemmas.Iterator.{YieldsList}
use Rattle.std.proofs.lemmas.Iterator.Splits.{YieldsList-from_shown_while}

-- each value with the next
abbrev pub pairs : List ℕ → List (ℕ × ℕ)
pairs [] = []
pairs (v ∷ []) = []
pairs (v ∷ (w ∷ ws)) = (v, w) ∷ pairs (w ∷ ws)

-- the two values of a window
abbrev pub both : Bor (List ℕ) → ℕ × ℕ
both w = (get_or w.now 0 0, get_or w.now 1 0)

-- a row of fewer than two values has no neighbours
none_paired : (vs : List ℕ) → length vs < 2 → length (pairs vs) ≡ 0
none_paired [] h = refl
none_paired (v ∷ []) h = refl
none_paired (v ∷ (w ∷ ws)) h = absurd (let z : ⊥ = omega arith in z)

-- the first two are the first neighbours
first_pair : (vs : List ℕ) → 2 ≤ length vs → pairs vs ≡ (get_or (take 2 vs) 0 0, get_or (take 2 vs) 1 0) ∷ pairs (drop 1 vs)
first_pair [] h = absurd (let z : ⊥ = omega arith in z)
first_pair (v ∷ []) h = absurd (let z : ⊥ = omega arith in z)
first_pair (v ∷ (w ∷ ws)) h = refl

-- the windows of two give the neighbours
pub windows_pair : {s : ArrayWindows ℕ 2} (vs : List ℕ) → windows_rest (array_windows_parts s) ≡ vs → windows_size (array_windows_parts s) ≡ 2 → YieldsList (array_windows_steps {A = ℕ} {n = 2}) both s (pairs vs)
windows_pair {s} vs e two =
    rw (← e)
    (YieldsList-from_shown_while (array_windows_steps {A = ℕ} {n = 2}) both (λ t. pairs (windows_rest (array_windows_parts t))) (λ t. windows_size (array_windows_parts t) ≡ 2)
    (λ t u p h. none_paired (windows_rest (array_windows_parts t)) (omega (arith, h.1.0)))
    (λ t x u p h.
    let row = windows_rest (array_windows_parts t) in
    let seen : x.now ≡ take 2 row = h.1.1 ∙ ap (λ n. take n row) p in
    (h.0 ∙ p, rw (seen, h.1.2) (first_pair row (omega (arith, h.1.0)))))
    s two)
