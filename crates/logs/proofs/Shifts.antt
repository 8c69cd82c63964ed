-- Points that move by one place to make room for another. Assumes nothing.
use Rattle.std.proofs.Common.{◌≡◌, ℕ, ◌+◌, ◌-◌, ◌<◌, ◌≤◌, List, [], ◌∷◌, length, get_or, take, drop, set, sym, refl, ap, ◌∙◌, subst, ⊎_elim, add-one, arith, get_or-set_other, get_or-take, get_or-set_same, rules}
use Rattle.std.proofs.lemmas.List.{same_lists, places, length-set, length-take, get_or_at, get_or_append_left, get_or-append_right, get_or-drop}
use Rattle.std.proofs.lemmas.Bool.{cases_order}
use Rattle.std.specs.List.{insert, CopiedTo, SameBelow}

module _ {X : Type 0} (old cur : List X) (i u : ℕ) (x : X) (lo : i ≤ u) (hi : u < length cur) (same : length old ≡ length cur) (copied : CopiedTo old cur i (i + 1) (u - i)) (kept : SameBelow old cur (i + 1)) where
  front : length (take i (take u old)) ≡ i
  front = simp length-take (omega arith)

  behind : (k : ℕ) (d : X) → i < k → k < u + 1 → get_or (x ∷ drop i (take u old)) (k - i) d ≡ get_or old (k - 1) d
  behind k d a b =
      ap (λ m. get_or (x ∷ drop i (take u old)) m d) {x = k - i} {y = (k - 1 - i) + 1} (omega arith) ∙ rw add-one (get_or-drop i (take u old) (k - 1 - i) d)
      ∙ get_or-take u old (i + (k - 1 - i)) d (omega arith) ∙ ap (λ m. get_or old m d) (omega arith)

  at : (k : ℕ) (d : X) → k < u + 1 → get_or (take (u + 1) (set cur i x)) k d ≡ get_or (insert (take u old) i x) k d
  at k d h =
      get_or-take (u + 1) (set cur i x) k d h ∙
      ⊎_elim
      (λ (e : k ≡ i). ap (λ m. get_or (set cur i x) m d) e ∙ get_or-set_same cur i x d (omega arith) ∙ sym (get_or_at (take i (take u old)) x _ d k (front ∙ sym e)))
      (⊎_elim
      (λ (lt : k < i). get_or-set_other cur i k x d (omega arith) ∙ kept k d (omega arith) ∙ sym (get_or_append_left (take i (take u old)) _ d k (omega (arith, front)) ∙ get_or-take i (take u old) k d lt ∙ get_or-take u old k d (omega arith)))
      (λ (gt : i < k). get_or-set_other cur i k x d (omega arith) ∙ copied k d (omega arith) (omega arith) ∙ ap (λ m. get_or old m d) {x = i + (k - (i + 1))} {y = k - 1} (omega arith) ∙ sym (get_or-append_right (take i (take u old)) _ i k d front (omega arith) ∙ behind k d gt h)))
      (cases_order k i)

  -- items copied one place up, and one put where they began
  pub copied_then_put : take (u + 1) (set cur i x) ≡ insert (take u old) i x
  copied_then_put = same_lists _ _ (search (rules, places)) (λ k d h. at k d (subst (λ m. k < m) (simp (length-take, length-set) (omega arith)) h))

-- two items that are put first stand first
pub two_first : {X : Type 0} (xs : List X) (a b : X) → 2 ≤ length xs → take 2 (set (set xs 0 a) 1 b) ≡ a ∷ b ∷ []
two_first [] a b h = absurd (let z : ⊥ = omega arith in z)
two_first (x ∷ []) a b h = absurd (let z : ⊥ = omega arith in z)
two_first (x ∷ (y ∷ xs)) a b h = refl
