-- Words as parts of a sheet. Assumes nothing.
use Rattle.std.proofs.Common.{◌≡◌, ℕ, ◌+◌, Bool, true, false, cond, ◌||◌, eqb, List, [], ◌∷◌, length, take, drop, Some, None, sym, refl, ap, ◌∙◌, inl, inr, arith}
use Rattle.std.proofs.lemmas.Bool.{eqb-true}
use Rattle.std.proofs.lemmas.List.Recursion.{is_position_or_len}
use Rattle.std.specs.List.{position_or_len}
use Rattle.words.specs.Numbers.{is_number}
use Rattle.words.specs.Words.{Lexeme, letter, number, line_end, up_to_gap, is_letter, word_of, lexed, bytes_of, place_of, WordsAreParts, OfItsKind, WordsAreOfTheirKind}

-- the bytes before a gap are the first ones
pub gap_front : (bs : List ℕ) → up_to_gap bs ≡ take (length (up_to_gap bs)) bs
gap_front [] = refl
gap_front (b ∷ bs) = go (eqb b 32 || eqb b 10) (gap_front bs)
  where
    go : (t : Bool) → up_to_gap bs ≡ take (length (up_to_gap bs)) bs → cond t [] (b ∷ up_to_gap bs) ≡ take (length (cond t [] (b ∷ up_to_gap bs))) (b ∷ bs)
    go true h = refl
    go false h = ap (λ xs. b ∷ xs) h

-- a word at the beginning of these bytes: its place, its bytes, and its kind
abbrev Fits : List ℕ → ℕ → Lexeme → Type 0
Fits rest at l = (place_of l ≡ at) × (bytes_of l ≡ take (length (bytes_of l)) rest) × OfItsKind l

word_fits : (w rest : List ℕ) (at : ℕ) (l : Lexeme) → w ≡ take (length w) rest → word_of w at ≡ Some l → Fits rest at l
word_fits w rest at l front = go (is_letter w) refl (is_number w) refl
  where
    go : (a : Bool) → is_letter w ≡ a → (b : Bool) → is_number w ≡ b → cond a (Some (letter w at)) (cond b (Some (number w at)) None) ≡ Some l → Fits rest at l
    go true t b n e = let same : letter w at ≡ l = cc in rw (← same) (refl, front, t)
    go false t true n e = let same : number w at ≡ l = cc in rw (← same) (refl, front, n)
    go false t false n e = absurd cc

lexed_fits : (rest : List ℕ) (at : ℕ) (l : Lexeme) → lexed rest at ≡ Some l → Fits rest at l
lexed_fits [] at l e = let same : line_end [] at ≡ l = cc in rw (← same) (refl, refl, inl refl)
lexed_fits (b ∷ bs) at l e = go (eqb b 10) refl e
  where
    go : (t : Bool) → eqb b 10 ≡ t → cond t (Some (line_end (10 ∷ []) at)) (word_of (up_to_gap (b ∷ bs)) at) ≡ Some l → Fits (b ∷ bs) at l
    go true t e =
        let same : line_end (10 ∷ []) at ≡ l = cc in
        let ten : b ≡ 10 = eqb-true b 10 t in
        rw (← same) (refl, ap (λ x. x ∷ []) (sym ten), inr refl)
    go false t e = word_fits (up_to_gap (b ∷ bs)) (b ∷ bs) at l (gap_front (b ∷ bs)) e

pub words_are_parts : WordsAreParts
words_are_parts sheet at l e =
    let p = lexed_fits (drop at sheet) at l e in
    let there : drop at sheet ≡ drop (place_of l) sheet = ap (λ n. drop n sheet) (sym p.0) in
    (p.0, p.1 ∙ ap (take (length (bytes_of l))) there)

pub words_are_of_their_kind : WordsAreOfTheirKind
words_are_of_their_kind sheet at l e = (lexed_fits (drop at sheet) at l e).2

-- the first byte that ends a word
abbrev pub ends_word : ℕ → Bool
ends_word b = eqb b 32 || eqb b 10

-- the bytes before it are those up to the gap
pub before_gap : (bs : List ℕ) → take (position_or_len ends_word bs) bs ≡ up_to_gap bs
before_gap bs = ap (λ n. take n bs) (sym (is_position_or_len (λ xs. length (up_to_gap xs)) ends_word refl step bs)) ∙ sym (gap_front bs)
  where
    step : (b : ℕ) (xs : List ℕ) → length (up_to_gap (b ∷ xs)) ≡ cond (ends_word b) 0 (1 + length (up_to_gap xs))
    step b xs = go (ends_word b)
      where
        go : (t : Bool) → length (cond t [] (b ∷ up_to_gap xs)) ≡ cond t 0 (1 + length (up_to_gap xs))
        go true = refl
        go false = omega arith
