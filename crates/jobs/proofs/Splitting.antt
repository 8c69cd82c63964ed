-- The words of a line, one after the other, and where a line ends. Assumes nothing.
use Rattle.std.proofs.Common.{◌≡◌, ℕ, ◌+◌, Bool, true, false, cond, eqb, List, [], ◌∷◌, length, drop, sym, refl, ap, arith}
use Rattle.std.proofs.lemmas.Bool.{eqb-true}
use Rattle.std.proofs.lemmas.List.Recursion.{is_position_or_len}
use Rattle.std.specs.List.{onto_first, position_or_len}
use Rattle.words.specs.Words.{up_to_gap}
use Rattle.jobs.specs.Lines.{words_of, line_of}
use Rattle.jobs.specs.Reading.{tail_words}

-- the first word of a line is all before the first space or line end, and the others follow it
pub words_at : (rest : List ℕ) → words_of (line_of rest) ≡ up_to_gap rest ∷ tail_words (drop (length (up_to_gap rest)) rest)
words_at [] = refl
words_at (b ∷ bs) = go (eqb b 10) (eqb b 32) refl refl (words_at bs)
  where
    go : (end space : Bool) → eqb b 10 ≡ end → eqb b 32 ≡ space → words_of (line_of bs) ≡ up_to_gap bs ∷ tail_words (drop (length (up_to_gap bs)) bs) → words_of (line_of (b ∷ bs)) ≡ up_to_gap (b ∷ bs) ∷ tail_words (drop (length (up_to_gap (b ∷ bs))) (b ∷ bs))
    go true true e s h = absurd (let z : ⊥ = omega (arith, eqb-true b 10 e, eqb-true b 32 s) in z)
    go true false e s h = simp (e, s)
    go false true e s h = simp (e, s)
    go false false e s h = simp (e, s) (ap (onto_first b) h)

-- a line goes up to its byte 10, or else to the end
pub length-line : (bs : List ℕ) → position_or_len (λ b. eqb b 10) bs ≡ length (line_of bs)
length-line bs = sym (is_position_or_len (λ xs. length (line_of xs)) (λ b. eqb b 10) refl step bs)
  where
    step : (b : ℕ) (xs : List ℕ) → length (line_of (b ∷ xs)) ≡ cond (eqb b 10) 0 (1 + length (line_of xs))
    step b xs = go (eqb b 10)
      where
        go : (t : Bool) → length (cond t [] (b ∷ line_of xs)) ≡ cond t 0 (1 + length (line_of xs))
        go true = refl
        go false = omega arith
