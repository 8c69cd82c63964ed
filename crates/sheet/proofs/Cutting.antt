-- The pieces of a sheet that end with a byte 10 are its lines. Assumes nothing.
use Rattle.std.proofs.Common.{◌≡◌, ℕ, zero, suc, ◌+◌, ◌<◌, ◌≤◌, eqb, min, List, [], ◌∷◌, ◌++◌, length, ap, ◌∙◌, subst, sym, refl, arith}
use Rattle.std.specs.List.{IsFirstMatchOrLen}
use Rattle.jobs.specs.Lines.{on_first, lines_of, line_of}

-- a piece of a sheet that is its first line, with its end unless nothing follows
pub record Cut (sheet piece rest : List ℕ) : Type 0 where
  pub some : 0 < length piece
  pub parts : length piece + length rest ≡ length sheet
  pub line : line_of sheet ≡ line_of piece
  pub lines : lines_of sheet ≡ line_of piece ∷ lines_of rest
  pub ends : 0 < length rest → length (line_of piece) + 1 ≤ length piece

first_line : (b : ℕ) (bs rest : List ℕ) (i : ℕ) → length (b ∷ bs) ≡ min (i + 1) (length (b ∷ (bs ++ rest))) → IsFirstMatchOrLen (λ y. eqb y 10) (b ∷ (bs ++ rest)) i → Cut (b ∷ (bs ++ rest)) (b ∷ bs) rest
first_line b [] rest zero n first =
    let end = first.1 (omega arith) b in
    record { some = omega arith; parts = omega arith; line = rw end refl; lines = rw end refl; ends = λ _. rw end (omega arith) }
first_line b (c ∷ cs) rest zero n first = absurd (omega arith)
first_line b [] [] (suc j) n first = record { some = omega arith; parts = omega arith; line = refl; lines = rw (first.0 0 b (omega arith) (omega arith)) refl; ends = λ some. absurd (omega arith) }
first_line b [] (r ∷ rs) (suc j) n first = absurd (omega arith)
first_line b (c ∷ cs) rest (suc j) n first =
    let none = first.0 0 b (omega arith) (omega arith) in
    let later = first_line c cs rest j (omega arith) (λ k d _ lt. first.0 (suc k) d (omega arith) (omega arith), λ lt d. first.1 (omega arith) d) in
    record { some = omega arith; parts = omega (arith, later.parts); line = rw none (ap (λ l. b ∷ l) later.line); lines = rw none (ap (on_first b) later.lines); ends = λ some. rw none (omega (arith, later.ends some)) }

-- the piece up to the first byte 10, or to the sheet's end, is the first line with its end
pub piece_is_line : (sheet piece rest : List ℕ) (i : ℕ) → sheet ≡ piece ++ rest → length piece ≡ min (i + 1) (length sheet) → IsFirstMatchOrLen (λ y. eqb y 10) sheet i → 0 < length sheet → Cut sheet piece rest
piece_is_line sheet piece rest i is n first some = go piece is n
  where
    go : (piece : List ℕ) → sheet ≡ piece ++ rest → length piece ≡ min (i + 1) (length sheet) → Cut sheet piece rest
    go [] is n = absurd (omega arith)
    go (b ∷ bs) is n =
        subst (λ s. Cut s (b ∷ bs) rest) (sym is)
        (first_line b bs rest i (n ∙ ap (λ s. min (i + 1) (length s)) is) (subst (λ s. IsFirstMatchOrLen (λ y. eqb y 10) s i) is first))
