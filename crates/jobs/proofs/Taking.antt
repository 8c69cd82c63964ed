-- The numbers of a line, taken one after the other. Assumes nothing.
use Rattle.std.proofs.Common.{◌≡◌, ℕ, ◌<◌, ◌≤◌, Bool, true, false, cond, eqb, List, [], ◌∷◌, ◌++◌, length, get_or, drop, Some, None, Option, sym, refl, ap, ◌∙◌, append_assoc, arith, length-append}
use Rattle.std.proofs.lemmas.Bool.{eq-eqb, lt-ltb, lt-leb}
use Rattle.words.specs.Numbers.{is_number, number_of}
use Rattle.words.specs.Words.{letter, number, line_end, up_to_gap, is_letter, lexed}
use Rattle.jobs.specs.Jobs.{before, numbers_of, diagonal_of, table_of, run_of, formed, formed_of, job_in, job_of, spacing, widest}
use Rattle.jobs.specs.Lines.{line_of}
use Rattle.jobs.specs.Reading.{tail_words, letter_in}
use Rattle.jobs.proofs.Forming.{one_byte}
use Rattle.jobs.proofs.Splitting.{words_at}

-- numbers before others, where there are such
abbrev pub with_front : List ℕ → Option (List ℕ) → Option (List ℕ)
with_front ns None = None
with_front ns (Some ms) = Some (ns ++ ms)

-- one number more before the others
front_more : (ns : List ℕ) (n : ℕ) (o : Option (List ℕ)) → with_front ns (before (Some n) o) ≡ with_front (ns ++ (n ∷ [])) o
front_more ns n None = refl
front_more ns n (Some ms) = ap Some (sym (append_assoc ns (n ∷ []) ms))

-- after a space stands a word, and then the others
tail_space : (rest : List ℕ) → 0 < length rest → get_or rest 0 0 ≡ 32 → tail_words rest ≡ up_to_gap (drop 1 rest) ∷ tail_words (drop (length (up_to_gap (drop 1 rest))) (drop 1 rest))
tail_space [] lt e = absurd (omega arith)
tail_space (b ∷ bs) lt e = rw (eq-eqb b 32 e) (words_at bs)

-- more than 64 numbers are no job's
too_many : (c : ℕ) (ns : List ℕ) → 64 < length ns → formed c ns ≡ None
too_many c [] h = absurd (omega arith)
too_many c (n ∷ []) h = absurd (omega arith)
too_many c (n ∷ m ∷ []) h = absurd (omega arith)
too_many c (n ∷ m ∷ v ∷ vs) h = go (eqb c 100) (eqb c 116) (eqb c 101) (eqb c 119)
  where
    ns : List ℕ
    ns = n ∷ m ∷ v ∷ vs

    go : (d t s w : Bool) → cond d (diagonal_of ns) (cond t (table_of ns) (cond s (run_of spacing ns) (cond w (run_of widest ns) None))) ≡ None
    go true t s w = refl
    go false true s w = rw (lt-ltb 0 (length ns) (omega arith), lt-leb (length ns) 64 h) refl
    go false false true w = refl
    go false false false true = refl
    go false false false false = refl

-- a number word that was found is all before the gap
pub found : (rest : List ℕ) (at : ℕ) (w : List ℕ) (p : ℕ) → Some (number w p) ≡ lexed rest at → w ≡ up_to_gap rest
found [] at w p e = absurd cc
found (b ∷ bs) at w p e = go (eqb b 10) (is_letter (up_to_gap (b ∷ bs))) (is_number (up_to_gap (b ∷ bs))) e
  where
    go : (end l n : Bool) → Some (number w p) ≡ cond end (Some (line_end (10 ∷ []) at)) (cond l (Some (letter (up_to_gap (b ∷ bs)) at)) (cond n (Some (number (up_to_gap (b ∷ bs)) at)) None)) → w ≡ up_to_gap (b ∷ bs)
    go true l n h = absurd cc
    go false true n h = absurd cc
    go false false false h = absurd cc
    go false false true h = cc

-- the step of the loop: one number more
pub take_more : (rest later : List ℕ) (n : ℕ) (ns ms : List ℕ) → 0 < length rest → get_or rest 0 0 ≡ 32 → Some n ≡ number_of (up_to_gap (drop 1 rest)) → later ≡ drop (length (up_to_gap (drop 1 rest))) (drop 1 rest) → ms ≡ ns ++ (n ∷ [])
    → with_front ns (numbers_of (tail_words rest)) ≡ with_front ms (numbers_of (tail_words later))
take_more rest later n ns ms lt space e there is =
    ap (λ ws. with_front ns (numbers_of ws)) (tail_space rest lt space)
    ∙ rw (sym e, ← there, is) (front_more ns n (numbers_of (tail_words later)))

-- where no number stands after a space, the line asks for nothing
pub take_none : (rest : List ℕ) (ns : List ℕ) (c : ℕ) → 0 < length rest → get_or rest 0 0 ≡ 32 → None ≡ number_of (up_to_gap (drop 1 rest)) → formed_of c (with_front ns (numbers_of (tail_words rest))) ≡ None
take_none rest ns c lt space e = ap (λ ws. formed_of c (with_front ns (numbers_of ws))) (tail_space rest lt space) ∙ rw (sym e) refl

-- nor where 64 numbers stand before it
pub take_full : (rest : List ℕ) (n : ℕ) (ns : List ℕ) (c : ℕ) → 0 < length rest → get_or rest 0 0 ≡ 32 → Some n ≡ number_of (up_to_gap (drop 1 rest)) → 64 ≤ length ns → formed_of c (with_front ns (numbers_of (tail_words rest))) ≡ None
take_full rest n ns c lt space e full = ap (formed_of c) (take_more rest _ n ns (ns ++ (n ∷ [])) lt space e refl refl) ∙ go (numbers_of (tail_words (drop (length (up_to_gap (drop 1 rest))) (drop 1 rest))))
  where
    go : (o : Option (List ℕ)) → formed_of c (with_front (ns ++ (n ∷ [])) o) ≡ None
    go None = refl
    go (Some ms) = too_many c ((ns ++ (n ∷ [])) ++ ms) (omega (arith, length-append (ns ++ (n ∷ [])) ms, length-append ns (n ∷ [])))

-- what a line asks for, by its first word
by_first : (rest : List ℕ) → job_of (line_of rest) ≡ cond (is_letter (up_to_gap rest)) (formed_of (get_or (up_to_gap rest) 0 0) (numbers_of (tail_words (drop (length (up_to_gap rest)) rest)))) None
by_first rest = ap job_in (words_at rest)

-- where no letter stands first, a line asks for nothing
pub letter_none : (rest : List ℕ) → None ≡ letter_in rest → None ≡ job_of (line_of rest)
letter_none rest e = go (is_letter (up_to_gap rest)) refl e
  where
    go : (l : Bool) → is_letter (up_to_gap rest) ≡ l → None ≡ cond l (Some (get_or (up_to_gap rest) 0 0)) None → None ≡ job_of (line_of rest)
    go true p h = absurd cc
    go false p h = sym (by_first rest ∙ rw p refl)

-- where one stands first, it asks for what the letter and the numbers after it form
pub letter_some : (rest : List ℕ) (c : ℕ) → Some c ≡ letter_in rest → job_of (line_of rest) ≡ formed_of c (numbers_of (tail_words (drop 1 rest)))
letter_some rest c e = go (is_letter (up_to_gap rest)) refl e
  where
    go : (l : Bool) → is_letter (up_to_gap rest) ≡ l → Some c ≡ cond l (Some (get_or (up_to_gap rest) 0 0)) None → job_of (line_of rest) ≡ formed_of c (numbers_of (tail_words (drop 1 rest)))
    go false p h = absurd cc
    go true p h =
        let one : length (up_to_gap rest) ≡ 1 = ap length (one_byte (up_to_gap rest) p) in
        let is : get_or (up_to_gap rest) 0 0 ≡ c = cc in
        by_first rest ∙ rw (p, one, is) refl
