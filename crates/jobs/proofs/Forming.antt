-- A line and the job that it asks for. Assumes nothing.
use Rattle.std.proofs.Common.{◌≡◌, ℕ, zero, suc, ◌≤◌, Bool, true, false, cond, ◌&&◌, eqb, ltb, leb, List, [], ◌∷◌, ◌++◌, map, length, get_or, Some, None, decimal, Option, sym, refl, ap, ◌∙◌, append-nil, arith}
use Rattle.std.specs.List.{All, AllByRecursion, join_with_byte}
use Rattle.std.proofs.lemmas.Bool.Decides.{nat_tests}
use Rattle.std.proofs.lemmas.List.Recursion.{and_at}
use Rattle.std.proofs.lemmas.List.Splits.{slice_split_none, slice_split_at, join_with_byte-slice_split}
use Rattle.std.proofs.lemmas.Bool.{eqb-true, and_parts, ltb-true, leb-true, lt-ltb, le-leb}
use Rattle.words.specs.Numbers.{number_of}
use Rattle.words.proofs.Decimals.{numbers_are_decimal, reads_back}
use Rattle.std.specs.Str.{all_ascii_digits}
use Rattle.std.specs.Char.{is_ascii_digit}
use Rattle.words.specs.Words.{is_letter}
use Rattle.words.specs.Writing.{spaced}
use Rattle.jobs.specs.Lines.{words_of}
use Rattle.jobs.specs.Jobs.{Job, diagonal, table, spacing, widest, before, numbers_of, diagonal_of, table_of, run_of, formed, formed_of, job_in, job_of, asking, Fits, LinesAreExact}

-- none is not some
none_some : {X : Type 0} {x : X} → ◌≡◌ {A = Option X} None (Some x) → ⊥
none_some e = cc

-- a number that fits a sheet
abbrev Small : ℕ → Type 0
Small n = n ≤ 4294967295

-- number words after another, joined by spaces, are that word and the numbers so written
spaced_numbers : (w : List ℕ) (ws : List (List ℕ)) (ns : List ℕ) → numbers_of ws ≡ Some ns → (join_with_byte 32 (w ∷ ws) ≡ w ++ spaced ns) × AllByRecursion Small ns
spaced_numbers w [] ns e = let z : ns ≡ [] = cc in rw z (sym (append-nil w), tt)
spaced_numbers w (v ∷ vs) ns e = go (number_of v) (numbers_of vs) refl refl e (spaced_numbers v vs)
  where
    go : (o : Option ℕ) (os : Option (List ℕ)) → number_of v ≡ o → numbers_of vs ≡ os → before o os ≡ Some ns → ((ms : List ℕ) → numbers_of vs ≡ Some ms → (join_with_byte 32 (v ∷ vs) ≡ v ++ spaced ms) × AllByRecursion Small ms)
        → (join_with_byte 32 (w ∷ v ∷ vs) ≡ w ++ spaced ns) × AllByRecursion Small ns
    go None os p q r h = absurd cc
    go (Some n) None p q r h = absurd cc
    go (Some n) (Some ms) p q r h =
        let is : ns ≡ n ∷ ms = cc in
        let d = (numbers_are_decimal v n).0 p in
        let t = h ms q in
        rw is (ap (λ x. w ++ (32 ∷ x)) (t.0 ∙ ap (λ x. x ++ spaced ms) d.0), (d.1, t.1))

-- and the other way round
numbers_spaced : (ns : List ℕ) → AllByRecursion Small ns → numbers_of (map decimal ns) ≡ Some ns
numbers_spaced [] small = refl
numbers_spaced (n ∷ ns) small = rw ((numbers_are_decimal (decimal n) n).1 (refl, small.0), numbers_spaced ns small.1) refl

-- digits are no spaces
no_space : (ds : List ℕ) → all_ascii_digits ds ≡ true → All (λ b. eqb b 32 ≡ false) ds
no_space ds digits k d lt = let digit = and_at all_ascii_digits is_ascii_digit refl (λ _ _. refl) ds k d lt digits in grind (arith, nat_tests)

-- the words of a word with no space in it and of numbers after single spaces
words-spaced : (w : List ℕ) (ns : List ℕ) → All (λ b. eqb b 32 ≡ false) w → AllByRecursion Small ns → words_of (w ++ spaced ns) ≡ w ∷ map decimal ns
words-spaced w [] dark small = rw append-nil (slice_split_none (λ b. eqb b 32) w dark)
words-spaced w (n ∷ ns) dark small =
    slice_split_at (λ b. eqb b 32) w 32 (decimal n ++ spaced ns) dark refl
    ∙ ap (λ ws. w ∷ ws) (words-spaced (decimal n) ns (no_space (decimal n) (reads_back n (omega (arith, small.0))).0) small.1)

-- one byte that is no space
dark : (c : ℕ) → eqb c 32 ≡ false → All (λ b. eqb b 32 ≡ false) (c ∷ [])
dark c e zero d lt = e
dark c e (suc k) d lt = absurd (omega arith)

-- a letter with numbers asks for what they form
spelled : (c : ℕ) (ns : List ℕ) → is_letter (c ∷ []) ≡ true → All (λ b. eqb b 32 ≡ false) (c ∷ []) → AllByRecursion Small ns → job_of (c ∷ spaced ns) ≡ formed c ns
spelled c ns letter dark small = ap job_in (words-spaced (c ∷ []) ns dark small) ∙ rw (letter, numbers_spaced ns small) refl

-- what `d` and two numbers ask for is the line so written
diagonal_asks : (ns : List ℕ) → AllByRecursion Small ns → (job : Job) → diagonal_of ns ≡ Some job → (100 ∷ spaced ns ≡ asking job) × Fits job
diagonal_asks [] small job e = absurd (none_some e)
diagonal_asks (n ∷ []) small job e = absurd (none_some e)
diagonal_asks (n ∷ c ∷ []) small job e = let is : job ≡ diagonal n c = cc in rw is (refl, (small.0, small.1.0))
diagonal_asks (n ∷ c ∷ v ∷ vs) small job e = absurd (none_some e)

-- and what `t` and 1 to 64 ask for
table_asks : (ns : List ℕ) → AllByRecursion Small ns → (job : Job) → table_of ns ≡ Some job → (116 ∷ spaced ns ≡ asking job) × Fits job
table_asks ns small job e = go (ltb 0 (length ns) && leb (length ns) 64) refl e
  where
    go : (few : Bool) → (ltb 0 (length ns) && leb (length ns) 64) ≡ few → cond few (Some (table ns)) None ≡ Some job → (116 ∷ spaced ns ≡ asking job) × Fits job
    go false p q = absurd (none_some q)
    go true p q =
        let is : job ≡ table ns = cc in
        let t = and_parts (ltb 0 (length ns)) (leb (length ns) 64) p in
        rw is (refl, (omega (arith, ltb-true 0 (length ns) t.0), leb-true (length ns) 64 t.1, small))

-- and what a run's letter and one number ask for
run_asks : (run : ℕ → Job) (c : ℕ) → ((n : ℕ) → asking (run n) ≡ c ∷ spaced (n ∷ [])) → ((n : ℕ) → Small n → Fits (run n)) → (ns : List ℕ) → AllByRecursion Small ns → (job : Job) → run_of run ns ≡ Some job → (c ∷ spaced ns ≡ asking job) × Fits job
run_asks run c writes fits [] small job e = absurd (none_some e)
run_asks run c writes fits (n ∷ []) small job e = let is : job ≡ run n = cc in rw is (sym (writes n), fits n small.0)
run_asks run c writes fits (n ∷ v ∷ vs) small job e = absurd (none_some e)

-- a byte that is known
known : (c k : ℕ) (ns : List ℕ) (job : Job) → eqb c k ≡ true → (k ∷ spaced ns ≡ asking job) × Fits job → (c ∷ spaced ns ≡ asking job) × Fits job
known c k ns job e h = (ap (λ x. x ∷ spaced ns) (eqb-true c k e) ∙ h.0, h.1)

-- what a letter and numbers form is asked for by the line so written
formed_asks : (c : ℕ) (ns : List ℕ) → AllByRecursion Small ns → (job : Job) → formed c ns ≡ Some job → (c ∷ spaced ns ≡ asking job) × Fits job
formed_asks c ns small job e = go (eqb c 100) (eqb c 116) (eqb c 101) (eqb c 119) refl refl refl refl e
  where
    go : (d t s w : Bool) → eqb c 100 ≡ d → eqb c 116 ≡ t → eqb c 101 ≡ s → eqb c 119 ≡ w → cond d (diagonal_of ns) (cond t (table_of ns) (cond s (run_of spacing ns) (cond w (run_of widest ns) None))) ≡ Some job → (c ∷ spaced ns ≡ asking job) × Fits job
    go true t s w p q r v h = known c 100 ns job p (diagonal_asks ns small job h)
    go false true s w p q r v h = known c 116 ns job q (table_asks ns small job h)
    go false false true w p q r v h = known c 101 ns job r (run_asks spacing 101 (λ n. refl) (λ n z. z) ns small job h)
    go false false false true p q r v h = known c 119 ns job v (run_asks widest 119 (λ n. refl) (λ n z. z) ns small job h)
    go false false false false p q r v h = absurd (none_some h)

-- a letter word is one byte
pub one_byte : (w : List ℕ) → is_letter w ≡ true → w ≡ get_or w 0 0 ∷ []
one_byte [] e = absurd cc
one_byte (b ∷ []) e = refl
one_byte (b ∷ (c ∷ cs)) e = absurd cc

-- what words ask for is asked for by the words joined
words_ask : (words : List (List ℕ)) (job : Job) → job_in words ≡ Some job → (join_with_byte 32 words ≡ asking job) × Fits job
words_ask [] job e = absurd (none_some e)
words_ask (w ∷ ws) job e = go (is_letter w) (numbers_of ws) refl refl e
  where
    go : (letter : Bool) (os : Option (List ℕ)) → is_letter w ≡ letter → numbers_of ws ≡ os → cond letter (formed_of (get_or w 0 0) os) None ≡ Some job → (join_with_byte 32 (w ∷ ws) ≡ asking job) × Fits job
    go false os p q h = absurd (none_some h)
    go true None p q h = absurd (none_some h)
    go true (Some ns) p q h =
        let t = spaced_numbers w ws ns q in
        let f = formed_asks (get_or w 0 0) ns t.1 job h in
        (t.0 ∙ ap (λ x. x ++ spaced ns) (one_byte w p) ∙ f.0, f.1)

-- the line that asks for a job asks for it
asked_back : (job : Job) → Fits job → job_of (asking job) ≡ Some job
asked_back (diagonal n c) fits = spelled 100 (n ∷ c ∷ []) refl (dark 100 refl) (fits.0, (fits.1, tt))
asked_back (table vs) fits = spelled 116 vs refl (dark 116 refl) fits.2 ∙ rw (lt-ltb 0 (length vs) (omega arith), le-leb (length vs) 64 fits.1) refl
asked_back (spacing n) fits = spelled 101 (n ∷ []) refl (dark 101 refl) (fits, tt)
asked_back (widest n) fits = spelled 119 (n ∷ []) refl (dark 119 refl) (fits, tt)

-- a line asks for a job exactly when it is the line that asks for it
pub lines_are_exact : LinesAreExact
lines_are_exact line job =
    (λ e. let h = words_ask (words_of line) job e in (sym (join_with_byte-slice_split 32 line) ∙ h.0, h.1), λ h. ap job_of h.0 ∙ asked_back job h.1)
