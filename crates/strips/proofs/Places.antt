-- Where the bits of a row of words stand. Assumes nothing.
use Rattle.std.proofs.Common.{◌≡◌, ℕ, zero, suc, ◌+◌, ◌-◌, ◌*◌, ◌/◌, ◌%◌, ◌^◌, ◌<◌, ◌≤◌, List, [], ◌∷◌, ◌++◌, length, get_or, sym, refl, ap, ◌∙◌, ⊎_elim, arith, length-append, shr-shr}
use Rattle.std.proofs.lemmas.List.{get_or_append_left, get_or-append_right}
use Rattle.std.proofs.lemmas.Bool.{cases_lt}
use Rattle.strips.specs.Bits.{low_bits, bits_of, BitsArePlaced}
use Rattle.strips.proofs.Counts.{length_low_bits}

-- bit r of a word
word_bit : (k n r : ℕ) → r < k → get_or (low_bits k n) r 0 ≡ n / 2 ^ r % 2
unfolding low_bits
word_bit zero n r lt = omega arith
word_bit (suc k) n zero lt = let same : n / 2 ^ 0 ≡ n = omega arith in ap (λ m. m % 2) (sym same)
word_bit (suc k) n (suc r) lt =
    let more : 1 + r ≡ suc r = omega arith in
    word_bit k (n / 2) r (omega arith) ∙ ap (λ m. m % 2) (shr-shr n 1 r) ∙ ap (λ m. n / 2 ^ m % 2) more

-- 64 bits for each word
length_bits : (ws : List ℕ) → length (bits_of ws) ≡ 64 * length ws
length_bits [] = refl
length_bits (w ∷ ws) =
    let a = length-append (low_bits 64 w) (bits_of ws) in
    let b = length_low_bits 64 w in
    let h = length_bits ws in
    omega arith

-- bit j of the row
bit_at : (ws : List ℕ) (j : ℕ) → j < 64 * length ws → get_or (bits_of ws) j 0 ≡ get_or ws (j / 64) 0 / 2 ^ (j % 64) % 2
bit_at [] j lt = omega arith
bit_at (w ∷ ws) j lt = ⊎_elim (here w ws j) (there w ws j (λ m h. bit_at ws m h) lt) (cases_lt j 64)
  where
    here : (w : ℕ) (ws : List ℕ) (j : ℕ) → j < 64 → get_or (low_bits 64 w ++ bits_of ws) j 0 ≡ get_or (w ∷ ws) (j / 64) 0 / 2 ^ (j % 64) % 2
    here w ws j lt =
        let word : j / 64 ≡ 0 = omega arith in
        let place : j % 64 ≡ j = omega arith in
        let short : j < length (low_bits 64 w) = rw (length_low_bits 64 w) lt in
        rw (word, place) (get_or_append_left (low_bits 64 w) (bits_of ws) 0 j short ∙ word_bit 64 w j lt)

    there : (w : ℕ) (ws : List ℕ) (j : ℕ) → ((m : ℕ) → m < 64 * length ws → get_or (bits_of ws) m 0 ≡ get_or ws (m / 64) 0 / 2 ^ (m % 64) % 2)
        → j < 64 * length (w ∷ ws) → 64 ≤ j → get_or (low_bits 64 w ++ bits_of ws) j 0 ≡ get_or (w ∷ ws) (j / 64) 0 / 2 ^ (j % 64) % 2
    there w ws j rest lt le =
        let word : j / 64 ≡ suc ((j - 64) / 64) = omega arith in
        let place : j % 64 ≡ (j - 64) % 64 = omega arith in
        rw (word, place) (get_or-append_right (low_bits 64 w) (bits_of ws) 64 j 0 (length_low_bits 64 w) le ∙ rest (j - 64) (omega arith))

pub bits_placed : BitsArePlaced
bits_placed ws = (length_bits ws, bit_at ws)
