-- The ones of a strip, word by word. Assumes nothing.
use Rattle.std.proofs.Common.{◌≡◌, ℕ, zero, suc, ◌+◌, ◌-◌, ◌*◌, ◌/◌, ◌%◌, ◌^◌, ◌<◌, ◌≤◌, List, [], ◌∷◌, ◌++◌, length, get_or, take, sym, refl, ap, ◌∙◌, mod-eq_of_lt, mod-lt, add-one, arith}
use lib.Bits.{bit_and}
use lib.Count.{ones, ones_step, ones-ones}
use lib.Pow.{field, mod-mod-pow}
use lib.Seq.{take-append-add, take-append-le}
use Rattle.std.proofs.lemmas.Nat.{and_mask, one_shl, ones-le, pow_pos}
use Rattle.strips.specs.Bits.{low_bits, bits_of, ones_among, strip_table}

-- as many bits as are asked for
pub length_low_bits : (k n : ℕ) → length (low_bits k n) ≡ k
unfolding low_bits
length_low_bits zero n = refl
length_low_bits (suc k) n = ap suc (length_low_bits k (n / 2))

-- the ones of two rows, one after the other
ones_append : (bs cs : List ℕ) → ones_among (bs ++ cs) ≡ ones_among bs + ones_among cs
ones_append [] cs = omega arith
ones_append (b ∷ bs) cs = let h = ones_append bs cs in omega arith

-- masked to its r lowest bits, a number keeps its lowest bit, and its half is masked to one bit fewer
mask_low : (n r : ℕ) → n % 2 ^ suc r % 2 ≡ n % 2
mask_low n r = rw (← add-one r) (mod-mod-pow n r 1)

mask_half : (n r : ℕ) → n % 2 ^ suc r / 2 ≡ n / 2 % 2 ^ r
mask_half n r = rw (← add-one r) (field n r 1)

-- the ones among the r lowest of k bits are those of the number masked to r bits
low_ones : (k r n : ℕ) → r ≤ k → ones_among (take r (low_bits k n)) ≡ ones (n % 2 ^ r)
unfolding low_bits
low_ones k zero n le = let h : n % 2 ^ 0 ≡ 0 = omega arith in rw h (sym (ones-ones 0))
low_ones zero (suc r) n le = omega arith
low_ones (suc k) (suc r) n le =
    rw (ones_step (n % 2 ^ suc r), mask_low n r, mask_half n r) (ap (λ x. n % 2 + x) (low_ones k r (n / 2) (omega arith)))

-- the ones of the first word, and of the words after it
past_word : (w : ℕ) (ws : List ℕ) (m : ℕ) → strip_table (w ∷ ws) (64 + m) ≡ ones_among (low_bits 64 w) + strip_table ws m
past_word w ws m =
    ap (λ k. ones_among (take (k + m) (low_bits 64 w ++ bits_of ws))) (sym (length_low_bits 64 w))
    ∙ ap ones_among (take-append-add (low_bits 64 w) (bits_of ws) m)
    ∙ ones_append (low_bits 64 w) (take m (bits_of ws))

-- the first i words, and r bits of the next
pub next_ones : (ws : List ℕ) (i r : ℕ) → i < length ws → r ≤ 64 → strip_table ws (64 * i + r) ≡ strip_table ws (64 * i) + ones (get_or ws i 0 % 2 ^ r)
next_ones [] i r lt le = omega arith
next_ones (w ∷ ws) zero r lt le =
    let short : r ≤ length (low_bits 64 w) = rw (length_low_bits 64 w) le in
    let none : 64 * 0 + r ≡ r = omega arith in
    let front : strip_table (w ∷ ws) r ≡ ones (w % 2 ^ r) =
    ap ones_among (take-append-le r (low_bits 64 w) (bits_of ws) short) ∙ low_ones 64 r w le in
    ap (strip_table (w ∷ ws)) none ∙ front ∙ omega arith
next_ones (w ∷ ws) (suc i) r lt le =
    let far : 64 * suc i + r ≡ 64 + (64 * i + r) = omega arith in
    let near : 64 * suc i ≡ 64 + 64 * i = omega arith in
    let h = next_ones ws i r (omega arith) le in
    let a = ap (strip_table (w ∷ ws)) far ∙ past_word w ws (64 * i + r) in
    let b = ap (strip_table (w ∷ ws)) near ∙ past_word w ws (64 * i) in
    omega arith

-- a whole word more
pub whole_ones : (ws : List ℕ) (i t : ℕ) → i < length ws → get_or ws i 0 < 2 ^ 64 → t ≡ strip_table ws (64 * i) → t + ones (get_or ws i 0) ≡ strip_table ws (64 * (i + 1))
whole_ones ws i t lt fits e =
    let next : 64 * i + 64 ≡ 64 * (i + 1) = omega arith in
    let all : get_or ws i 0 % 2 ^ 64 ≡ get_or ws i 0 = mod-eq_of_lt fits in
    ap (λ n. n + ones (get_or ws i 0)) e ∙ ap (λ w. strip_table ws (64 * i) + ones w) (sym all)
    ∙ sym (next_ones ws i 64 lt (omega arith)) ∙ ap (strip_table ws) next

-- a word has at most 64 ones
pub few_ones : (ws : List ℕ) (i : ℕ) → get_or ws i 0 < 2 ^ 64 → ones (get_or ws i 0) ≤ 64
few_ones ws i fits = ones-le 64 (get_or ws i 0) fits

-- no more ones than the bits of the mask
pub few_rest : (w r : ℕ) → r < 64 → ones (bit_and w ((1 * 2 ^ r) % 2 ^ 64 - 1)) ≤ r
few_rest w r lt =
    let mask : bit_and w ((1 * 2 ^ r) % 2 ^ 64 - 1) ≡ w % 2 ^ r =
    ap (λ n. bit_and w (n - 1)) (one_shl r 64 lt) ∙ and_mask w r in
    rw mask (ones-le r (w % 2 ^ r) (mod-lt w (pow_pos r)))

-- the masked rest of the word after the first i
pub rest_ones : (ws : List ℕ) (x i t : ℕ) → i ≡ x / 64 → x / 64 < length ws → t ≡ strip_table ws (64 * i) → t + ones (bit_and (get_or ws (x / 64) 0) ((1 * 2 ^ (x % 64)) % 2 ^ 64 - 1)) ≡ strip_table ws x
rest_ones ws x i t at lt e =
    let w = get_or ws (x / 64) 0 in
    let place : 64 * (x / 64) + x % 64 ≡ x = omega arith in
    let mask : bit_and w ((1 * 2 ^ (x % 64)) % 2 ^ 64 - 1) ≡ w % 2 ^ (x % 64) =
    ap (λ n. bit_and w (n - 1)) (one_shl (x % 64) 64 (omega arith)) ∙ and_mask w (x % 64) in
    let before : t ≡ strip_table ws (64 * (x / 64)) = e ∙ ap (λ n. strip_table ws (64 * n)) at in
    ap (λ m. t + ones m) mask ∙ ap (λ n. n + ones (w % 2 ^ (x % 64))) before
    ∙ sym (next_ones ws (x / 64) (x % 64) lt (omega arith)) ∙ ap (strip_table ws) place
