-- The digits of a number by their places. Assumes nothing.
use Rattle.std.proofs.Common.{◌≡◌, ℕ, max, not, ltb, refl, map, zero, suc, ◌+◌, ◌-◌, ◌/◌, ◌%◌, ◌^◌, ◌<◌, ◌≤◌, List, [], ◌∷◌, ◌++◌, length, take, reverse, get_or, decimal, sym, ap, ◌∙◌, ⊎_elim, arith}
use native.Mathlib.Nat.{one-le-pow, pow-succ', div-div-eq-div-mul}
use Rattle.std.proofs.lemmas.Fmt.{decimal_by_steps, decimal_nonempty, length-decimal-le}
use Rattle.std.proofs.lemmas.List.{get_or-reverse, get_or-take, get_or_append_left, get_or_push, length_push, length-reverse, length-take-le}
use Rattle.std.proofs.lemmas.Str.Parse.{digits_value_short}
use Rattle.std.proofs.lemmas.Bool.{cases_lt, ltb-true, ltb-false}
use Rattle.std.specs.List.{range_with_len, enumerate_from, position_or_len}
use Rattle.std.proofs.lemmas.List.FromFn.{get_or-map-range_with_len, get_or-enumerate_from, length-enumerate_from}
use Rattle.std.proofs.lemmas.List.Sums.{prefix_len-le-length, fails_before_first, passes_at_first}
use Rattle.words.proofs.Decimals.{own, reads_back}

-- each of these digits is the number's digit at its place
abbrev Placed : ℕ → List ℕ → Type 0
Placed n ds = (i : ℕ) → i < length ds → get_or ds i 0 ≡ 48 + n / 10 ^ (length ds - 1 - i) % 10

one : (n : ℕ) → n < 10 → Placed n ((48 + n) ∷ [])
one n lt zero h = omega arith
one n lt (suc i) h = absurd (omega arith)

more : (n : ℕ) (ds : List ℕ) → 10 ≤ n → Placed (n / 10) ds → Placed n (ds ++ ((48 + n % 10) ∷ []))
more n ds le placed i lt =
    let long = length_push ds (48 + n % 10) in
    ⊎_elim before (λ at. last (let h : length ds ≡ i = omega arith in h)) (cases_lt i (length ds))
  where
    before : i < length ds → get_or (ds ++ ((48 + n % 10) ∷ [])) i 0 ≡ 48 + n / 10 ^ (length (ds ++ ((48 + n % 10) ∷ [])) - 1 - i) % 10
    before h =
        let long = length_push ds (48 + n % 10) in
        let far : length (ds ++ ((48 + n % 10) ∷ [])) - 1 - i ≡ suc (length ds - 1 - i) = omega arith in
        let tenth : n / 10 / 10 ^ (length ds - 1 - i) ≡ n / 10 ^ suc (length ds - 1 - i) =
        div-div-eq-div-mul n 10 (10 ^ (length ds - 1 - i)) ∙ ap (λ m. n / m) (sym (pow-succ' 10 (length ds - 1 - i))) in
        get_or_append_left ds ((48 + n % 10) ∷ []) 0 i h ∙ placed i h
        ∙ ap (λ m. 48 + m % 10) tenth ∙ ap (λ m. 48 + n / 10 ^ m % 10) (sym far)

    last : length ds ≡ i → get_or (ds ++ ((48 + n % 10) ∷ [])) i 0 ≡ 48 + n / 10 ^ (length (ds ++ ((48 + n % 10) ∷ [])) - 1 - i) % 10
    last h =
        let long = length_push ds (48 + n % 10) in
        let none : length (ds ++ ((48 + n % 10) ∷ [])) - 1 - i ≡ 0 = omega arith in
        let whole : n / 10 ^ 0 ≡ n = omega arith in
        get_or_push ds (48 + n % 10) 0 i h ∙ ap (λ m. 48 + m % 10) (sym whole) ∙ ap (λ m. 48 + n / 10 ^ m % 10) (sym none)

-- digit i of a number, counted from the first
pub digit_at : (n : ℕ) → n < 2 ^ 64 → (i : ℕ) → i < length (decimal n) → get_or (decimal n) i 0 ≡ 48 + n / 10 ^ (length (decimal n) - 1 - i) % 10
digit_at n small = decimal_by_steps Placed one more n small

-- the number of digits, from the powers of ten on either side
pub length-decimal : (k n : ℕ) → 0 < k → n < 10 ^ k → (1 < k → 10 ^ (k - 1) ≤ n) → n < 2 ^ 64 → length (decimal n) ≡ k
length-decimal k n some lt ge small =
    let few = length-decimal-le k n some lt small in
    let none = decimal_nonempty n small in
    let back = reads_back n small in
    let fewer : length (decimal n) ≤ k - 1 → n < 10 ^ (k - 1) = λ short. rw back.1 at (digits_value_short own (decimal n) (k - 1) back.0 short) in
    grind (arith, few, none, fewer, ge)

-- the powers of ten from 10^0 to 10^15
abbrev pub powers : List ℕ
powers = map (λ i. 10 ^ i) (range_with_len 0 16)

pub power_at : (i d : ℕ) → i < 16 → get_or powers i d ≡ 10 ^ i
power_at i d lt = get_or-map-range_with_len (λ i. 10 ^ i) 0 16 i i d lt (omega arith)

-- as many of such powers are no larger than a number as it has digits, or none at 0
count_of : (ps : List ℕ) → length ps ≡ 16 → ((i : ℕ) → i < 16 → get_or ps i 0 ≡ 10 ^ i) → (n k : ℕ) → n < 10 ^ 16 → k ≡ position_or_len (ltb n) ps → max k 1 ≡ length (decimal n)
count_of ps long at n k small is =
    let within : k ≤ 16 = omega (arith, is, prefix_len-le-length (λ p. not (ltb n p)) ps) in
    let below : k < 16 → n < 10 ^ k =
    λ lt. ltb-true n (10 ^ k) (ap (ltb n) (sym (at k lt)) ∙ ap (λ i. ltb n (get_or ps i 0)) is ∙ passes_at_first (ltb n) ps 0 (omega arith)) in
    let above : 0 < k → 10 ^ (k - 1) ≤ n =
    λ some. ltb-false n (10 ^ (k - 1)) (ap (ltb n) (sym (at (k - 1) (omega arith))) ∙ fails_before_first (ltb n) ps (k - 1) 0 (omega arith)) in
    ⊎_elim
    (λ some. omega (arith, length-decimal k n some (⊎_elim below (λ le. let all : k ≡ 16 = omega arith in rw all small) (cases_lt k 16)) (λ _. above some) (omega arith)))
    (λ none.
    let zero : k ≡ 0 = omega arith in
    let few : n < 1 = rw zero at (below (omega arith)) in
    rw zero (sym (length-decimal 1 n (omega arith) (omega arith) (λ lt. absurd (omega arith)) (omega arith))))
    (cases_lt 0 k)

pub count_of_powers : (n k : ℕ) → n < 10 ^ 16 → k ≡ position_or_len (ltb n) powers → max k 1 ≡ length (decimal n)
count_of_powers n k small is = count_of powers refl (λ i lt. power_at i 0 lt) n k small is

-- the powers below 10^count from the largest down, each with its place
abbrev pub powers_down : ℕ → List (ℕ × ℕ)
powers_down count = enumerate_from 0 (reverse (take count powers))

pub length-powers_down : (count : ℕ) → count ≤ 16 → length (powers_down count) ≡ count
length-powers_down count few = length-enumerate_from 0 (reverse (take count powers)) ∙ length-reverse (take count powers) ∙ length-take-le count powers few

pub power_turn : (count k i p : ℕ) → count ≤ 16 → (k < length (powers_down count)) × ((i, p) ≡ get_or (powers_down count) k (i, p)) → (k < count) × (i ≡ k) × (p ≡ 10 ^ (count - 1 - k)) × (0 < p)
power_turn count k i p few turn =
    let long : length (take count powers) ≡ count = length-take-le count powers few in
    let lt : k < count = omega (arith, length-powers_down count few, turn.0) in
    let pair : (i, p) ≡ (0 + k, get_or (reverse (take count powers)) k p) = turn.1 ∙ get_or-enumerate_from 0 (reverse (take count powers)) k (i, p) (omega (arith, length-reverse (take count powers))) in
    let power : p ≡ 10 ^ (count - 1 - k) =
    ap (λ q. q.1) pair ∙ get_or-reverse (take count powers) k p (omega arith) ∙ ap (λ n. get_or (take count powers) (n - 1 - k) p) long
    ∙ get_or-take count powers (count - 1 - k) p (omega arith) ∙ power_at (count - 1 - k) p (omega arith) in
    (lt, ap (λ q. q.0) pair ∙ (let e : 0 + k ≡ k = omega arith in e), power, omega (arith, one-le-pow (count - 1 - k) 10 (omega arith)))
