-- Printed lines, number by number. Assumes nothing.
use Rattle.std.proofs.Common.{◌≡◌, ℕ, ◌+◌, ◌-◌, ◌*◌, ◌^◌, ◌<◌, ◌≤◌, true, ltb, leb, List, [], ◌∷◌, ◌++◌, length, get_or, take, drop, set, decimal, sym, refl, ap, ◌∙◌, append_assoc, append-nil, arith, length-append}
use Rattle.std.proofs.lemmas.Fmt.{length-decimal-le}
use Rattle.std.proofs.lemmas.List.{take_more}
use Rattle.std.proofs.lemmas.List.Recursion.{and_at}
use Rattle.std.proofs.lemmas.Bool.{and_parts, ltb-true, leb-true}
use borrow.Rule.Slice.PartMut.{put_mid}
use Rattle.words.proofs.Beginning.{begun_push, begun_after}
use Rattle.words.specs.Writing.{begun, spaced, line_bytes, all_short, has_room}

-- a number below 10^16 has at most 16 digits
pub short_decimal : (n : ℕ) → n < 10 ^ 16 → length (decimal n) ≤ 16
short_decimal n lt = length-decimal-le 16 n (omega arith) lt (omega arith)

-- each of short numbers is short
pub short_at : (ns : List ℕ) (i : ℕ) → all_short ns ≡ true → i < length ns → get_or ns i 0 < 10 ^ 16
short_at ns i short lt = ltb-true (get_or ns i 0) (10 ^ 16) (and_at all_short (λ n. ltb n (10 ^ 16)) refl (λ _ _. refl) ns i 0 lt short)

-- the bytes of one number more
pub length-spaced : (n : ℕ) (ns : List ℕ) → length (spaced (n ∷ ns)) ≡ 1 + length (decimal n) + length (spaced ns)
length-spaced n ns = let both = length-append (decimal n) (spaced ns) in omega arith

-- 17 bytes are enough for each number, and two more for the line
pub length_spaced_le : (ns : List ℕ) → all_short ns ≡ true → length (spaced ns) ≤ 17 * length ns
length_spaced_le [] t = omega arith
length_spaced_le (n ∷ ns) t =
    let parts = and_parts (ltb n (10 ^ 16)) (all_short ns) t in
    let few = short_decimal n (ltb-true n (10 ^ 16) parts.0) in
    let rest = length_spaced_le ns parts.1 in
    let both = length-spaced n ns in
    omega arith

pub length_line : (c : ℕ) (ns : List ℕ) → length (line_bytes c ns) ≡ 2 + length (spaced ns)
length_line c ns = let both = length-append (spaced ns) (10 ∷ []) in omega arith

-- one number more
spaced_push : (ns : List ℕ) (n : ℕ) → spaced (ns ++ (n ∷ [])) ≡ spaced ns ++ (32 ∷ decimal n)
spaced_push [] n = ap (λ xs. 32 ∷ xs) (append-nil (decimal n))
spaced_push (m ∷ ns) n =
    ap (λ xs. 32 ∷ (decimal m ++ xs)) (spaced_push ns n)
    ∙ ap (λ xs. 32 ∷ xs) (sym (append_assoc (decimal m) (spaced ns) (32 ∷ decimal n)))

-- i numbers are written, up to the place `to`
abbrev pub Spaced : List ℕ → List ℕ → ℕ → ℕ → List ℕ → Type 0
Spaced ns row i to out = (to ≡ length (spaced (take i ns))) × (to ≤ 17 * i) × (out ≡ begun (spaced (take i ns)) row)

-- one number more is written after the first ones
pub spaced_more : (ns row : List ℕ) (i to : ℕ) (out part : List ℕ) → i < length ns → all_short ns ≡ true → 17 * length ns ≤ length row → length out ≡ length row → Spaced ns row i to out
    → part ≡ begun (decimal (get_or ns i 0)) (take (length (set out to 32) - (to + 1)) (drop (to + 1) (set out to 32)))
    → Spaced ns row (i + 1) (to + (1 + length (decimal (get_or ns i 0)))) (put_mid (to + 1) (length (set out to 32) - (to + 1)) (set out to 32) part)
spaced_more ns row i to out part lt short room same inv made =
    let n = get_or ns i 0 in
    let few : length (decimal n) ≤ 16 = short_decimal n (short_at ns i short lt) in
    let next : spaced (take (i + 1) ns) ≡ spaced (take i ns) ++ (32 ∷ decimal n) = ap spaced (take_more ns i 0 lt) ∙ spaced_push (take i ns) n in
    let space : set out to 32 ≡ begun (spaced (take i ns) ++ (32 ∷ [])) row =
    ap (λ xs. set xs to 32) inv.2 ∙ ap (λ m. set (begun (spaced (take i ns)) row) m 32) inv.0 ∙ begun_push (spaced (take i ns)) row 32 (omega (arith, inv.0, inv.1)) in (
      omega (arith, inv.0, ap length next, length-append (spaced (take i ns)) (32 ∷ decimal n)),
      omega (arith, inv.1, few),
      begun_after (spaced (take i ns) ++ (32 ∷ [])) (decimal n) row (set out to 32) part (to + 1) _ space (omega (arith, inv.0, length-append (spaced (take i ns)) (32 ∷ []))) (omega (arith, inv.1)) refl made
          ∙ ap (λ xs. begun xs row) (append_assoc (spaced (take i ns)) (32 ∷ []) (decimal n) ∙ sym next),
    )

-- the whole line: its letter, its numbers and its end
pub line_written : (c : ℕ) (ns row part : List ℕ) (to : ℕ) → has_room 0 ns row ≡ true → to ≡ length (spaced ns) → part ≡ begun (spaced ns) (take (length (set row 0 c) - 1) (drop 1 (set row 0 c)))
    → set (put_mid 1 (length (set row 0 c) - 1) (set row 0 c) part) (1 + to) 10 ≡ begun (line_bytes c ns) row
line_written c ns row part to room end made =
    let parts = and_parts (leb (0 + (17 * length ns + 2)) (length row)) (all_short ns) room in
    let fits = leb-true (0 + (17 * length ns + 2)) (length row) parts.0 in
    let few = length_spaced_le ns parts.1 in
    let all : put_mid 1 (length (set row 0 c) - 1) (set row 0 c) part ≡ begun (c ∷ spaced ns) row =
    begun_after (c ∷ []) (spaced ns) row (set row 0 c) part 1 _ (begun_push [] row c (omega arith)) refl (omega arith) refl made in
    ap (λ xs. set xs (1 + to) 10) all ∙ ap (λ n. set (begun (c ∷ spaced ns) row) n 10) (let e : 1 + to ≡ length (c ∷ spaced ns) = omega arith in e)
    ∙ begun_push (c ∷ spaced ns) row 10 (omega arith)
