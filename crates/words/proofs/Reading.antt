-- Digits read one after the other. Assumes nothing.
use Rattle.std.proofs.Common.{◌≡◌, ℕ, ◌+◌, ◌-◌, ◌*◌, ◌^◌, ◌<◌, ◌≤◌, true, false, ◌&&◌, leb, List, length, get_or, drop, sym, ap, ◌∙◌, pow-suc, add-one, arith}
use Rattle.std.specs.Char.{is_ascii_digit}
use Rattle.std.specs.Str.{all_ascii_digits}
use Rattle.std.proofs.lemmas.List.{at_drop_more, at_drop_all}
use Rattle.std.proofs.lemmas.Bool.{leb-true, and_parts}
use Rattle.words.specs.Numbers.{read_on, digits_value}

-- i digits of a word w are read, and write the number v so far
abbrev pub ReadTo : List ℕ → ℕ → ℕ → Type 0
ReadTo w i v = (all_ascii_digits (drop i w) ≡ all_ascii_digits w) × (read_on v (drop i w) ≡ digits_value w) × (v < 10 ^ i)

-- a digit more
pub read_more : (w : List ℕ) (i v d : ℕ) → i < length w → is_ascii_digit (get_or w i 0) ≡ true → d ≡ get_or w i 0 - 48 → ReadTo w i v → ReadTo w (i + 1) (10 * v + d)
read_more w i v d lt digit e inv =
    let all : all_ascii_digits (drop i w) ≡ (is_ascii_digit (get_or w i 0) && all_ascii_digits (drop (i + 1) w)) = at_drop_more all_ascii_digits w i 0 lt in
    let rest : (is_ascii_digit (get_or w i 0) && all_ascii_digits (drop (i + 1) w)) ≡ all_ascii_digits (drop (i + 1) w) = ap (λ b. b && all_ascii_digits (drop (i + 1) w)) digit in
    let on : read_on v (drop i w) ≡ read_on (10 * v + (get_or w i 0 - 48)) (drop (i + 1) w) = at_drop_more (read_on v) w i 0 lt in
    let small : get_or w i 0 ≤ 57 = leb-true (get_or w i 0) 57 (and_parts (leb 48 (get_or w i 0)) (leb (get_or w i 0) 57) digit).1 in
    let more : 10 ^ (i + 1) ≡ 10 ^ i * 10 = rw (add-one i) (pow-suc 10 i) in (
      sym (all ∙ rest) ∙ inv.0,
      ap (λ x. read_on (10 * v + x) (drop (i + 1) w)) e ∙ sym on ∙ inv.1,
      omega (arith, inv.2, more),
    )

-- no digit there
pub read_stops : (w : List ℕ) (i v : ℕ) → i < length w → is_ascii_digit (get_or w i 0) ≡ false → ReadTo w i v → all_ascii_digits w ≡ false
read_stops w i v lt other inv =
    let all : all_ascii_digits (drop i w) ≡ (is_ascii_digit (get_or w i 0) && all_ascii_digits (drop (i + 1) w)) = at_drop_more all_ascii_digits w i 0 lt in
    sym inv.0 ∙ all ∙ ap (λ b. b && all_ascii_digits (drop (i + 1) w)) other

-- all digits read
pub read_all : (w : List ℕ) (i v : ℕ) → length w ≤ i → ReadTo w i v → (all_ascii_digits w ≡ true) × (v ≡ digits_value w)
read_all w i v le inv = (sym inv.0 ∙ at_drop_all all_ascii_digits w i le, sym (at_drop_all (read_on v) w i le) ∙ inv.1)
