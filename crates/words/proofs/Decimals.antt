-- Number words are decimal digits, and decimal digits read back. Assumes nothing.
use Rattle.std.proofs.Common.{◌≡◌, ℕ, ◌<◌, ◌≤◌, Bool, true, false, cond, List, length, get_or, Some, None, decimal, sym, refl, ap, ◌∙◌, arith, rules}
use Rattle.std.specs.Str.{all_ascii_digits}
use Rattle.std.proofs.lemmas.Fmt.{decimal_digit, digits_decimal, digits_value-decimal, decimal-digits_value, decimal_nonempty, length-decimal-le, first_decimal}
use Rattle.std.proofs.lemmas.Str.Parse.{IsNumeralModel, numerals_by_fold}
use Rattle.std.proofs.lemmas.Bool.Decides.{nat_tests}
use Rattle.words.specs.Numbers.{read_on, digits_value, is_number, number_of, NumbersAreDecimal, ReadsBack}

-- rows of digits, and the number that each writes
pub own : IsNumeralModel (λ ds. all_ascii_digits ds ≡ true) (read_on 0)
own = numerals_by_fold _ (search rules) read_on (search rules)

pub reads_back : ReadsBack
reads_back n small = (digits_decimal own n small, digits_value-decimal own n small)

-- what a number word is
pub record Numeral (w : List ℕ) : Type 0 where
  pub digits : all_ascii_digits w ≡ true
  pub some : 0 < length w
  pub few : length w ≤ 10
  pub lead : get_or w 0 0 ≡ 48 → length w ≡ 1
  pub small : digits_value w ≤ 4294967295

pub numeral : (w : List ℕ) → is_number w ≡ true → Numeral w
numeral w t =
    record {
      digits = grind (arith, nat_tests);
      some = grind (arith, nat_tests);
      few = grind (arith, nat_tests);
      lead = λ z. grind (arith, nat_tests);
      small = grind (arith, nat_tests);
    }

-- a number word is what is written of its number
pub number_decimal : (w : List ℕ) → is_number w ≡ true → w ≡ decimal (digits_value w)
number_decimal w t =
    let n = numeral w t in
    sym (decimal-digits_value own w n.digits n.some n.lead (omega arith))

-- what is written of a number up to 4,294,967,295 is a number word
pub decimal_number : (n : ℕ) → n ≤ 4294967295 → is_number (decimal n) ≡ true
decimal_number n le =
    let back = reads_back n (omega arith) in
    let some = decimal_nonempty n (omega arith) in
    let few = length-decimal-le 10 n (omega arith) (omega arith) (omega arith) in
    let zero : n ≡ 0 → length (decimal n) ≡ 1 = λ z. ap length (decimal_digit n (omega arith)) in
    let lead : 0 < n → 48 < get_or (decimal n) 0 0 = λ more. first_decimal n more (omega arith) in
    grind (arith, nat_tests)

says_decimal : (w : List ℕ) (n : ℕ) → number_of w ≡ Some n → (w ≡ decimal n) × (n ≤ 4294967295)
says_decimal w n = go (is_number w) refl
  where
    go : (t : Bool) → is_number w ≡ t → cond t (Some (digits_value w)) None ≡ Some n → (w ≡ decimal n) × (n ≤ 4294967295)
    go true t e =
        let same : digits_value w ≡ n = cc in
        let m = numeral w t in
        (number_decimal w t ∙ ap decimal same, omega arith)
    go false t e = absurd cc

decimal_says : (w : List ℕ) (n : ℕ) → (w ≡ decimal n) × (n ≤ 4294967295) → number_of w ≡ Some n
decimal_says w n h =
    let is : is_number w ≡ true = ap is_number h.0 ∙ decimal_number n h.1 in
    let says : digits_value w ≡ n = ap digits_value h.0 ∙ (reads_back n (omega (arith, h.1))).1 in
    rw is (ap Some says)

pub numbers_are_decimal : NumbersAreDecimal
numbers_are_decimal w n = (says_decimal w n, decimal_says w n)
