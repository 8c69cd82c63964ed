-- The words of a job sheet: what stands at a place of it. Assumes nothing.
use Rattle.std.specs.Prelude.{◌≡◌, ℕ, Bool, true, false, cond, ◌&&◌, ◌||◌, ◌⊎◌, List, [], ◌∷◌, length, take, drop, Some, None, Option, ◌==◌, nat_le}
use Rattle.words.specs.Numbers.{is_number}

-- a word of a sheet: what it is, with its bytes and its place
pub data Lexeme : Type 0 where
  letter : List ℕ → ℕ → Lexeme
  number : List ℕ → ℕ → Lexeme
  line_end : List ℕ → ℕ → Lexeme

-- the bytes before the first space or line end
abbrev pub up_to_gap : List ℕ → List ℕ
up_to_gap [] = []
up_to_gap (b ∷ bs) = cond (b == 32 || b == 10) [] (b ∷ up_to_gap bs)

-- one byte from a to z
abbrev pub is_letter : List ℕ → Bool
is_letter [] = false
is_letter (b ∷ []) = nat_le 97 b && nat_le b 122
is_letter (b ∷ (c ∷ cs)) = false

-- a word by its bytes
abbrev pub word_of : List ℕ → ℕ → Option Lexeme
word_of w at = cond (is_letter w) (Some (letter w at)) (cond (is_number w) (Some (number w at)) None)

-- what stands at the beginning of these bytes of a sheet, at the place `at`: the line's end, or a word, or neither
abbrev pub lexed : List ℕ → ℕ → Option Lexeme
lexed [] at = Some (line_end [] at)
lexed (b ∷ bs) at = cond (b == 10) (Some (line_end (10 ∷ []) at)) (word_of (up_to_gap (b ∷ bs)) at)

-- the bytes of a word
abbrev pub bytes_of : Lexeme → List ℕ
bytes_of (letter w at) = w
bytes_of (number w at) = w
bytes_of (line_end w at) = w

-- the place of a word
abbrev pub place_of : Lexeme → ℕ
place_of (letter w at) = at
place_of (number w at) = at
place_of (line_end w at) = at

-- a word stands at the place where it was looked for, and its bytes are the sheet's bytes there
abbrev pub WordsAreParts : Type 0
WordsAreParts = (sheet : List ℕ) (at : ℕ) (l : Lexeme) → lexed (drop at sheet) at ≡ Some l → (place_of l ≡ at) × (bytes_of l ≡ take (length (bytes_of l)) (drop (place_of l) sheet))

-- what the bytes of a word are: one byte from a to z, or a number word; and of a line end, byte 10, or nothing where the sheet ends
abbrev pub OfItsKind : Lexeme → Type 0
OfItsKind (letter w at) = is_letter w ≡ true
OfItsKind (number w at) = is_number w ≡ true
OfItsKind (line_end w at) = (w ≡ []) ⊎ (w ≡ 10 ∷ [])

-- each word is of its kind
abbrev pub WordsAreOfTheirKind : Type 0
WordsAreOfTheirKind = (sheet : List ℕ) (at : ℕ) (l : Lexeme) → lexed (drop at sheet) at ≡ Some l → OfItsKind l
