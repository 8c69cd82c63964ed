-- Reading a line word by word. Assumes nothing.
use Rattle.std.specs.Prelude.{◌≡◌, ℕ, cond, List, [], ◌∷◌, Some, None, Option, ◌==◌, slice_index}
use Rattle.words.specs.Numbers.{number_of}
use Rattle.words.specs.Words.{up_to_gap, is_letter}
use Rattle.jobs.specs.declared.values.Values.{Values}
use Rattle.jobs.specs.Jobs.{formed_of}
use Rattle.jobs.specs.Lines.{words_of, line_of}
use Rattle.jobs.specs.Values.{listed}

-- the words of a line after one of its words, by what follows that word in the sheet
abbrev pub tail_words : List ℕ → List (List ℕ)
tail_words [] = []
tail_words (b ∷ bs) = cond (b == 32) (words_of (line_of bs)) []

-- the letter with which these bytes of a sheet begin
abbrev pub letter_in : List ℕ → Option ℕ
letter_in rest = cond (is_letter (up_to_gap rest)) (Some (slice_index (up_to_gap rest) 0)) None

-- the number with which these bytes begin
abbrev pub number_in : List ℕ → Option ℕ
number_in rest = number_of (up_to_gap rest)

-- the numbers of a line as they were read: all of them, or none where no job has such numbers
abbrev pub ReadAs : Option (List ℕ) → Option Values → Type 0
ReadAs numbers (Some values) = numbers ≡ Some (listed values)
ReadAs numbers None = (c : ℕ) → formed_of c numbers ≡ None
