-- What a line of a sheet asks for. Assumes nothing.
use Rattle.std.specs.Prelude.{◌≡◌, ℕ, ◌≤◌, cond, ◌&&◌, ◌↔◌, List, [], ◌∷◌, length, Some, None, Option, ◌==◌, nat_le, nat_lt, slice_index}
use Rattle.std.specs.List.{AllByRecursion}
use Rattle.words.specs.Numbers.{number_of}
use Rattle.words.specs.Words.{is_letter}
use Rattle.words.specs.Writing.{spaced}
use Rattle.jobs.specs.Lines.{words_of}

pub data Job : Type 0 where
  -- set a diagonal of this span and rise
  diagonal : ℕ → ℕ → Job
  -- set a table of these values
  table : List ℕ → Job
  -- run equal spacing, made for so many questions, with as many
  spacing : ℕ → Job
  -- run the widest rectangle with so many questions
  widest : ℕ → Job

-- a number before others, where there are both
abbrev pub before : Option ℕ → Option (List ℕ) → Option (List ℕ)
before None ns = None
before (Some n) None = None
before (Some n) (Some ns) = Some (n ∷ ns)

-- the numbers that words say, where each says one
abbrev pub numbers_of : List (List ℕ) → Option (List ℕ)
numbers_of [] = Some []
numbers_of (w ∷ ws) = before (number_of w) (numbers_of ws)

-- `d` takes two numbers
abbrev pub diagonal_of : List ℕ → Option Job
diagonal_of [] = None
diagonal_of (n ∷ []) = None
diagonal_of (n ∷ c ∷ []) = Some (diagonal n c)
diagonal_of (n ∷ c ∷ v ∷ vs) = None

-- `t` takes 1 to 64
abbrev pub table_of : List ℕ → Option Job
table_of ns = cond (nat_lt 0 (length ns) && nat_le (length ns) 64) (Some (table ns)) None

-- a run takes one
abbrev pub run_of : (ℕ → Job) → List ℕ → Option Job
run_of run [] = None
run_of run (n ∷ []) = Some (run n)
run_of run (n ∷ v ∷ vs) = None

-- what a letter and the numbers after it ask for: d, t, e and w are the bytes 100, 116, 101 and 119
abbrev pub formed : ℕ → List ℕ → Option Job
formed c ns =
    cond (c == 100) (diagonal_of ns)
    (cond (c == 116) (table_of ns)
    (cond (c == 101) (run_of spacing ns)
    (cond (c == 119) (run_of widest ns) None)))

-- the same where the numbers are such
abbrev pub formed_of : ℕ → Option (List ℕ) → Option Job
formed_of c None = None
formed_of c (Some ns) = formed c ns

-- what words ask for: the first is a letter, the others are numbers
abbrev pub job_in : List (List ℕ) → Option Job
job_in [] = None
job_in (w ∷ ws) = cond (is_letter w) (formed_of (slice_index w 0) (numbers_of ws)) None

-- what a line asks for; none where it is of another form
abbrev pub job_of : List ℕ → Option Job
job_of line = job_in (words_of line)

-- the line that asks for a job: a letter, and after single spaces numbers in decimal digits
abbrev pub asking : Job → List ℕ
asking (diagonal n c) = 100 ∷ spaced (n ∷ c ∷ [])
asking (table vs) = 116 ∷ spaced vs
asking (spacing n) = 101 ∷ spaced (n ∷ [])
asking (widest n) = 119 ∷ spaced (n ∷ [])

-- the numbers of a job are at most 4,294,967,295, and a table has 1 to 64 of them
abbrev pub Fits : Job → Type 0
Fits (diagonal n c) = (n ≤ 4294967295) × (c ≤ 4294967295)
Fits (table vs) = (1 ≤ length vs) × (length vs ≤ 64) × AllByRecursion (λ v. v ≤ 4294967295) vs
Fits (spacing n) = n ≤ 4294967295
Fits (widest n) = n ≤ 4294967295

-- a line asks for a job exactly when it is the line that asks for it, byte for byte
abbrev pub LinesAreExact : Type 0
LinesAreExact = (line : List ℕ) (job : Job) → (job_of line ≡ Some job) ↔ ((line ≡ asking job) × Fits job)
