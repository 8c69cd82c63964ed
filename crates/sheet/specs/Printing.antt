-- What a sheet prints. Assumes nothing.
use Rattle.std.specs.Prelude.{ℕ, ◌+◌, ◌-◌, List, [], ◌∷◌, ◌++◌, Some, None, Ok, Err, Option, nat_lt}
use Rattle.denials.specs.Checks.{first}
use Rattle.jobs.specs.Jobs.{job_of}
use Rattle.jobs.specs.Lines.{lines_of}
use Rattle.plans.specs.declared.ways.Way.{Way}
use Rattle.plans.specs.declared.ways.Way.TheVariants.{EqualSpacing, WidestRectangle}
use Rattle.words.specs.Writing.{line_bytes}
use Rattle.sheet.specs.Leading.{leads}
use Rattle.sheet.specs.Replying.{Reply}
use Rattle.sheet.specs.Setting.{Setting}

-- a denied line: `?` (byte 63), the line's number and the denial's
abbrev pub denial : ℕ → ℕ → List ℕ
denial i d = line_bytes 63 (i ∷ d ∷ [])

-- the letter of a plan's lines: e or w
abbrev pub letter_of : Way → ℕ
letter_of EqualSpacing = 101
letter_of WidestRectangle = 119

-- what the reply to line i prints: nothing; letter, span, number asked, low, high and width; or the denial
abbrev pub shown : ℕ → Reply → List ℕ
shown i (Ok None) = []
shown i (Ok (Some r)) = line_bytes (letter_of r.way) (r.span ∷ r.asked ∷ r.low ∷ r.high ∷ (r.high - r.low) ∷ [])
shown i (Err d) = denial i d

-- what lines print, of which the first is line i and where this logger is set
abbrev pub printed : ℕ → Setting → List (List ℕ) → List ℕ
printed i s [] = []
printed i s (l ∷ ls) = shown i (leads s (job_of l)).1 ++ printed (i + 1) (leads s (job_of l)).0 ls

-- what a sheet prints: its lines are numbered from 1, and at first no logger is set
abbrev pub sheet_prints : List ℕ → List ℕ
sheet_prints sheet = printed 1 None (lines_of sheet)

-- what stands in the way of a sheet of so many bytes, with so much room: 13 with line 0, then 10 with the room needed
abbrev pub sheet_denied : ℕ → ℕ → Option (ℕ × List ℕ)
sheet_denied bytes room = first ((nat_lt 2048 bytes, (13, 0 ∷ [])) ∷ (nat_lt room 36864, (10, 36864 ∷ [])) ∷ [])
