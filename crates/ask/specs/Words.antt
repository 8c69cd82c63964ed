-- What the words of a line make of it. Assumes nothing.
use Rattle.std.specs.Prelude.{◌≡◌, ℕ, ◌^◌, ◌<◌, Bool, false, ◌⊎◌, List, [], ◌∷◌, length, map, slice_get, slice_index_or, ◌==◌, Some, None, Ok, Err, Option, Result, Vec, ⊤}
use Rattle.std.specs.Borrow.{Bor}
use Rattle.std.specs.Iterator.{DrainsIf}
use Rattle.std.specs.List.{before_first}
use Rattle.std.specs.Result.{result_map_both}
use Rattle.std.specs.Str.Iter.{split_whitespace_rest, split_whitespace_steps}
use Rattle.std.specs.Str.Parse.{IsNumeral, digits_value, without_leading_plus}
use Rattle.std.specs.declared.alloc.Global.{Global}
use Rattle.std.specs.declared.str.SplitWhitespace.{SplitWhitespace}
use Rattle.ask.specs.declared.kinds.Kind.{Kind}
use Rattle.ask.specs.declared.lines.Fault.{Fault}
use Rattle.ask.specs.declared.lines.Fault.TheVariants as fault
use Rattle.ask.specs.declared.lines.Line.{Line}
use Rattle.ask.specs.declared.lines.Unread.{Unread}
use Rattle.ask.specs.declared.lines.Unread.TheVariants as unread
use Rattle.ask.specs.Reading.{Says, line_of}

-- words, each lent from a text
abbrev pub Words : Type 0
Words = List (Bor (List ℕ))

-- these are the words of a text: its parts without white space, in their order
abbrev pub IsWordsOf : List ℕ → Words → Type 0
IsWordsOf text words = (it : SplitWhitespace) × (split_whitespace_rest it ≡ text) × DrainsIf split_whitespace_steps ⊤ it words

-- a word that begins with # (35)
abbrev pub is_remark : List ℕ → Bool
is_remark [] = false
is_remark (b ∷ bs) = b == 35

-- the words before the first of these
abbrev pub said_words : Words → Words
said_words ws = before_first (λ (w : Bor (List ℕ)). is_remark w.now) ws

-- the number that digits write, which a plus may lead
abbrev pub number_of : List ℕ → ℕ
number_of w = digits_value 10 (without_leading_plus w)

-- a word is a whole number up to 4,294,967,295
abbrev pub IsNumber : List ℕ → Type 0
IsNumber w = IsNumeral 10 (without_leading_plus w) × (number_of w < 2 ^ 32)

-- the text of word i, which is empty past the last
abbrev pub text_at : Words → ℕ → List ℕ
text_at ws i = (slice_index_or ws i (record { ref_ptr = (0, 0); now = [] })).now

-- the first n of the words are numbers
abbrev pub FirstAreNumbers : Words → ℕ → Type 0
FirstAreNumbers ws n = (i : ℕ) → i < n → IsNumber (text_at ws i)

-- every word is a number, and these are the numbers
abbrev pub SayNumbers : Words → List ℕ → Type 0
SayNumbers ws ns = FirstAreNumbers ws (length ws) × (ns ≡ map (λ (w : Bor (List ℕ)). number_of w.now) ws)

-- w is the first of the words that is no number
abbrev pub IsFirstUnclear : Words → Bor (List ℕ) → Type 0
IsFirstUnclear ws w = (i : ℕ) × (slice_get ws i ≡ Some w) × ¬ IsNumber w.now × FirstAreNumbers ws i

-- a fault that tells the first of the words that is no number
abbrev pub TellsFirstUnclear : Words → Fault → Type 0
TellsFirstUnclear ws f = (w : Bor (List ℕ)) × IsFirstUnclear ws w × (f ≡ fault.NoNumber w)

-- of a reading for which memory sufficed: P holds of what it gave, a value or a fault
abbrev pub IfRead : {X : Type 0} → Result X Unread → (Result X Fault → Type 0) → Type 0
IfRead (Ok x) P = P (Ok x)
IfRead (Err (unread.Unclear f)) P = P (Err f)
IfRead (Err (unread.Memory e)) P = Unit {0}

-- the numbers after a first word of this kind make a line or a fault of the words
abbrev pub ReadsNumbers : Kind → Words → Result (Option Line) Fault → Type 0
ReadsNumbers kind rest r =
    ((v : Vec ℕ Global) × SayNumbers rest v.items × (r ≡ result_map_both Some (λ (f : Fault). f) (line_of kind v))) ⊎ ((f : Fault) × TellsFirstUnclear rest f × (r ≡ Err f))

-- what follows a first word of this kind, or of none
abbrev pub ReadsAfter : Option Kind → Bor (List ℕ) → Words → Result (Option Line) Fault → Type 0
ReadsAfter None first rest r = r ≡ Err (fault.Unknown first)
ReadsAfter (Some kind) first rest r = ReadsNumbers kind rest r

-- what words make of a line
abbrev pub ReadsWords : Words → Result (Option Line) Fault → Type 0
ReadsWords [] r = r ≡ Ok None
ReadsWords (first ∷ rest) r = (kind : Option Kind) × Says first.now kind × ReadsAfter kind first rest r

-- what a text makes of a line: what its words before the first that begins with # make of it
abbrev pub Reads : List ℕ → Result (Option Line) Fault → Type 0
Reads text r = (words : Words) × IsWordsOf text words × ReadsWords (said_words words) r
