-- Denials in numbers. Assumes nothing.
use Rattle.std.specs.Prelude.{ℕ, List, [], ◌∷◌, Ok, Err, Result}
use Rattle.denials.specs.declared.Denial.{Denial}
use Rattle.denials.specs.Told.{told}
use Rattle.exports.specs.declared.replies.Reply.{Reply}

-- what comes back with a denial, or 0
abbrev pub back_of : List ℕ → ℕ
back_of [] = 0
back_of (n ∷ ns) = n

-- the reply that tells a denial: its number, and what comes back with it
abbrev pub denied : ℕ × List ℕ → Reply
denied d = record { denial = d.0; answers = 0; low = back_of d.1; high = 0 }

-- the reply that tells what came of a call: its own, or the one that tells its denial
abbrev pub reply_of : Result Reply Denial → Reply
reply_of (Ok r) = r
reply_of (Err d) = denied (told d)
