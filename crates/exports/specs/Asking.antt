-- Answers taken into a readout. Assumes nothing.
use Rattle.std.specs.Prelude.{ℕ, ◌+◌, List, [], ◌∷◌, Some, None, slice_set}
use Rattle.tables.specs.Log.{width}
use Rattle.readout.specs.Calls.{taken, answered, summary}
use Rattle.readout.specs.Views.{View}
use Rattle.trials.specs.declared.tries.Purpose.TheVariants.{Answer as Brought}
use Rattle.trials.specs.Tries.{try_denied}
use Rattle.exports.specs.declared.answers.Answer.{Answer}
use Rattle.exports.specs.declared.replies.Reply.{Reply}

-- a ticket is taken and answered; where either is denied all stays as it was
abbrev pub asked : View → Answer → View
asked v a = elim (try_denied v a.at (taken v a.at) (Brought a.value)) [ Some d ↦ v | None ↦ answered (taken v a.at) a.at a.value ]

-- one answer after the other, from the i-th on, and after each the width at place i of a row
abbrev pub asked_all : View × List ℕ → ℕ → List Answer → View × List ℕ
asked_all s i [] = s
asked_all s i (a ∷ rest) = asked_all (asked s.0 a, slice_set s.1 i (width (asked s.0 a).points)) (i + 1) rest

-- the reply that tells the limits of a readout
abbrev pub summed : View → Reply
summed v = record { denial = 0; answers = (summary v).answers; low = (summary v).low; high = (summary v).high }
