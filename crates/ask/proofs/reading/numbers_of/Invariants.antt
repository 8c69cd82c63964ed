use Rattle.std.proofs.Common.{◌≡◌}
use Rattle.ask.specs.Words.{FirstAreNumbers}
use Rattle.ask.proofs.WordLemmas.{numbers_before}
use Rattle.ask.proofs.reading.numbers_of.Given as goal

-- the words so far are numbers, and these are the numbers
abbrev pub invariant-loop-word : goal.invariant-loop-word
invariant-loop-word l = FirstAreNumbers l.words l.word-index × (l.numbers.items ≡ numbers_before l.words l.word-index)
