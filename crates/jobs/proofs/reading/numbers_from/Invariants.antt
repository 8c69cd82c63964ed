use Rattle.std.proofs.Common.{◌≡◌, length}
use Rattle.words.specs.Borrowed.{rest}
use Rattle.jobs.specs.Jobs.{numbers_of}
use Rattle.jobs.specs.Reading.{tail_words}
use Rattle.jobs.specs.Values.{listed}
use Rattle.jobs.proofs.Taking.{with_front}
use Rattle.jobs.proofs.reading.numbers_from.Given as goal

-- the values so far stand before the numbers of the words to come
abbrev pub invariant-loop-cursor : goal.invariant-loop-cursor
invariant-loop-cursor l = numbers_of (tail_words (rest l.start)) ≡ with_front (listed l.values) (numbers_of (tail_words (rest l.cursor)))

abbrev pub decreases-loop-cursor : goal.decreases-loop-cursor
decreases-loop-cursor l = length (rest l.cursor)
