use Rattle.words.proofs.Lines.{Spaced}
use Rattle.words.proofs.writing.write_spaced.Given as goal

-- the numbers so far are written
abbrev pub invariant-loop-n : goal.invariant-loop-n
invariant-loop-n l = Spaced l.numbers l.initial.out l.n-index l.end l.out
