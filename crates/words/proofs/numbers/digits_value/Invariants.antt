use Rattle.words.proofs.Reading.{ReadTo}
use Rattle.words.proofs.numbers.digits_value.Given as goal

-- the digits so far write the value
abbrev pub invariant-loop-b : goal.invariant-loop-b
invariant-loop-b l = ReadTo l.word l.b-index l.value
