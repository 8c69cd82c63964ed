use Rattle.std.proofs.Common.{◌≡◌, length, take, decimal}
use Rattle.words.specs.Writing.{begun}
use Rattle.words.proofs.digits.write_digits.Given as goal

-- the first digits are written
abbrev pub invariant-loop-i : goal.invariant-loop-i
invariant-loop-i l = record {
  ready : (goal.iterator-loop-i).can_next l.i-iterator;
  finite : (goal.iterator-loop-i).is_finite l.i-iterator;
  row : l.out ≡ begun (take (length l.yielded) (decimal l.n)) l.initial.out;
}
