use Rattle.std.proofs.Common.{◌≡◌, ◌*◌, ◌/◌, ◌≤◌}
use Rattle.strips.specs.Bits.{strip_table}
use Rattle.strips.proofs.strip.making.ones_before.Given as goal

-- the total is the ones of the words so far, at most 64 of each
abbrev pub invariant-loop-word : goal.invariant-loop-word
invariant-loop-word l = (l.word-index ≤ l.x / 64) × (l.total ≡ strip_table l.words (64 * l.word-index)) × (l.total ≤ 64 * l.word-index)
