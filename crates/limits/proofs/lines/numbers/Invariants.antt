use Rattle.std.proofs.Common.{◌≡◌, ◌<◌, length}
use Rattle.limits.proofs.lines.numbers.Given as goal

-- more are counted only once there are three
abbrev pub invariant-loop-word : goal.invariant-loop-word
invariant-loop-word l = 0 < l.more → length l.numbers.items ≡ 3
