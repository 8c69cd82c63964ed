use Rattle.std.proofs.Common.{take}
use Rattle.std.specs.Fmt.{HasWritten, IsPlainFormatter}
use Rattle.certificate.specs.Faults.{lines_say}
use Rattle.certificate.proofs.faults.write_lines.Given as goal

-- the lines seen are written
abbrev pub invariant-loop-bad : goal.invariant-loop-bad
invariant-loop-bad g l = IsPlainFormatter l.initial.f → HasWritten g.W.Write.write_str_gives l.initial.f (lines_say (take l.bad-index l.lines)) l.f
