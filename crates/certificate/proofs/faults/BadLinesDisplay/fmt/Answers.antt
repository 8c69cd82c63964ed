use Rattle.std.proofs.Common.{◌≡◌, ◌-◌, length, min, refl, arith}
use Rattle.std.proofs.Output.{has_written_append, has_written_of_eq}
use Rattle.std.proofs.lemmas.List.{take_min}
use Rattle.certificate.proofs.faults.BadLinesDisplay.fmt.Goals as goal

pub returns-clause-writes : goal.returns-clause-writes
returns-clause-writes g c = λ plain ok.
    let lines = c.args.self.now.lines.now in
    let named : c.min-named.result ≡ min 10 (length lines) = omega (arith, c.min-named.ensures) in
    let more : length lines - min 10 (length lines) ≡ length lines - 10 = omega arith in
    let one = c.in_ok-write_lines.ensures plain refl in
    let two = c.in_ok-write_more.ensures one.plain refl in
    let three = c.write.ensures.writes two.plain ok in
    has_written_of_eq _ _ _ _ _ (rw (named, take_min 10 lines, more)) (has_written_append _ _ _ _ _ _ one (has_written_append _ _ _ _ _ _ two three))
