use Rattle.std.proofs.Common.{refl}
use Rattle.std.proofs.Output.{has_written_append, has_written_of_eq}
use Rattle.certificate.proofs.sheets.Sheet.write_counts.Goals as goal

pub returns : goal.returns
returns g c = λ plain ok.
    let one = c.in_ok-writeln.ensures.writes plain refl in
    let two = c.in_ok-writeln-2.ensures.writes one.plain refl in
    let three = c.writeln-3.ensures.writes two.plain ok in
    has_written_of_eq _ _ _ _ _ (rw (c.KIND-kind.ensures, c.of_level-highest.ensures)) (has_written_append _ _ _ _ _ _ one (has_written_append _ _ _ _ _ _ two three))
