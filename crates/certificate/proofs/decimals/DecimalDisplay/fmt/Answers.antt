use Rattle.std.proofs.Common.{rules, arith, w64, SFits, ◌∙◌, ◌<◌, ap, mod-lt}
use Rattle.std.proofs.Output.{has_written_of_eq}
use Rattle.std.proofs.lemmas.Int.{to_z-of_z}
use Rattle.certificate.specs.Units.{sign}
use Rattle.certificate.proofs.Places.{ten_pos, text_is}
use Rattle.certificate.proofs.decimals.DecimalDisplay.fmt.Goals as goal

pub nonzero_div-whole : goal.nonzero_div-whole
nonzero_div-whole g c = omega (arith, c.pow-unit.ensures, ten_pos g.row.PLACES)

pub nonzero_rem-fraction : goal.nonzero_rem-fraction
nonzero_rem-fraction g c = omega (arith, c.pow-unit.ensures, ten_pos g.row.PLACES)

pub returns-clause-writes : goal.returns-clause-writes
returns-clause-writes g c =
    let fits : SFits w64 c.args.self.now.parts = search rules in
    let same = to_z-of_z w64 _ fits in
    let mark = c.sign_of-sign.ensures ∙ ap sign same in
    let some : 0 < c.pow-unit.result = omega (arith, c.pow-unit.ensures, ten_pos g.row.PLACES) in
    let below = mod-lt c.unsigned_abs-size.result some in
    λ plain ok. has_written_of_eq _ _ _ _ _ (rw c.laid_out.ensures (text_is g.row.PLACES c.args.self.now.parts _ _ _ _ (search rules) (search rules) mark (search rules) c.pow-unit.ensures (omega (arith, below)))) (c.write.ensures.writes plain ok)
