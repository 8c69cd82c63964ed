use Rattle.std.proofs.Common.{◌-◌, length, ap, ◌∙◌, arith, w64, SFits}
use Rattle.std.proofs.lemmas.Int.{to_z-of_z}
use Rattle.logs.specs.Points.{points}
use Rattle.logs.proofs.Sound.{is_log_lem}
use Rattle.tables.specs.Log.{last_value}
use Rattle.certificates.proofs.Sharp.{mean_so}
use Rattle.certificates.proofs.means.mean_of_levels.Goals as goal

pub returns : goal.returns
returns g c =
    let log = points c.args.readout.now.log in
    let low : SFits w64 c.own_unit.result = record { sfits = c.own_unit.type_inv } in
    let high : SFits w64 c.own_unit-2.result = record { sfits = c.own_unit-2.type_inv } in
    let so = mean_so g.T.OwnUnit.zero log (is_log_lem log c.args.readout.now.log.sound)
    c.from-counted.result (c.from-counted.ensures ∙ c.last.ensures ∙ ap last_value c.log.ensures) (omega arith)
    c.total_of_levels-total.result c.total_of_levels-total.ensures.is
    c.zero_level-zero.result c.div_ceil.result c.zero_level-zero.ensures c.div_ceil.ensures
    _ (to_z-of_z w64 _ low ∙ c.own_unit.ensures) (to_z-of_z w64 _ high ∙ c.own_unit-2.ensures) (c.answers.ensures ∙ ap (λ l. length l - 2) c.log-2.ensures) in
    record { is = so.0; sharp = so.1 }
