use Rattle.std.proofs.Common.{◌-◌, length, refl, ap, ◌∙◌, arith}
use Rattle.logs.specs.Points.{points}
use Rattle.tables.specs.Log.{span_of, first_value, last_value}
use Rattle.tables.specs.Theorems.{promise}
use Rattle.certificates.proofs.Drawing.{counted_le, drawn}
use Rattle.certificates.proofs.certifying.draw_up.Goals as goal

pub overflow_sub-result : goal.overflow_sub-result
overflow_sub-result g c =
    omega (arith, c.last-counted.ensures, ap last_value c.log.ensures, counted_le g.T.Level.height c.args.readings.now c.args.span c.args.questions (points c.args.place.now.log) c.requires.spaced)

pub returns : goal.returns
returns g c =
    drawn g.T.Level.height c.args.readings.now c.args.span c.args.questions (points c.args.place.now.log) c.requires.spaced
    g.T.OwnUnit.zero _ refl refl (c.last-counted.ensures ∙ ap last_value c.log.ensures) refl
    c.total_of_levels-total.ensures.is c.mean_of_levels.ensures.is c.mean_of_levels.ensures.sharp
    c.width.ensures
    (c.promise.ensures ∙ ap (λ l. promise (span_of l) (first_value l) (last_value l) (length l - 2)) c.log-2.ensures)
