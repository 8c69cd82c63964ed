use Rattle.std.proofs.Common.{◌∙◌, refl}
use Rattle.std.proofs.lemmas.Result.{err_from_is_err_and}
use Rattle.logs.specs.Fits.{misfit}
use Rattle.logs.specs.Points.{points}
use Rattle.denials.proofs.Passing.{denied, accepted}
use Rattle.logs.proofs.logs.Log.insert.Goals as goal

pub returns-in_err-i : goal.returns-in_err-i
returns-in_err-i c =
    let p = err_from_is_err_and c.from_residual.result c.from_residual.ensures.1 in
    rw (p.1, p.2) (denied (λ m. m) (misfit (points c.args.self.now) c.args.p) c.in_err-i.field-0.0 (λ _. Unit {0}) (Unit {0}) _ _ c.in_err-i.ensures.refused refl)

pub returns : goal.returns
returns c =
    accepted (λ m. m) (misfit (points c.args.self.now) c.args.p) c.in_ok-i.i tt (λ _. Unit {0}) (Unit {0}) _ _
    c.in_ok-i.ensures.refused (c.put.ensures.0 ∙ c.in_ok-i.ensures.goes.inserts)
