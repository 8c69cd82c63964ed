use Rattle.std.proofs.Common.{refl, ap, ◌∙◌}
use Rattle.std.proofs.lemmas.Result.{err_from_is_err_and}
use Rattle.readout.specs.Calls.{not_out, withdrawn}
use Rattle.readout.specs.Views.{View, view}
use Rattle.trials.specs.Tries.{brought, try_denied, cross_denied}
use Rattle.trials.proofs.Trying.{denied_so, denied_first, denied_was, accepted_so, accepted_was, gave, may_withdraw, as_before, then_foreign, own_is_foreign}
use Rattle.trials.proofs.tries.try_crossed.Goals as goal

pub returns-in_err-own : goal.returns-in_err-own
returns-in_err-own c =
    let w = view c.args.other.now in
    let from = err_from_is_err_and c.from_residual.result c.from_residual.ensures.1 in
    let h = denied_first w c.args.y _ c.in_err-own.field-0.0 _ _ c.in_err-own.ensures in
    rw (from.1, from.2) (denied_so (cross_denied (view c.args.owner.now) c.args.x w c.args.y c.args.purpose) c.in_err-own.field-0.0 _ _ h.0 (refl, ap view h.1))

pub put_back-requires : goal.put_back-requires
put_back-requires c =
    let u = view c.take.new.self in
    let g = gave (view c.args.other.now) c.args.y c.in_ok-own.own u _ c.in_ok-own.ensures in
    let h = denied_was (try_denied (view c.args.owner.now) c.args.x u c.args.purpose) c.in-Err.denial _ _ c.in-Err.ensures in
    ap (λ (z : View). not_out z c.in_ok-own.own) h.1.1 ∙ may_withdraw g c.in_ok-own.own refl refl

pub returns-in-Err : goal.returns-in-Err
returns-in-Err c =
    let v = view c.args.owner.now in
    let w = view c.args.other.now in
    let u = view c.take.new.self in
    let g = gave w c.args.y c.in_ok-own.own u _ c.in_ok-own.ensures in
    let h = denied_was (try_denied v c.args.x u c.args.purpose) c.in-Err.denial _ _ c.in-Err.ensures in
    denied_so (cross_denied v c.args.x w c.args.y c.args.purpose) c.in-Err.denial _ _
    (then_foreign g v c.args.x c.args.purpose ∙ h.0)
    (h.1.0, as_before g _ (c.put_back.ensures ∙ ap withdrawn h.1.1))

pub put_back-requires-2 : goal.put_back-requires-2
put_back-requires-2 c =
    let v = view c.args.owner.now in
    let u = view c.take.new.self in
    let g = gave (view c.args.other.now) c.args.y c.in_ok-own.own u _ c.in_ok-own.ensures in
    let done = accepted_was (try_denied v c.args.x u c.args.purpose) _ _ c.in_default.ensures in
    ap (λ (z : View). not_out z c.in_ok-own.own) done.1.0 ∙ (own_is_foreign g v c.args.x c.args.purpose done.0).0

pub returns : goal.returns
returns c =
    let v = view c.args.owner.now in
    let w = view c.args.other.now in
    let u = view c.take.new.self in
    let g = gave w c.args.y c.in_ok-own.own u _ c.in_ok-own.ensures in
    let done = accepted_was (try_denied v c.args.x u c.args.purpose) _ _ c.in_default.ensures in
    accepted_so (cross_denied v c.args.x w c.args.y c.args.purpose) tt _ _
    (then_foreign g v c.args.x c.args.purpose ∙ done.0) (
      c.put_back-2.ensures ∙ ap withdrawn done.1.0 ∙ (own_is_foreign g v c.args.x c.args.purpose done.0).1,
      done.1.1 ∙ ap (λ (z : View). brought z c.args.x c.args.purpose) g.out,
    )
