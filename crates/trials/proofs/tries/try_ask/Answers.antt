use Rattle.std.proofs.Common.{ap, ◌∙◌}
use Rattle.std.proofs.lemmas.Result.{err_from_is_err_and}
use Rattle.readout.specs.Calls.{not_out, taken, withdrawn}
use Rattle.readout.specs.Views.{view}
use Rattle.trials.specs.Tries.{try_denied}
use Rattle.trials.proofs.Trying.{denied_so, denied_first, gave, may_withdraw, as_before, comes_back, then_brought}
use Rattle.trials.proofs.tries.try_ask.Goals as goal

pub returns-in_err-ticket : goal.returns-in_err-ticket
returns-in_err-ticket c =
    let v = view c.args.place.now in
    let from = err_from_is_err_and c.from_residual.result c.from_residual.ensures.1 in
    let h = denied_first v c.args.x _ c.in_err-ticket.field-0.0 _ _ c.in_err-ticket.ensures in
    rw (from.1, from.2) (denied_so (try_denied v c.args.x (taken v c.args.x) c.args.purpose) c.in_err-ticket.field-0.0 _ _ h.0 (ap view h.1))

pub put_back-requires : goal.put_back-requires
put_back-requires c =
    let u = view c.take.new.self in
    let g = gave (view c.args.place.now) c.args.x c.in_ok-ticket.ticket u _ c.in_ok-ticket.ensures in
    let back = comes_back u c.in_ok-ticket.ticket c.args.purpose _ _ c.in-Err.field-0 c.in-Err.ensures in
    ap (λ p. not_out (view p) c.in-Err.field-0.ticket) back.1 ∙ may_withdraw g c.in-Err.field-0.ticket back.0.mark back.0.at

pub returns-in-Err : goal.returns-in-Err
returns-in-Err c =
    let v = view c.args.place.now in
    let w = taken v c.args.x in
    let u = view c.take.new.self in
    let g = gave v c.args.x c.in_ok-ticket.ticket u _ c.in_ok-ticket.ensures in
    let back = comes_back u c.in_ok-ticket.ticket c.args.purpose _ _ c.in-Err.field-0 c.in-Err.ensures in
    denied_so (try_denied v c.args.x w c.args.purpose) c.in-Err.field-0.denial _ _
    (then_brought g w u c.args.purpose g.out ∙ back.0.tells)
    (as_before g _ (c.put_back.ensures ∙ ap (λ p. withdrawn (view p)) back.1))
