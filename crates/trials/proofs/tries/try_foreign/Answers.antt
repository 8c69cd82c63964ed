use Rattle.std.proofs.Common.{refl, ap, ◌∙◌}
use Rattle.std.proofs.lemmas.Result.{err_from_is_err_and}
use Rattle.readout.specs.Views.{view}
use Rattle.trials.specs.Tries.{try_denied}
use Rattle.trials.proofs.Trying.{denied_so, denied_first, gave, may_withdraw, as_before, comes_back, then_brought}
use Rattle.trials.proofs.tries.try_foreign.Goals as goal

pub returns-in_err-ticket : goal.returns-in_err-ticket
returns-in_err-ticket c =
    let v = view c.args.owner.now in
    let w = view c.args.other.now in
    let from = err_from_is_err_and c.from_residual.result c.from_residual.ensures.1 in
    let h = denied_first v c.args.x _ c.in_err-ticket.field-0.0 _ _ c.in_err-ticket.ensures in
    rw (from.1, from.2) (denied_so (try_denied v c.args.x w c.args.purpose) c.in_err-ticket.field-0.0 _ _ h.0 (ap view h.1, refl))

pub put_back-requires : goal.put_back-requires
put_back-requires c =
    let g = gave (view c.args.owner.now) c.args.x c.in_ok-ticket.ticket (view c.take.new.self) _ c.in_ok-ticket.ensures in
    let back = comes_back (view c.args.other.now) c.in_ok-ticket.ticket c.args.purpose _ _ c.in-Err.field-0 c.in-Err.ensures in
    may_withdraw g c.in-Err.field-0.ticket back.0.mark back.0.at

pub returns-in-Err : goal.returns-in-Err
returns-in-Err c =
    let v = view c.args.owner.now in
    let w = view c.args.other.now in
    let g = gave v c.args.x c.in_ok-ticket.ticket (view c.take.new.self) _ c.in_ok-ticket.ensures in
    let back = comes_back w c.in_ok-ticket.ticket c.args.purpose _ _ c.in-Err.field-0 c.in-Err.ensures in
    denied_so (try_denied v c.args.x w c.args.purpose) c.in-Err.field-0.denial _ _
    (then_brought g w w c.args.purpose refl ∙ back.0.tells)
    (as_before g _ c.put_back.ensures, ap view back.1)
