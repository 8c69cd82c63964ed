use Rattle.std.proofs.Common.{ap, ◌∙◌}
use Rattle.std.proofs.lemmas.Result.{err_from_is_err_and}
use Rattle.std.specs.Option.{option_map}
use Rattle.readout.specs.Calls.{take_denied, not_out, withdrawn}
use Rattle.readout.specs.Views.{view}
use Rattle.trials.specs.Looks.{seen}
use Rattle.trials.specs.Tries.{number}
use Rattle.trials.proofs.Trying.{denied_so, take_number, accepted_so, gave, may_withdraw, as_before, comes_back}
use Rattle.trials.proofs.Looking.{around_err}
use Rattle.trials.proofs.tries.look_around.Goals as goal

pub returns-in_err-ticket : goal.returns-in_err-ticket
returns-in_err-ticket c =
    let o = take_denied (view c.args.place.now) c.args.x in
    let from = err_from_is_err_and c.from_residual.result c.from_residual.ensures.1 in
    let h = take_number o c.in_err-ticket.field-0.0 _ _ c.in_err-ticket.ensures in
    rw (from.1, from.2) (denied_so (option_map number o) c.in_err-ticket.field-0.0 _ _ h.0 (ap view h.1))

pub put_back-requires : goal.put_back-requires
put_back-requires c =
    let u = view c.take.new.self in
    let g = gave (view c.args.place.now) c.args.x c.in_ok-ticket.ticket u _ c.in_ok-ticket.ensures in
    let back = comes_back u c.in_ok-ticket.ticket c.args.purpose _ _ c.in-Err.field-0 c.in-Err.ensures in
    ap (λ p. not_out (view p) c.in-Err.field-0.ticket) back.1 ∙ may_withdraw g c.in-Err.field-0.ticket back.0.mark back.0.at

pub returns-in-Err : goal.returns-in-Err
returns-in-Err c =
    let v = view c.args.place.now in
    let u = view c.take.new.self in
    let g = gave v c.args.x c.in_ok-ticket.ticket u _ c.in_ok-ticket.ensures in
    let back = comes_back u c.in_ok-ticket.ticket c.args.purpose _ _ c.in-Err.field-0 c.in-Err.ensures in
    accepted_so (option_map number (take_denied v c.args.x)) (c.look_at-before.result, c.look_at-after.result) _ _ (ap (option_map number) g.clear)
    (around_err g c.args.purpose _ _ _ _ back.0.tells c.look_at-before.ensures (c.look_at-after.ensures ∙ ap (λ p. seen (view p)) back.1)
    (as_before g _ (c.put_back.ensures ∙ ap (λ p. withdrawn (view p)) back.1)))
