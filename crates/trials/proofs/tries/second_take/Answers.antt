use Rattle.std.proofs.Common.{◌≡◌, Some, unwrap_or, sym, refl, ap, ◌∙◌}
use Rattle.std.specs.Option.{option_map}
use Rattle.readout.specs.Calls.{take_denied, not_out, withdrawn}
use Rattle.readout.specs.Views.{view}
use Rattle.trials.specs.Tries.{number}
use Rattle.trials.proofs.Trying.{take_number, take_failed, gave, may_withdraw, as_before, none_while_out}
use Rattle.trials.proofs.tries.second_take.Goals as goal

pub put_back-requires : goal.put_back-requires
put_back-requires c =
    let u = view c.take.new.self in
    let g = gave (view c.args.place.now) c.args.x c.in-Ok.first u _ c.in-Ok.ensures in
    let h = take_failed (take_denied u c.args.y) c.take-in-Ok.result c.unwrap_err-denial.result _ _ c.unwrap_err-denial.ensures c.take-in-Ok.ensures in
    ap (λ p. not_out (view p) c.in-Ok.first) h.1 ∙ may_withdraw g c.in-Ok.first refl refl

pub returns-in-Err : goal.returns-in-Err
returns-in-Err c =
    let h = take_number (take_denied (view c.args.place.now) c.args.x) c.in-Err.denial _ _ c.in-Err.ensures in
    record { why = sym (ap (λ o. unwrap_or o 4) h.0); same = ap view h.1 }

pub returns-in-Ok : goal.returns-in-Ok
returns-in-Ok c =
    let u = view c.take.new.self in
    let g = gave (view c.args.place.now) c.args.x c.in-Ok.first u _ c.in-Ok.ensures in
    let h = take_failed (take_denied u c.args.y) c.take-in-Ok.result c.unwrap_err-denial.result _ _ c.unwrap_err-denial.ensures c.take-in-Ok.ensures in
    let four : Some (number c.unwrap_err-denial.result) ≡ Some 4 = sym h.0 ∙ none_while_out g c.args.y in
    let none = ap (λ o. unwrap_or (option_map number o) 4) g.clear in
    record {
      why = ap (λ o. unwrap_or o 4) four ∙ sym none;
      same = as_before g _ (c.put_back.ensures ∙ ap (λ p. withdrawn (view p)) h.1);
    }
