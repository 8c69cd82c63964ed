use Rattle.std.proofs.lemmas.Result.{err_from_is_err_and}
use Rattle.limits.proofs.Entered.{taken, refused}
use Rattle.limits.proofs.notes.Notes.take_in.Goals as goal

pub returns-in_err-insert : goal.returns-in_err-insert
returns-in_err-insert c =
    let from = err_from_is_err_and c.from_residual.result c.from_residual.ensures.1 in
    let met = refused c.args.self.now.log c.in-Some.log c.insert.new.self c.args.point c.in-Some.is c.in_err-insert.field-0.0 _ c.in_err-insert.ensures in
    rw (from.1, from.2) (record { said = met.0; kept = met.1 })

pub returns : goal.returns
returns c =
    let met = taken c.args.self.now.log c.in-Some.log c.insert.new.self c.args.point c.in-Some.is _ c.in_ok-insert.ensures in
    record { said = met.0; kept = met.1 }
