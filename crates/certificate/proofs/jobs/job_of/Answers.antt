use Rattle.std.proofs.Common.{rules}
use Rattle.certificate.proofs.Misuses.{no_span, no_questions}
use Rattle.certificate.proofs.jobs.job_of.Goals as goal

pub returns-in_err-ok_or : goal.returns-in_err-ok_or
returns-in_err-ok_or c =
    let kind = rw c.in_ok-parse.was at c.parse.ensures.value in
    let none = rw c.in_err-ok_or.ensures.ok_part at c.whole.ensures in
    no_span _ _ _ _ _ kind (none.0, none.2, none.3.0) (search rules)

pub returns-in_err-ok_or-2 : goal.returns-in_err-ok_or-2
returns-in_err-ok_or-2 c =
    let kind = rw c.in_ok-parse.was at c.parse.ensures.value in
    let some = rw c.in_ok-ok_or.ensures.ok_part at c.whole.ensures in
    let none = rw c.in_err-ok_or-2.ensures.ok_part at c.whole-2.ensures in
    no_questions _ _ _ _ _ _ kind (some.0, some.1, some.2.0) (none.0, none.2, none.3.0) (search rules)
