use Rattle.std.proofs.Common.{rules}
use Rattle.records.proofs.Faults.{no_minute, no_temperature}
use Rattle.records.proofs.kinds.ClimateReadingWritten.read.Goals as goal

pub returns-in_err-ok_or : goal.returns-in_err-ok_or
returns-in_err-ok_or c =
    let comma = rw c.in_ok-minute.ensures.ok_part at c.at_comma.ensures in
    let none = rw c.in_err-ok_or.ensures.ok_part at c.whole.ensures in
    no_minute _ _ _ _ comma (none.0, none.2, none.3.0) (search rules)

pub returns-in_err-ok_or-2 : goal.returns-in_err-ok_or-2
returns-in_err-ok_or-2 c =
    let comma = rw c.in_ok-minute.ensures.ok_part at c.at_comma.ensures in
    let some = rw c.in_ok-ok_or.ensures.ok_part at c.whole.ensures in
    let none = rw c.in_err-ok_or-2.ensures.ok_part at c.whole-2.ensures in
    no_temperature _ _ _ _ _ comma (some.0, some.1, some.2.0) (none.0, none.2, none.3.0) (search rules)
