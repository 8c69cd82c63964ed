use Rattle.words.proofs.Decimals.{reads_back}
use Rattle.sheet.proofs.sheets.run_sheet.Goals as goal

pub returns-in_err-check_room-clause-back : goal.returns-in_err-check_room-clause-back
returns-in_err-check_room-clause-back c = reads_back

pub returns-clause-back : goal.returns-clause-back
returns-clause-back c = reads_back
