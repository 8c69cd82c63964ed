use Rattle.std.proofs.Common.{sym}
use Rattle.words.proofs.Lines.{line_written}
use Rattle.words.proofs.writing.write_first.Goals as goal

pub returns-clause-row : goal.returns-clause-row
returns-clause-row c =
    rw (sym c.if-not-has_room.ensures)
    (line_written c.args.letter c.args.numbers.now c.args.out.now c.write_spaced-end.new.out c.write_spaced-end.result (sym c.if-not-has_room.ensures) c.write_spaced-end.ensures.end c.write_spaced-end.ensures.row)
