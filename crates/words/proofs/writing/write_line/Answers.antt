use Rattle.std.proofs.Common.{refl, arith}
use Rattle.words.specs.Writing.{line_bytes}
use Rattle.words.proofs.Beginning.{begun_from}
use Rattle.words.proofs.writing.write_line.Goals as goal

pub returns-clause-row : goal.returns-clause-row
returns-clause-row c =
    let from = begun_from (line_bytes c.args.letter c.args.numbers.now) c.args.out.now c.write_first.new.out c.args.at _ c.if-at-out.false refl in
    grind (arith, from)
