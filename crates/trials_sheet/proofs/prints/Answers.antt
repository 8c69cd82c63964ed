use Rattle.std.proofs.Common.{take, sym, ◌∙◌}
use Rattle.std.proofs.lemmas.Slice.Eq.{slice_eq-Decides}
use Rattle.sheet.specs.Printing.{sheet_prints}
use Rattle.trials_sheet.proofs.Fronts.{front}
use Rattle.trials_sheet.proofs.prints.Goals as goal
use Rattle.std.proofs.lemmas.Bool.Decides.{Decides-eqb}

pub returns-then-eq : goal.returns-then-eq
returns-then-eq c e =
    let d = slice_eq-Decides Decides-eqb (take c.in-Ok.n c.run_sheet.new.out) c.args.expected.now _ c.eq.ensures in
    sym (front _ c.in-Ok.n c.run_sheet.new.out _ (sheet_prints c.args.sheet.now) _ c.in-Ok.ensures.decided) ∙ d.0 c.if-eq.true
