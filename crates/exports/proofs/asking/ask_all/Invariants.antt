use Rattle.std.proofs.Common.{◌≡◌, drop}
use Rattle.readout.specs.Views.{view}
use Rattle.exports.specs.Asking.{asked_all}
use Rattle.exports.proofs.asking.ask_all.Given as goal

-- the answers still to come lead to where all of them lead
abbrev pub invariant-loop-i : goal.invariant-loop-i
invariant-loop-i l = asked_all (view l.place, l.widths) l.i (drop l.i l.answers) ≡ asked_all (view l.initial.place, l.initial.widths) 0 l.answers
