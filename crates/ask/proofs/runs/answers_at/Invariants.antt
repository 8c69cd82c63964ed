use Rattle.std.proofs.Common.{◌≡◌, map, take}
use Rattle.ask.specs.Reporting.{answer_at}
use Rattle.ask.proofs.runs.answers_at.Given as goal

-- the answers to the questions so far
abbrev pub invariant-loop-at : goal.invariant-loop-at
invariant-loop-at g l = l.answers.items ≡ map (answer_at (g.L.Logger.table l.logger) (g.L.Logger.extent l.logger)) (take l.at-index l.questions)
