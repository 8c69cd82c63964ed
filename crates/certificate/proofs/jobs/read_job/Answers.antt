use Rattle.std.proofs.Common.{◌<◌, ◌≤◌, ℕ, List, [], ◌∷◌, length, get_or, Result, arith, Bor}
use Rattle.certificate.specs.declared.jobs.Job.{Job}
use Rattle.certificate.specs.declared.jobs.Misuse.{Misuse}
use Rattle.certificate.specs.Jobs.{SaysJob, SaysWords}
use Rattle.certificate.proofs.jobs.read_job.Goals as goal

-- what three words say, read by their places
by_places : (ws : List (Bor (List ℕ))) (d : Bor (List ℕ)) (r : Result Job Misuse) → 3 ≤ length ws → length ws < 4 → SaysJob (get_or ws 0 d).now (get_or ws 1 d).now (get_or ws 2 d).now r → SaysWords ws r
by_places [] d r least most says = absurd (omega arith)
by_places (k ∷ []) d r least most says = absurd (omega arith)
by_places (k ∷ s ∷ []) d r least most says = absurd (omega arith)
by_places (k ∷ s ∷ q ∷ []) d r least most says = says
by_places (k ∷ s ∷ q ∷ w ∷ ws) d r least most says = absurd (omega arith)

pub returns-in-len3 : goal.returns-in-len3
returns-in-len3 c = by_places _ _ _ c.in-len3.len_at_least c.in-len3.len_below c.job_of.ensures
