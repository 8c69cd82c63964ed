-- Words that are no job. Assumes nothing.
use Rattle.std.proofs.Common.{◌≡◌, ℕ, List, Result, Some, None, Ok, Err}
use Rattle.certificate.specs.declared.jobs.Job.{Job}
use Rattle.certificate.specs.declared.jobs.Kind.{Kind}
use Rattle.certificate.specs.declared.jobs.Misuse.{Misuse}
use Rattle.certificate.specs.declared.jobs.Misuse.TheVariants as misuse
use Rattle.certificate.specs.Jobs.{SaysKind, SaysJob}
use Rattle.records.specs.Saying.{WritesUnsigned}

-- after a kind that is one, a span that is none
pub no_span : (k s q : List ℕ) (c : Kind) (r : Result Job Misuse) → SaysKind k (Ok c) → WritesUnsigned 32 s None → r ≡ Err misuse.Span → SaysJob k s q r
no_span k s q c r kind none is = rw is (c, kind, none)

-- after a span that is one, a number of questions that is none
pub no_questions : (k s q : List ℕ) (c : Kind) (n : ℕ) (r : Result Job Misuse) → SaysKind k (Ok c) → WritesUnsigned 32 s (Some n) → WritesUnsigned 32 q None → r ≡ Err misuse.Questions → SaysJob k s q r
no_questions k s q c n r kind some none is = rw is (c, n, kind, some, none)
