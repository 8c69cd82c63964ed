-- What the words of a job say, and what is said of words that are none. Assumes nothing.
use Rattle.std.specs.Prelude.{◌≡◌, ℕ, List, [], ◌∷◌, Some, None, Ok, Err, codes, Result, ◌≢◌}
use Rattle.std.specs.Borrow.{Bor}
use Rattle.certificate.specs.declared.jobs.Job.{Job}
use Rattle.certificate.specs.declared.jobs.Kind.{Kind}
use Rattle.certificate.specs.declared.jobs.Kind.TheVariants as kind
use Rattle.certificate.specs.declared.jobs.Misuse.{Misuse}
use Rattle.certificate.specs.declared.jobs.Misuse.TheVariants as misuse
use Rattle.records.specs.Saying.{WritesUnsigned}

-- the name of a kind
abbrev pub name_of : Kind → List ℕ
name_of kind.Climate = codes "climate"
name_of kind.Supply = codes "supply"

-- the kind that a word names, or that it names none
abbrev pub SaysKind : List ℕ → Result Kind Misuse → Type 0
SaysKind w (Ok k) = w ≡ name_of k
SaysKind w (Err misuse.Kind) = (k : Kind) → w ≢ name_of k
SaysKind w (Err misuse.Words) = ⊥
SaysKind w (Err misuse.Span) = ⊥
SaysKind w (Err misuse.Questions) = ⊥

-- the job of three words: a kind, a span and a number of questions, or the first of them that is none
abbrev pub SaysJob : List ℕ → List ℕ → List ℕ → Result Job Misuse → Type 0
SaysJob k s q (Ok j) = SaysKind k (Ok j.kind) × WritesUnsigned 32 s (Some j.span) × WritesUnsigned 32 q (Some j.questions)
SaysJob k s q (Err misuse.Words) = ⊥
SaysJob k s q (Err misuse.Kind) = SaysKind k (Err misuse.Kind)
SaysJob k s q (Err misuse.Span) = (c : Kind) × SaysKind k (Ok c) × WritesUnsigned 32 s None
SaysJob k s q (Err misuse.Questions) = (c : Kind) × (n : ℕ) × SaysKind k (Ok c) × WritesUnsigned 32 s (Some n) × WritesUnsigned 32 q None

-- the job of these words, which are three
abbrev pub SaysWords : List (Bor (List ℕ)) → Result Job Misuse → Type 0
SaysWords [] r = r ≡ Err misuse.Words
SaysWords (k ∷ []) r = r ≡ Err misuse.Words
SaysWords (k ∷ s ∷ []) r = r ≡ Err misuse.Words
SaysWords (k ∷ s ∷ q ∷ []) r = SaysJob k.now s.now q.now r
SaysWords (k ∷ s ∷ q ∷ w ∷ ws) r = r ≡ Err misuse.Words

-- what is wrong with words that are no job
abbrev pub misuse_says : Misuse → List ℕ
misuse_says misuse.Words = codes "a kind, a span and a number of questions are needed, and nothing else"
misuse_says misuse.Kind = codes "the kind is neither climate nor supply"
misuse_says misuse.Span = codes "the span is no whole number up to 4,294,967,295"
misuse_says misuse.Questions = codes "the number of questions is no whole number up to 4,294,967,295"
