-- What stands on the sheet of a certificate. Assumes nothing.
use Rattle.std.specs.Prelude.{ℕ, zero, suc, List, [], ◌++◌, ℤ, Some, None, Option, codes, decimal}
use Rattle.certificates.specs.declared.certifying.Certificate.{Certificate}
use Rattle.certificates.specs.declared.means.Mean.{Mean}
use Rattle.records.specs.declared.batches.Report.{Report}
use Rattle.certificate.specs.declared.jobs.Kind.{Kind}
use Rattle.certificate.specs.Jobs.{name_of}
use Rattle.certificate.specs.Amounts.{of_level}

-- the readings counted, and those above the span, where z is the level of a reading of 0
abbrev pub counts_say : Kind → (ℤ → List ℕ) → ℕ → Certificate → List ℕ
counts_say k shown z c =
    (codes "Certificate of " ++ (name_of k ++ codes " readings\n"))
    ++ ((codes "readings counted: " ++ (decimal c.counted ++ codes "\n"))
    ++ (codes "readings out of range: " ++ (decimal c.out_of_range ++ (codes " (above " ++ (shown (of_level z c.span) ++ codes ", not counted)\n")))))

-- so many readings below the one of level 0
abbrev pub number_below : (ℤ → List ℕ) → ℕ → ℕ → List ℕ
number_below shown z n =
    codes "readings below " ++ (shown (of_level z 0) ++ (codes ": " ++ (decimal n ++ (codes " (counted as " ++ (shown (of_level z 0) ++ codes ")\n")))))

-- where there are some
abbrev pub low_says : (ℤ → List ℕ) → ℕ → ℕ → List ℕ
low_says shown z zero = []
low_says shown z (suc n) = number_below shown z (suc n)

-- the span and the number of questions
abbrev pub span_says : (ℤ → List ℕ) → ℕ → Certificate → List ℕ
span_says shown z c =
    (codes "span: " ++ (decimal c.span ++ (codes " (" ++ (shown (of_level z 0) ++ (codes " to " ++ (shown (of_level z c.span) ++ codes ")\n"))))))
    ++ (codes "questions: " ++ (decimal c.questions ++ codes " (equal spacing)\n"))

-- the limits of the mean, or that there is none
abbrev pub mean_says : (ℤ → List ℕ) → Option Mean → List ℕ
mean_says shown None = codes "mean: no reading was counted, so there is no mean\n"
mean_says shown (Some m) = codes "mean: " ++ (shown m.low ++ (codes " to " ++ (shown m.high ++ codes "\n")))

-- the limits of the total and of the mean
abbrev pub limits_say : (ℤ → List ℕ) → Certificate → List ℕ
limits_say shown c = (codes "total of levels: " ++ (decimal c.total.low ++ (codes " to " ++ (decimal c.total.high ++ codes "\n")))) ++ mean_says shown c.mean

-- the width, and the least that any plan could promise
abbrev pub width_says : Certificate → List ℕ
width_says c = codes "width of the total: " ++ (decimal c.width ++ (codes " (no plan with as many questions can promise less than " ++ (decimal c.least ++ codes ")")))

-- the whole sheet of readings of a kind
abbrev pub sheet_says : Kind → (ℤ → List ℕ) → ℕ → Report → List ℕ
sheet_says k shown z r =
    counts_say k shown z r.certificate
    ++ (low_says shown z r.low ++ (span_says shown z r.certificate ++ (limits_say shown r.certificate ++ width_says r.certificate)))
