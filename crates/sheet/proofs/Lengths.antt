-- What a line prints is at most 17 times as long as the line with its end. Assumes nothing.
use Rattle.std.proofs.Common.{◌≡◌, ℕ, ◌+◌, ◌-◌, ◌*◌, ◌^◌, ◌<◌, ◌≤◌, List, [], ◌∷◌, length, Some, None, Ok, Err, decimal, Option, Result, sym, ap, arith, length-append}
use Rattle.std.proofs.lemmas.Fmt.{decimal_nonempty, length-decimal-le}
use Rattle.denials.specs.declared.Denial.{Denial}
use Rattle.denials.specs.declared.Denial.TheVariants.{Span, Ends, Budget, TicketOut, NotInner, Known, NoneLeft, NotThisTicket, OutOfOrder, Short, Window, Rise, Form, Falls, Readings, LineAwake}
use Rattle.denials.specs.Told.{told}
use Rattle.jobs.specs.Jobs.{Job, diagonal, table, spacing, widest, asking, Fits, job_of}
use Rattle.jobs.proofs.Forming.{lines_are_exact}
use Rattle.words.specs.Writing.{spaced, line_bytes}
use Rattle.words.proofs.Lines.{length_line}
use Rattle.sheet.specs.declared.reports.Report.{Report}
use Rattle.sheet.specs.Leading.{leads}
use Rattle.sheet.specs.Printing.{letter_of, denial, shown}
use Rattle.sheet.specs.Replying.{replied}
use Rattle.sheet.specs.Setting.{Setting}

-- a space and a number of at least one digit, and others
spaced_some : (n : ℕ) (ns : List ℕ) → n < 2 ^ 64 → 2 ≤ length (spaced (n ∷ ns))
spaced_some n ns h = omega (arith, decimal_nonempty n h, length-append (decimal n) (spaced ns))

-- a line that asks for a job has a letter, a space and a digit
asking_long : (job : Job) → Fits job → 3 ≤ length (asking job)
asking_long (diagonal n c) fits = omega (arith, spaced_some n (c ∷ []) (omega (arith, fits.0)))
asking_long (table []) fits = absurd (omega (arith, fits.0))
asking_long (table (v ∷ vs)) fits = omega (arith, spaced_some v vs (omega (arith, fits.2.0)))
asking_long (spacing n) fits = omega (arith, spaced_some n [] (omega (arith, fits)))
asking_long (widest n) fits = omega (arith, spaced_some n [] (omega (arith, fits)))

-- numbers of so many digits after a space
spaced-one : (n k : ℕ) (ns : List ℕ) → 0 < k → n < 10 ^ k → n < 2 ^ 64 → length (spaced (n ∷ ns)) ≤ 1 + k + length (spaced ns)
spaced-one n k ns some h fits = omega (arith, length-append (decimal n) (spaced ns), length-decimal-le k n some h fits)

-- a denial's number has at most two digits
told_small : (d : Denial) → (told d).0 < 10 ^ 2
told_small Span = omega arith
told_small Ends = omega arith
told_small Budget = omega arith
told_small TicketOut = omega arith
told_small NotInner = omega arith
told_small Known = omega arith
told_small NoneLeft = omega arith
told_small NotThisTicket = omega arith
told_small OutOfOrder = omega arith
told_small (Short n) = omega arith
told_small Window = omega arith
told_small Rise = omega arith
told_small (Form n) = omega arith
told_small (Falls n) = omega arith
told_small Readings = omega arith
told_small LineAwake = omega arith

denied_short : (i d : ℕ) → i < 10 ^ 4 → d < 10 ^ 2 → length (denial i d) ≤ 10
denied_short i d few small =
    omega (arith, length_line 63 (i ∷ d ∷ []), spaced-one i 4 (d ∷ []) (omega arith) few (omega arith), spaced-one d 2 [] (omega arith) small (omega arith))

ran_short : (c N k lo hi w : ℕ) → N < 10 ^ 7 → k < 10 ^ 3 → lo < 10 ^ 16 → hi < 10 ^ 16 → w < 10 ^ 16 → length (line_bytes c (N ∷ k ∷ lo ∷ hi ∷ w ∷ [])) ≤ 65
ran_short c N k lo hi w s a l h v =
    omega (
      arith,
      length_line c (N ∷ k ∷ lo ∷ hi ∷ w ∷ []),
      spaced-one N 7 (k ∷ lo ∷ hi ∷ w ∷ []) (omega arith) s (omega arith),
      spaced-one k 3 (lo ∷ hi ∷ w ∷ []) (omega arith) a (omega arith),
      spaced-one lo 16 (hi ∷ w ∷ []) (omega arith) l (omega arith),
      spaced-one hi 16 (w ∷ []) (omega arith) h (omega arith),
      spaced-one w 16 [] (omega arith) v (omega arith),
    )

-- no reply prints more than 65 bytes
reply_short : (i : ℕ) (r : Result (Option Report) Denial) → i < 10 ^ 4 → length (shown i (replied r)) ≤ 65
reply_short i (Ok None) few = omega arith
reply_short i (Ok (Some r)) few =
    ran_short (letter_of r.way) r.span r.asked r.low r.high (r.high - r.low) r.short_span r.few (omega (arith, r.in_order, r.short_limits)) r.short_limits (omega (arith, r.short_limits))
reply_short i (Err d) few = omega (arith, denied_short i (told d).0 few (told_small d))

-- and a line of another form, a denial
pub shown_short : (i : ℕ) (s : Setting) (line : List ℕ) (o : Option Job) (r : Result (Option Report) Denial) (written : ℕ) → i < 10 ^ 4 → o ≡ job_of line → replied r ≡ (leads s o).1 → written ≡ length (shown i (replied r)) → written ≤ 17 * (length line + 1)
shown_short i s line None r written few e is counts = omega (arith, counts, denied_short i 13 few (omega arith), ap (λ q. length (shown i q)) is)
shown_short i s line (Some job) r written few e is counts =
    let exact = (lines_are_exact line job).0 (sym e) in
    omega (arith, counts, reply_short i r few, ap length exact.0, asking_long job exact.1)
