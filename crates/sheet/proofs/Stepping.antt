-- One line after the other: what is printed so far, and what is to come. Assumes nothing.
use Rattle.std.proofs.Common.{◌≡◌, ℕ, ◌+◌, ◌-◌, ◌≤◌, List, ◌++◌, length, take, drop, Option, Result, sym, ap, ◌∙◌, append_assoc, arith, length-append}
use Rattle.std.proofs.lemmas.List.{take_at, length-take-le}
use Rattle.denials.specs.declared.Denial.{Denial}
use Rattle.jobs.specs.Jobs.{Job, job_of}
use Rattle.jobs.specs.Lines.{lines_of, line_of}
use Rattle.sheet.specs.declared.reports.Report.{Report}
use Rattle.words.specs.Writing.{begun}
use Rattle.sheet.specs.Leading.{leads}
use Rattle.sheet.specs.Printing.{shown, printed}
use Rattle.sheet.specs.Replying.{replied}
use Rattle.sheet.specs.Setting.{Setting}
use Rattle.words.proofs.Beginning.{begun_after}
use Rattle.sheet.proofs.Cutting.{Cut}
use borrow.Rule.Slice.PartMut.{put_mid}

-- a row that bytes were written into after those that it begins with: what is written goes on
pub record Grown (begin out out' : List ℕ) (written written' : ℕ) (bytes : List ℕ) : Type 0 where
  pub within : written' ≤ length out'
  pub row : out' ≡ begun (take written' out') begin
  pub front : take written' out' ≡ take written out ++ bytes

pub grown : (begin out part bytes : List ℕ) (written k more : ℕ) → out ≡ begun (take written out) begin → written ≤ length out → written ≤ length begin → k ≡ length out - written → more ≡ length bytes → part ≡ begun bytes (take k (drop written out)) → Grown begin out (put_mid written k out part) written (written + more) bytes
grown begin out part bytes written k more is within room left counts made =
    let long : length (take written out) ≡ written = length-take-le written out within in
    let whole = begun_after (take written out) bytes begin out part written k is (sym long) room left made in
    let end : written + more ≡ length (take written out ++ bytes) = omega (arith, long, counts, length-append (take written out) bytes) in
    let front : take (written + more) (put_mid written k out part) ≡ take written out ++ bytes = ap (take (written + more)) whole ∙ take_at (take written out ++ bytes) (drop (length (take written out ++ bytes)) begin) (written + more) (sym end) in
    record {
      within = omega (arith, end, ap length whole, length-append (take written out ++ bytes) (drop (length (take written out ++ bytes)) begin));
      row = whole ∙ ap (λ bs. begun bs begin) (sym front);
      front = front;
    }

-- what the lines from here on print begins with the reply to the first
pub printed_from : (sheet piece rest : List ℕ) (n number next : ℕ) (s s' : Setting) (o : Option Job) (r : Result (Option Report) Denial) → Cut sheet piece rest → number ≡ n → next ≡ n + 1 → o ≡ job_of (line_of piece) → s' ≡ (leads s o).0 → replied r ≡ (leads s o).1 → printed n s (lines_of sheet) ≡ shown number (replied r) ++ printed next s' (lines_of rest)
printed_from sheet piece rest n number next s s' o r cut at after is sets reply =
    ap (printed n s) cut.lines
    ∙ ap (λ q. shown n (leads s q).1 ++ printed (n + 1) (leads s q).0 (lines_of rest)) (sym is)
    ∙ ap (λ q. shown n q ++ printed (n + 1) (leads s o).0 (lines_of rest)) (sym reply)
    ∙ ap (λ q. shown n (replied r) ++ printed (n + 1) q (lines_of rest)) (sym sets)
    ∙ ap (λ q. shown q (replied r) ++ printed (n + 1) s' (lines_of rest)) (sym at)
    ∙ ap (λ q. shown number (replied r) ++ printed q s' (lines_of rest)) (sym after)

-- what comes first moves to what is written
pub moved : (front front' bytes later whole goal : List ℕ) → front' ≡ front ++ bytes → whole ≡ bytes ++ later → front ++ whole ≡ goal → front' ++ later ≡ goal
moved front front' bytes later whole goal grows is all = ap (λ q. q ++ later) grows ∙ append_assoc front bytes later ∙ ap (λ q. front ++ q) (sym is) ∙ all
