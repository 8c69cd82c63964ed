-- A question that may be asked is answered without a denial. Assumes nothing.
use Rattle.std.proofs.Common.{◌≡◌, ℕ, ◌≤◌, false, not, eqb, ltb, leb, List, Some, None, Ok, Err, Option, Result, IsOk, rules, sym, refl, ap, ◌∙◌, subst, arith}
use Rattle.std.proofs.lemmas.Bool.{le-ltb, le-leb, eq-eqb, or_from, and_from, cond-true}
use Rattle.std.specs.Option.{option_map}
use Rattle.denials.specs.declared.Denial.{Denial}
use Rattle.denials.proofs.Passing.{promised}
use Rattle.denials.specs.Checks.{Decided}
use Rattle.denials.specs.Told.{told}
use Rattle.loggers.specs.Meaning.{counted}
use Rattle.tables.specs.Table.{Table, NeverFalls}
use Rattle.tables.specs.Log.{low_table, high_table}
use Rattle.tables.proofs.Limits.{between}
use Rattle.readout.specs.Calls.{taken, answer_denied, out_of_order}
use Rattle.readout.specs.declared.tickets.Returned.{Returned}
use Rattle.readout.specs.declared.tickets.Ticket.{Ticket}
use Rattle.readout.specs.Tickets.{ticket_of, is_for, told_back}
use Rattle.readout.specs.Views.{View}
use Rattle.bench.specs.Runs.{Ready}

-- the table's value lies between the neighbours
in_order : (t : Table) (N : ℕ) (v : View) (x : ℕ) → NeverFalls t 0 N → Ready t N v x → out_of_order v.points x (t x) ≡ false
unfolding out_of_order
in_order t N v x rises r =
    let lies = between N v.points t r.is_log rises r.agrees x (omega (arith, r.inner.1)) in
    or_from (ltb (t x) (low_table v.points x)) (ltb (high_table v.points x) (t x)) (le-ltb (t x) (low_table v.points x) lies.0) (le-ltb (high_table v.points x) (t x) lies.1)

same_ticket : (m x : ℕ) → not (is_for (ticket_of m x) m x) ≡ false
same_ticket m x = ap not (and_from (eqb m m) (eqb x x) (eq-eqb m m refl) (eq-eqb x x refl))

-- so nothing stands in the way of the answer
pub answers : (t : Table) (N : ℕ) (v : View) (x : ℕ) → NeverFalls t 0 N → Ready t N v x → answer_denied (taken v x) (ticket_of v.mark x) (t x) ≡ None
answers t N v x rises r = rw (same_ticket v.mark x, in_order t N v x rises r) refl

counted_is : (t : Table) (N x y : ℕ) → x ≤ N → Some y ≡ counted t N x → y ≡ t x
counted_is t N x y h e =
    let f : Some y ≡ Some (t x) = e ∙ cond-true (leb x N) (Some (t x)) None (le-leb x N h) in
    cc

-- and the ticket does not come back
pub never_back :
    (t : Table) (N : ℕ) (v : View) (x : ℕ) → NeverFalls t 0 N → Ready t N v x →
    (o : Option (ℕ × List ℕ)) (took : Result Ticket Denial) (w : View) (R : Type 0) → Decided told o took (λ k. (k ≡ ticket_of v.mark x) × (w ≡ taken v x)) R → (ticket : Ticket) → took ≡ Ok ticket →
    (told_by : Option ℕ) → told_by ≡ counted t N x → (y : ℕ) → told_by ≡ Some y →
    (r : Result (Unit {0}) Returned) (P : Unit {0} → Type 0) (Q : Type 0) → Decided told_back (option_map told_back (answer_denied w ticket y)) r P Q → IsOk r
never_back t N v x rises r o took w R gave ticket g told_by k y l back P Q h =
    let (e, f) = promised told o ticket (λ k. (k ≡ ticket_of v.mark x) × (w ≡ taken v x)) R (subst (λ u. Decided told o u (λ k. (k ≡ ticket_of v.mark x) × (w ≡ taken v x)) R) g gave) in
    let value = counted_is t N x y (omega (arith, r.inner.1)) (sym l ∙ k) in
    let none : answer_denied w ticket y ≡ None = (λ i. answer_denied (f i) (e i) (value i)) ∙ answers t N v x rises r in
    go back (subst (λ (o : Option Returned). Decided told_back (option_map told_back o) back P Q) none h)
  where
    go : (r : Result (Unit {0}) Returned) → Decided told_back None r P Q → IsOk r
    go (Ok u) h = search rules
    go (Err e) h = absurd h
