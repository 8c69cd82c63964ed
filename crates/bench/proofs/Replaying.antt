-- The calls of a run on its readout, none of which is denied. Assumes nothing.
use Rattle.std.proofs.Common.{◌≡◌, ℕ, suc, ◌-◌, false, eqb, leb, List, ◌∷◌, length, Some, None, Ok, Result, sym, refl, ap, ◌∙◌, subst, arith}
use Rattle.std.proofs.lemmas.Bool.{ne_eqb, lt-leb, or_from}
use Rattle.tables.specs.declared.points.Point.{Point}
use Rattle.tables.specs.Log.{IsLog, Agrees, span_of, insert}
use Rattle.tables.specs.Plan.{Plan, Lawful}
use Rattle.tables.specs.Run.{Run}
use Rattle.tables.specs.Run.Run.{spent, done, asks}
use Rattle.tables.specs.Table.{Table, NeverFalls}
use Rattle.tables.proofs.Runs.{says, answer_stays}
use Rattle.tables.proofs.Unknown.{span_of_log}
use Rattle.readout.specs.declared.events.Event.{Event}
use Rattle.readout.specs.declared.events.Event.TheVariants.{Take, Answer}
use Rattle.readout.specs.declared.events.Outcome.{Outcome}
use Rattle.readout.specs.declared.events.Outcome.TheVariants.{Given, Answered}
use Rattle.readout.specs.declared.events.Refusal.{Refusal}
use Rattle.readout.specs.declared.events.Refusal.TheVariants.{Denied, Back}
use Rattle.readout.specs.Calls.{take_denied, not_inner, taken, unless, stepped}
use Rattle.readout.specs.Past.{past, after, accepted}
use Rattle.readout.specs.Tickets.{ticket_of}
use Rattle.readout.specs.Views.{View}
use Rattle.bench.specs.Runs.{Ready, asked, askings, NoneDenied}
use Rattle.bench.proofs.Answering.{answers}

-- nothing stands in the way of the ticket
takes : (t : Table) (N : ℕ) (v : View) (x : ℕ) → Ready t N v x → take_denied v x ≡ None
takes t N v x r =
    let span = span_of_log N v.points r.is_log in
    let inner : not_inner v.points x ≡ false = or_from (eqb x 0) (leb (span_of v.points) x) (ne_eqb x 0 (omega (arith, r.inner.0))) (lt-leb (span_of v.points) x (omega (arith, r.inner.1, span))) in
    rw (r.rests, inner, r.new, ne_eqb v.left 0 (omega (arith, r.left))) refl

-- two calls that are accepted, and what comes after them
two_steps :
    (v : View) (e f : Event) (es : List Event) (v₁ v₂ : View) (o₁ o₂ : Outcome) →
    stepped v e ≡ (v₁, Ok o₁) → stepped v₁ f ≡ (v₂, Ok o₂) → NoneDenied (past v₂ es) →
    (after v (e ∷ f ∷ es) ≡ after v₂ es) × NoneDenied (past v (e ∷ f ∷ es))
two_steps v e f es v₁ v₂ o₁ o₂ s₁ s₂ rest =
    let both : stepped (stepped v e).0 f ≡ (v₂, Ok o₂) = ap (λ (p : View × Result Outcome Refusal). stepped p.0 f) s₁ ∙ s₂ in (
      ap (λ (p : View × Result Outcome Refusal). after p.0 es) both,
      (ap (λ (p : View × Result Outcome Refusal). accepted p.1) s₁, (ap (λ (p : View × Result Outcome Refusal). accepted p.1) both, subst (λ (p : View × Result Outcome Refusal). NoneDenied (past p.0 es)) (sym both) rest)),
    )

-- one question, asked and answered
one_asked : (t : Table) (N : ℕ) → NeverFalls t 0 N → (v : View) (x : ℕ) (xs : List ℕ) → Ready t N v x → NoneDenied (past (asked v x (t x)) (askings t v.mark xs)) → (after v (askings t v.mark (x ∷ xs)) ≡ after (asked v x (t x)) (askings t v.mark xs)) × NoneDenied (past v (askings t v.mark (x ∷ xs)))
one_asked t N rises v x xs r rest =
    two_steps v (Take x) (Answer (ticket_of v.mark x) (t x)) (askings t v.mark xs) (taken v x) (asked v x (t x)) (Given (ticket_of v.mark x)) Answered
    (ap (λ o. unless o Denied v (taken v x, Given (ticket_of v.mark x))) (takes t N v x r))
    (ap (λ o. unless o Back (taken v x) (asked v x (t x), Answered)) (answers t N v x rises r)) rest

-- the readout at rest with these points and questions left
abbrev resting : List Point → ℕ → ℕ → View
resting log n m = record { points = log; left = n; mark = m; out = None }

-- a run, replayed on a readout
pub replay : (plan : Plan) → Lawful plan → (t : Table) (N : ℕ) → NeverFalls t 0 N → (m : ℕ) {n : ℕ} {log : List Point} {xs : List ℕ} {stop : List Point} → IsLog N log → Agrees t log → Run plan t n log xs stop → (after (resting log n m) (askings t m xs) ≡ resting stop (n - length xs) m) × NoneDenied (past (resting log n m) (askings t m xs))
replay plan lawful t N rises m is agrees (spent {log = log}) = (ap (λ k. resting log k m) (omega arith), tt)
replay plan lawful t N rises m is agrees (done {n = n} {log = log} e) = (ap (λ k. resting log k m) (omega arith), tt)
replay plan lawful t N rises m is agrees (asks {n = n} {x = x} {log = log} {end = stop} {xs = xs} e r) =
    let law = says plan lawful N log (Some x) is e in
    let stays = answer_stays plan lawful t N rises log x is agrees e in
    let rest = replay plan lawful t N rises m stays.0 stays.1 r in
    let v = resting log (suc n) m in
    let ready : Ready t N v x = record { rests = refl; left = omega arith; is_log = is; agrees = agrees; inner = law.0; new = law.1 } in
    let down : suc n - 1 ≡ n = omega arith in
    let one = one_asked t N rises v x xs ready (subst (λ k. NoneDenied (past (resting (insert (record { at = x; value = t x }) log) k m) (askings t m xs))) (sym down) rest.1) in (
      one.0 ∙ ap (λ k. after (resting (insert (record { at = x; value = t x }) log) k m) (askings t m xs)) down ∙ rest.0 ∙ ap (λ k. resting stop k m) {x = n - length xs} {y = suc n - suc (length xs)} (omega arith),
      one.1,
    )
