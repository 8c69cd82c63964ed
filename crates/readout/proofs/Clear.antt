-- What is known where no check of a call fails. Assumes nothing.
use Rattle.std.proofs.Common.{◌≡◌, ℕ, ◌<◌, Bool, true, false, cond, not, ◌&&◌, eqb, ltb, leb, is_some, Some, None, Option, sym, refl, ap, arith}
use Rattle.std.proofs.lemmas.Bool.{and_parts, and_from, or_parts, not-false, not_from_false, true≢false, leb-false, eqb-true, eqb-false, lt-ltb}
use Rattle.tables.specs.Log.{has, span_of}
use Rattle.tables.specs.Plan.{unknown}
use Rattle.readout.specs.declared.tickets.Ticket.{Ticket}
use Rattle.readout.specs.Calls.{take_denied, not_inner, not_out}
use Rattle.readout.specs.Tickets.{is_for}
use Rattle.readout.specs.Views.{View}

-- where no check of a row fails, neither the first does nor one of the rest
pub passed : {X : Type 0} (b : Bool) (x : X) (rest : Option X) → cond b (Some x) rest ≡ None → (b ≡ false) × (rest ≡ None)
passed true x rest e = absurd (let z : ◌≡◌ {A = ℕ} 0 1 = cc in omega arith)
passed false x rest e = (refl, e)

is_none : (o : Option ℕ) → is_some o ≡ false → o ≡ None
is_none (Some x) e = absurd (true≢false e)
is_none None e = refl

-- a take that is accepted finds no ticket out, asks what is unknown, and has a question left
pub take_clear : (v : View) (x : ℕ) → take_denied v x ≡ None → (v.out ≡ None) × (unknown v.points x ≡ true) × (0 < v.left)
take_clear v x e =
    let log = v.points in
    let one = passed (is_some v.out) _ _ e in
    let two = passed (not_inner log x) _ _ one.1 in
    let three = passed (has x log) _ _ two.1 in
    let four = passed (eqb v.left 0) _ _ three.1 in
    let inner = or_parts (eqb x 0) (leb (span_of log) x) two.0 in
    let pos : 0 < x = omega (arith, eqb-false x 0 inner.0) in (
      is_none v.out one.0,
      and_from (ltb 0 x && ltb x (span_of log)) (not (has x log))
          (and_from (ltb 0 x) (ltb x (span_of log)) (lt-ltb 0 x pos) (lt-ltb x (span_of log) (leb-false (span_of log) x inner.1)))
          (not_from_false (has x log) three.0),
      omega (arith, eqb-false v.left 0 four.0),
    )

-- a ticket that passes is the one out
pub is_out : (v : View) (t : Ticket) → not_out v t ≡ false → v.out ≡ Some t.at
is_out v t = go v.out
  where
    go : (o : Option ℕ) → elim o [ None ↦ true | Some x ↦ not (is_for t v.mark x) ] ≡ false → o ≡ Some t.at
    go None e = absurd (true≢false e)
    go (Some x) e =
        let both = and_parts (eqb t.mark v.mark) (eqb t.at x) (not-false (is_for t v.mark x) e) in
        ap Some (sym (eqb-true t.at x both.1))
