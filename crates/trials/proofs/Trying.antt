-- What follows from a take, and from the ticket that it gave being brought. Assumes nothing.
use Rattle.std.proofs.Common.{◌≡◌, ℕ, ◌+◌, ◌-◌, Bool, true, false, cond, not, eqb, [], ◌∷◌, is_some, Some, None, Ok, Err, Option, Result, sym, refl, ap, ◌∙◌, subst, arith}
use Rattle.std.specs.Option.{option_map, option_or}
use Rattle.std.proofs.lemmas.Bool.{true≢false, and_from, and_parts, not-false, eq-eqb, eqb-true, eqb-false}
use Rattle.denials.specs.Checks.{Decided}
use Rattle.denials.specs.declared.Denial.{Denial}
use Rattle.denials.specs.declared.Denial.TheVariants.{NotThisTicket, OutOfOrder}
use Rattle.denials.specs.Told.{told}
use Rattle.readout.specs.declared.tickets.Returned.{Returned}
use Rattle.readout.specs.declared.tickets.Ticket.{Ticket}
use Rattle.readout.specs.Calls.{take_denied, taken, withdrawn, not_inner, not_out, out_of_order}
use Rattle.readout.specs.Tickets.{ticket_of, is_for, told_back, returned}
use Rattle.readout.specs.Views.{View}
use Rattle.readout.proofs.Clear.{passed}
use Rattle.tables.specs.Log.{has}
use Rattle.trials.specs.declared.tries.Purpose.{Purpose}
use Rattle.trials.specs.declared.tries.Purpose.TheVariants.{Answer, Withdraw}
use Rattle.trials.specs.Tries.{number, number_back, bring_denied, try_denied, cross_denied}

-- a denial whose number is known
pub denied_so : {X : Type 0} (o : Option ℕ) (e : Denial) (P : X → Type 0) (Q : Type 0) → o ≡ Some (number e) → Q → Decided number o (Err e) P Q
denied_so o e P Q is q = rw is (refl, q)

-- a call that nothing stands in the way of
pub accepted_so : {X : Type 0} (o : Option ℕ) (x : X) (P : X → Type 0) (Q : Type 0) → o ≡ None → P x → Decided number o (Ok x) P Q
accepted_so o x P Q is p = rw is p

-- a denied take tells its number
pub take_number : (o : Option Denial) (e : Denial) (P : Ticket → Type 0) (Q : Type 0) → Decided told (option_map told o) (Err e) P Q → (option_map number o ≡ Some (number e)) × Q
take_number (Some d) e P Q h = (ap (λ n. Some n.0) (sym h.0), h.1)
take_number None e P Q h = absurd h

pub take_failed : (o : Option Denial) (r : Result Ticket Denial) (e : Denial) (P : Ticket → Type 0) (Q : Type 0) → r ≡ Err e → Decided told (option_map told o) r P Q → (option_map number o ≡ Some (number e)) × Q
take_failed o r e P Q is h = take_number o e P Q (subst (λ r. Decided told (option_map told o) r P Q) is h)

-- so does a call that begins with it
pub denied_first : (v : View) (x : ℕ) (rest : Option ℕ) (e : Denial) (P : Ticket → Type 0) (Q : Type 0) → Decided told (option_map told (take_denied v x)) (Err e) P Q → (option_or (option_map number (take_denied v x)) rest ≡ Some (number e)) × Q
denied_first v x rest e P Q h =
    let t = take_number (take_denied v x) e P Q h in
    (ap (λ o. option_or o rest) t.0, t.1)

-- a ticket for x that a readout gave: nothing stood in the way at the view v, and u is the view with it out
pub record Gave (v : View) (x : ℕ) (t : Ticket) (u : View) : Type 0 where
  pub clear : take_denied v x ≡ None
  pub ticket : t ≡ ticket_of v.mark x
  pub out : u ≡ taken v x

pub gave : (v : View) (x : ℕ) (t : Ticket) (u : View) (Q : Type 0) → Decided told (option_map told (take_denied v x)) (Ok t) (λ k. (k ≡ ticket_of v.mark x) × (u ≡ taken v x)) Q → Gave v x t u
gave v x t u Q = go (take_denied v x) refl
  where
    go : (o : Option Denial) → take_denied v x ≡ o → Decided told (option_map told o) (Ok t) (λ k. (k ≡ ticket_of v.mark x) × (u ≡ taken v x)) Q → Gave v x t u
    go (Some d) e h = absurd h
    go None e h = record { clear = e; ticket = h.0; out = h.1 }

is_none : (o : Option ℕ) → is_some o ≡ false → o ≡ None
is_none (Some x) e = absurd (true≢false e)
is_none None e = refl

-- a take and a withdrawal leave what was
restored : (v : View) (x : ℕ) → take_denied v x ≡ None → withdrawn (taken v x) ≡ v
restored v x e =
    let one = passed (is_some v.out) _ _ e in
    let two = passed (not_inner v.points x) _ _ one.1 in
    let three = passed (has x v.points) _ _ two.1 in
    let four = passed (eqb v.left 0) _ _ three.1 in
    let left : v.left - 1 + 1 ≡ v.left = omega (arith, eqb-false v.left 0 four.0) in
    let out = sym (is_none v.out one.0) in
    λ i. record { points = v.points; left = left i; mark = v.mark; out = out i }

-- a ticket with the mark and the argument that are out
out_with : (v : View) (x : ℕ) (k : Ticket) → k.mark ≡ v.mark → k.at ≡ x → not_out (taken v x) k ≡ false
out_with v x k m a = ap not (and_from (eqb k.mark v.mark) (eqb k.at x) (eq-eqb _ _ m) (eq-eqb _ _ a))

-- a ticket that is out has the mark and the argument
with_out : (v : View) (x : ℕ) (k : Ticket) → not_out (taken v x) k ≡ false → (k.mark ≡ v.mark) × (k.at ≡ x)
with_out v x k e =
    let both = and_parts (eqb k.mark v.mark) (eqb k.at x) (not-false (is_for k v.mark x) e) in
    (eqb-true _ _ both.0, eqb-true _ _ both.1)

module _ {v : View} {x : ℕ} {t : Ticket} {u : View} (g : Gave v x t u) where
  -- the mark and the argument of the ticket
  abbrev mark_is : t.mark ≡ v.mark
  mark_is = ap (λ (k : Ticket). k.mark) g.ticket

  abbrev at_is : t.at ≡ x
  at_is = ap (λ (k : Ticket). k.at) g.ticket

  -- a ticket with the same mark and argument may be withdrawn
  pub may_withdraw : (k : Ticket) → k.mark ≡ t.mark → k.at ≡ t.at → not_out u k ≡ false
  may_withdraw k m a = ap (λ (w : View). not_out w k) g.out ∙ out_with v x k (m ∙ mark_is) (a ∙ at_is)

  -- and after that the readout shows what it showed
  pub as_before : (w : View) → w ≡ withdrawn u → w ≡ v
  as_before w e = e ∙ ap withdrawn g.out ∙ restored v x g.clear

-- a row of two checks that tells of one ticket
same_back : (b c : Bool) (r s : Returned) (t : Ticket) (d : Returned) → r.ticket ≡ t → s.ticket ≡ t → cond b (Some r) (cond c (Some s) None) ≡ Some d → d.ticket ≡ t
same_back true c r s t d f g e = let h : r ≡ d = cc in sym (ap (λ (k : Returned). k.ticket) h) ∙ f
same_back false true r s t d f g e = let h : s ≡ d = cc in sym (ap (λ (k : Returned). k.ticket) h) ∙ g
same_back false false r s t d f g e = absurd (let z : ◌≡◌ {A = ℕ} 0 1 = cc in omega arith)

-- the ticket that comes back is the one that was brought
back_is : (w : View) (t : Ticket) (p : Purpose) (d : Returned) → bring_denied w t p ≡ Some d → d.ticket ≡ t
back_is w t (Answer y) d e =
    same_back (not_out w t) (out_of_order w.points t.at y) (returned NotThisTicket t) (returned OutOfOrder t) t d refl refl e
back_is w t Withdraw d e = same_back (not_out w t) false (returned NotThisTicket t) (returned NotThisTicket t) t d refl refl e

-- a ticket that is accepted is the one that is out
pub brought_is_out : (w : View) (t : Ticket) (p : Purpose) → bring_denied w t p ≡ None → not_out w t ≡ false
brought_is_out w t (Answer y) e = (passed (not_out w t) _ _ e).0
brought_is_out w t Withdraw e = (passed (not_out w t) _ _ e).0

-- a ticket t that came back: the number of what stood in the way, and that it is the same ticket
pub record CameBack (o : Option Returned) (back : Returned) (t : Ticket) : Type 0 where
  pub tells : option_map number_back o ≡ Some (number_back back)
  pub mark : back.ticket.mark ≡ t.mark
  pub at : back.ticket.at ≡ t.at

came_back : (o : Option Returned) (back : Returned) (t : Ticket) (P : Unit {0} → Type 0) (Q : Type 0) → ((d : Returned) → o ≡ Some d → d.ticket ≡ t) → Decided told_back (option_map told_back o) (Err back) P Q → CameBack o back t × Q
came_back None back t P Q is h = absurd h
came_back (Some d) back t P Q is h =
    let tells : number_back back ≡ number_back d = ap (λ n. n.0) h.0 in
    let row : back.ticket.mark ∷ back.ticket.at ∷ [] ≡ d.ticket.mark ∷ d.ticket.at ∷ [] = ap (λ n. n.1) h.0 in
    let mark : back.ticket.mark ≡ d.ticket.mark = cc in
    let at : back.ticket.at ≡ d.ticket.at = cc in
    let same = is d refl in (
      record {
        tells = ap Some (sym tells);
        mark = mark ∙ ap (λ (k : Ticket). k.mark) same;
        at = at ∙ ap (λ (k : Ticket). k.at) same;
      },
      h.1,
    )

-- a ticket brought at the view w
module _ (w : View) (t : Ticket) (p : Purpose) (P : Unit {0} → Type 0) (Q : Type 0) where
  pub comes_back : (back : Returned) → Decided told_back (option_map told_back (bring_denied w t p)) (Err back) P Q → CameBack (bring_denied w t p) back t × Q
  comes_back back h = came_back (bring_denied w t p) back t P Q (back_is w t p) h

-- once the ticket is given, only the bringing can be denied
pub then_brought : {v : View} {x : ℕ} {t : Ticket} {u : View} (g : Gave v x t u) (w w' : View) (p : Purpose) → w' ≡ w → try_denied v x w p ≡ option_map number_back (bring_denied w' t p)
then_brought {v} {x} {t} {u} g w w' p e =
    (λ i. option_or (option_map number (g.clear i)) (option_map number_back (bring_denied w (ticket_of v.mark x) p)))
    ∙ sym (λ i. option_map number_back (bring_denied (e i) (g.ticket i) p))

-- while a ticket is out, no other is given
pub none_while_out : {v : View} {x : ℕ} {t : Ticket} {u : View} (g : Gave v x t u) (y : ℕ) → option_map number (take_denied u y) ≡ Some 4
none_while_out g y = ap (λ (w : View). option_map number (take_denied w y)) g.out

-- what a call in numbers decided
pub denied_was : (o : Option ℕ) (e : Denial) (P : Unit {0} → Type 0) (Q : Type 0) → Decided number o (Err e) P Q → (o ≡ Some (number e)) × Q
denied_was (Some n) e P Q h = (ap Some (sym h.0), h.1)
denied_was None e P Q h = absurd h

pub accepted_was : (o : Option ℕ) (P : Unit {0} → Type 0) (Q : Type 0) → Decided {E = Denial} number o (Ok tt) P Q → (o ≡ None) × P tt
accepted_was (Some n) P Q h = absurd h
accepted_was None P Q h = (refl, h)

-- where neither of two calls is denied
neither : {A B : Type 0} (f : A → ℕ) (g : B → ℕ) (a : Option A) (b : Option B) → option_or (option_map f a) (option_map g b) ≡ None → (a ≡ None) × (b ≡ None)
neither f g (Some a) b e = absurd (let z : ◌≡◌ {A = ℕ} 0 1 = cc in omega arith)
neither f g None (Some b) e = absurd (let z : ◌≡◌ {A = ℕ} 0 1 = cc in omega arith)
neither f g None None e = (refl, refl)

-- a readout that waits for y, with its own ticket k, and a ticket for x from the view v
module _ {w : View} {y : ℕ} {k : Ticket} {u : View} (g : Gave w y k u) (v : View) (x : ℕ) (p : Purpose) where
  -- once the own ticket is given, only the foreign one can be denied
  pub then_foreign : cross_denied v x w y p ≡ try_denied v x u p
  then_foreign =
      (λ i. option_or (option_map number (g.clear i)) (try_denied v x (taken w y) p))
      ∙ sym (λ i. try_denied v x (g.out i) p)

  -- where it is accepted, the two are alike, and so the own one is the foreign one
  pub own_is_foreign : try_denied v x u p ≡ None → (not_out (taken v x) k ≡ false) × (withdrawn (taken v x) ≡ v)
  own_is_foreign e =
      let both = neither number number_back (take_denied v x) (bring_denied u (ticket_of v.mark x) p) e in
      let out = brought_is_out u (ticket_of v.mark x) p both.1 in
      let same = with_out w y (ticket_of v.mark x) (sym (ap (λ (z : View). not_out z (ticket_of v.mark x)) g.out) ∙ out) in
      (out_with v x k (mark_is g ∙ sym same.0) (at_is g ∙ sym same.1), restored v x both.0)
