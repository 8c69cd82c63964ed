-- What one call keeps and what it changes. Assumes nothing.
use Rattle.std.proofs.Common.{◌≡◌, ℕ, ◌+◌, true, false, List, [], ◌∷◌, length, Some, None, Ok, Err, Option, sym, refl, ap, subst, arith}
use Rattle.tables.specs.declared.points.Point.{Point}
use Rattle.tables.specs.Log.{IsLog, span_of, Agrees, has}
use Rattle.tables.specs.Table.{Inner, diagonal}
use Rattle.tables.proofs.Inserts.{insert_is_log, insert-length, insert_agrees}
use Rattle.readout.specs.declared.events.Event.{Event}
use Rattle.readout.specs.declared.events.Event.TheVariants.{Take, Answer, Withdraw, Limits}
use Rattle.readout.specs.declared.events.Outcome.{Outcome}
use Rattle.readout.specs.declared.events.Outcome.TheVariants.{Given, Answered, Withdrawn}
use Rattle.readout.specs.declared.events.Refusal.{Refusal}
use Rattle.readout.specs.declared.events.Refusal.TheVariants.{Denied, Back}
use Rattle.readout.specs.declared.tickets.Ticket.{Ticket}
use Rattle.readout.specs.Calls.{take_denied, taken, answer_denied, answered, withdraw_denied, withdrawn, not_out, out_of_order, unless, stepped}
use Rattle.readout.specs.Out.{tickets, asks_new}
use Rattle.readout.specs.Past.{Call, accepted, is_take, is_answer, is_withdraw, one, OnDiagonal, FromTo}
use Rattle.readout.specs.Tickets.{ticket_of}
use Rattle.readout.specs.Views.{View}
use Rattle.readout.proofs.Clear.{passed, take_clear, is_out}
use Rattle.readout.proofs.Ends.{ends_kept}
use Rattle.readout.proofs.Noting.{unknown_parts, in_order}

span_is : (n : ℕ) (log : List Point) → IsLog n log → span_of log ≡ n
span_is n [] is = absurd is
span_is n (p ∷ ps) is = is.1

-- what every view of a readout opened with span N and ends A and B keeps
pub record Sound (N A B : ℕ) (v : View) : Type 0 where
  pub log : IsLog N v.points
  pub ends : FromTo N A B v.points
  pub new : asks_new v.out v.points ≡ true

-- what a call that led from v to w counts for
pub record Moved (N A B : ℕ) (v : View) (c : Call) (w : View) : Type 0 where
  pub sound : Sound N A B w
  pub points : length w.points ≡ length v.points + one is_answer c
  pub left : w.left + one is_take c ≡ v.left + one is_withdraw c
  pub out : tickets w.out + one is_answer c + one is_withdraw c ≡ tickets v.out + one is_take c
  pub agrees : (k : ℕ) → Agrees (diagonal k) v.points → (accepted c.1 ≡ true → OnDiagonal k c.0) → Agrees (diagonal k) w.points

module _ (N A B : ℕ) (v : View) (s : Sound N A B v) where
  -- a call that counts for nothing
  still : (c : Call) → one is_take c ≡ 0 → one is_answer c ≡ 0 → one is_withdraw c ≡ 0 → Moved N A B v c v
  still c t a w = record { sound = s; points = omega arith; left = omega arith; out = omega arith; agrees = λ k h _. h }

  -- an accepted take
  takes : (x : ℕ) → take_denied v x ≡ None → Moved N A B v (Take x, Ok (Given (ticket_of v.mark x))) (taken v x)
  takes x e =
      let clear = take_clear v x e in
      record {
        sound = record { log = s.log; ends = s.ends; new = clear.1 };
        points = omega arith;
        left = omega (arith, clear.2);
        out = omega (arith, ap tickets clear.0);
        agrees = λ k h _. h;
      }

  -- the ticket out asks for an inner argument that is not in the log
  asked : (x : ℕ) → v.out ≡ Some x → Inner N x × (has x v.points ≡ false)
  asked x e =
      let parts = unknown_parts v.points x (subst (λ o. asks_new o v.points ≡ true) e s.new) in
      (omega (arith, parts.0, span_is N v.points s.log), parts.1)

  -- an accepted answer
  answers : (t : Ticket) (y : ℕ) → answer_denied v t y ≡ None → Moved N A B v (Answer t y, Ok Answered) (answered v t.at y)
  answers t y e =
      let log = v.points in
      let x = t.at in
      let q : Point = record { at = x; value = y } in
      let one = passed (not_out v t) _ _ e in
      let two = passed (out_of_order log x y) _ _ one.1 in
      let order = (in_order log x y).0 two.0 in
      let out = is_out v t one.0 in
      let new = asked x out in
      record {
        sound = record {
          log = insert_is_log N x y log s.log new.0 new.1 order.0 order.1;
          ends = ends_kept N A B q log s.log new.0 s.ends;
          new = refl;
        };
        points = insert-length q log;
        left = omega arith;
        out = omega (arith, ap tickets out);
        agrees = λ k h d. insert_agrees (diagonal k) q log (sym (d refl)) h;
      }

  -- an accepted withdrawal
  withdraws : (t : Ticket) → withdraw_denied v t ≡ None → Moved N A B v (Withdraw t, Ok Withdrawn) (withdrawn v)
  withdraws t e =
      let out = is_out v t (passed (not_out v t) _ _ e).0 in
      record {
        sound = record { log = s.log; ends = s.ends; new = refl };
        points = omega arith;
        left = omega arith;
        out = omega (arith, ap tickets out);
        agrees = λ k h _. h;
      }

  -- a call with its checks moves as it does where one fails, or as it does where none does
  either : {E : Type 0} (o : Option E) (tell : E → Refusal) (e : Event) (done : View × Outcome) → ((d : E) → Moved N A B v (e, Err (tell d)) v) → (o ≡ None → Moved N A B v (e, Ok done.1) done.0) → let p = unless o tell v done in Moved N A B v (e, p.1) p.0
  either (Some d) tell e done fails clear = fails d
  either None tell e done fails clear = clear refl

  -- every call counts for what it gave
  pub moves : (e : Event) → Moved N A B v (e, (stepped v e).1) (stepped v e).0
  moves (Take x) = either (take_denied v x) Denied (Take x) _ (λ d. still (Take x, Err (Denied d)) refl refl refl) (takes x)
  moves (Answer t y) = either (answer_denied v t y) Back (Answer t y) _ (λ r. still (Answer t y, Err (Back r)) refl refl refl) (answers t y)
  moves (Withdraw t) = either (withdraw_denied v t) Back (Withdraw t) _ (λ r. still (Withdraw t, Err (Back r)) refl refl refl) (withdraws t)
  moves Limits = still (Limits, (stepped v Limits).1) refl refl refl
