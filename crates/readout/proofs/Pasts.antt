-- The law of pasts. Assumes nothing.
use Rattle.std.proofs.Common.{◌≡◌, ℕ, ◌+◌, ◌<◌, ◌≤◌, eqb, ltb, List, [], ◌∷◌, length, None, refl, arith}
use Rattle.std.proofs.lemmas.Bool.{or_parts, ltb-false, eqb-false}
use Rattle.denials.specs.Bounds.{bad_span}
use Rattle.tables.specs.Log.{Agrees}
use Rattle.tables.specs.Table.{diagonal}
use Rattle.tables.proofs.Steep.{diagonal_floor}
use Rattle.readout.specs.declared.events.Event.{Event}
use Rattle.readout.specs.Calls.{open_denied, opened, stepped}
use Rattle.readout.specs.Out.{tickets}
use Rattle.readout.specs.Past.{past, after, is_take, is_answer, is_withdraw, count, AllOnDiagonal, History}
use Rattle.readout.specs.Views.{View}
use Rattle.readout.proofs.Clear.{passed}
use Rattle.readout.proofs.Steps.{Sound, moves}

-- what the events of a past from v on count for
record Went (N A B : ℕ) (v : View) (es : List Event) : Type 0 where
  sound : Sound N A B (after v es)
  points : length (after v es).points ≡ length v.points + count is_answer (past v es)
  left : (after v es).left + count is_take (past v es) ≡ v.left + count is_withdraw (past v es)
  out : tickets (after v es).out + count is_answer (past v es) + count is_withdraw (past v es) ≡ tickets v.out + count is_take (past v es)
  agrees : (k : ℕ) → Agrees (diagonal k) v.points → AllOnDiagonal k (past v es) → Agrees (diagonal k) (after v es).points

went : (N A B : ℕ) (v : View) → Sound N A B v → (es : List Event) → Went N A B v es
went N A B v s [] = record { sound = s; points = omega arith; left = omega arith; out = omega arith; agrees = λ k h _. h }
went N A B v s (e ∷ es) =
    let m = moves N A B v s e in
    let w = went N A B (stepped v e).0 m.sound es in
    record {
      sound = w.sound;
      points = omega arith;
      left = omega arith;
      out = omega arith;
      agrees = λ k h d. w.agrees k (m.agrees k h d.0) d.1;
    }

-- an accepted opening has a span above 0, and ends in order
opens : (N A B n : ℕ) → open_denied N A B n ≡ None → (0 < N) × (A ≤ B)
opens N A B n e =
    let one = passed (bad_span N) _ _ e in
    let two = passed (ltb B A) _ _ one.1 in
    let span = or_parts (eqb N 0) (ltb 1000000 N) one.0 in
    (omega (arith, eqb-false N 0 span.0), ltb-false B A two.0)

pub history : History
history N A B n m e events =
    let v = opened N A B n m in
    let ok = opens N A B n e in
    let w = went N A B v (record { log = (refl, refl, (ok.0, ok.1, tt)); ends = (refl, refl); new = refl }) events in
    let size : length (after v events).points ≡ count is_answer (past v events) + 2 = omega (arith, w.points) in
    record {
      counts = omega (arith, size);
      left = w.left;
      out = omega (arith, w.out);
      budget = omega (arith, w.left, w.out);
      log = w.sound.log;
      ends = w.sound.ends;
      points = size;
      floor = λ c a b d. diagonal_floor c N (count is_answer (past v events)) _ w.sound.log (w.agrees c (omega arith, (omega arith, tt)) d) size;
    }
