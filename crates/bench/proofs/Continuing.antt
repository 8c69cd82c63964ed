-- A run so far, and what completes it. Assumes nothing.
use Rattle.std.proofs.Common.{◌≡◌, ℕ, zero, suc, ◌+◌, ◌-◌, ◌<◌, ◌≤◌, List, [], ◌∷◌, length, Some, None, sym, refl, subst, arith}
use Rattle.loggers.specs.Meaning.{Sound}
use Rattle.tables.specs.declared.points.Point.{Point}
use Rattle.tables.specs.Log.{IsLog, Agrees, fresh}
use Rattle.tables.specs.Plan.{Plan, Lawful}
use Rattle.tables.specs.Run.{Run}
use Rattle.tables.specs.Run.Run.{spent, done, asks}
use Rattle.tables.specs.Table.{Table, NeverFalls}
use Rattle.tables.proofs.Runs.{says, answer_stays}
use Rattle.readout.specs.Views.{View}
use Rattle.bench.specs.Runs.{Ready, Completed, asked}

-- from the view `start` to the view v, a number of questions were asked; whatever completes the run from v completes the whole
pub record Sofar (plan : Plan) (t : Table) (N : ℕ) (start v : View) : Type 0 where
  pub asked : ℕ
  pub rests : v.out ≡ None
  pub is_log : IsLog N v.points
  pub agrees : Agrees t v.points
  pub left : v.left + asked ≡ start.left
  pub mark : v.mark ≡ start.mark
  pub onward : (xs : List ℕ) (end : List Point) → Run plan t v.left v.points xs end → (ys : List ℕ) × Run plan t start.left start.points ys end × (length ys ≡ asked + length xs)

-- the ends of a logger's table are a log that agrees with it
pub fresh_is_log : (t : Table) (N : ℕ) → Sound t N → IsLog N (fresh N (t 0) (t N)) × Agrees t (fresh N (t 0) (t N))
fresh_is_log t N s = ((refl, refl, (omega (arith, s.0), s.2 0 N (omega arith) (omega arith) (omega arith), tt)), (refl, (refl, tt)))

module _ {plan : Plan} {t : Table} {N : ℕ} {start v : View} (lawful : Lawful plan) (rises : NeverFalls t 0 N) (s : Sofar plan t N start v) where
  -- what the plan answers may be asked
  pub ready : (x : ℕ) → 0 < v.left → Some x ≡ plan v.points → Ready t N v x
  ready x some e =
      let law = says plan lawful N v.points (Some x) s.is_log (sym e) in
      record { rests = s.rests; left = some; is_log = s.is_log; agrees = s.agrees; inner = law.0; new = law.1 }

  -- one question more
  pub one_more : (x : ℕ) (w : View) → 0 < v.left → Some x ≡ plan v.points → w ≡ asked v x (t x) → Sofar plan t N start w
  one_more x w some e is =
      let stays = answer_stays plan lawful t N rises v.points x s.is_log s.agrees (sym e) in
      let next : Sofar plan t N start (asked v x (t x)) = record {
        asked = s.asked + 1;
        rests = refl;
        is_log = stays.0;
        agrees = stays.1;
        left = omega (arith, s.left);
        mark = s.mark;
        onward = λ xs end r.
            let whole = s.onward (x ∷ xs) end (subst (λ n. Run plan t n v.points (x ∷ xs) end) {x = suc (v.left - 1)} {y = v.left} (omega arith) (asks (sym e) r)) in
            (whole.0, whole.1, omega (arith, whole.2));
      } in
      subst (λ u. Sofar plan t N start u) (sym is) next

  finish : Run plan t v.left v.points [] v.points → Completed plan t start v
  finish r =
      let whole = s.onward [] v.points r in
      record { questions = whole.0; run = whole.1; left = omega (arith, whole.2, s.left); mark = s.mark; rests = s.rests }

  -- no question is left
  pub all_spent : v.left ≤ 0 → Completed plan t start v
  all_spent h = finish (subst (λ n. Run plan t n v.points [] v.points) {x = zero} {y = v.left} (omega arith) spent)

  -- the plan has nothing to ask
  pub all_done : 0 < v.left → None ≡ plan v.points → Completed plan t start v
  all_done h e = finish (subst (λ n. Run plan t n v.points [] v.points) {x = suc (v.left - 1)} {y = v.left} (omega arith) (done (sym e)))
