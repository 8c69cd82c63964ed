-- What an opened readout's questions come to, and what an opening on a logger's ends can be denied for. Assumes nothing.
use Rattle.std.proofs.Common.{◌≡◌, ℕ, ◌<◌, Bool, true, false, cond, eqb, ltb, [], ◌∷◌, Some, None, Ok, sym, refl, ap, ◌∙◌, subst, arith}
use Rattle.std.proofs.lemmas.Bool.{le-ltb, ne_eqb, or_from}
use Rattle.std.specs.Option.{option_map}
use Rattle.denials.specs.declared.Denial.{Denial}
use Rattle.denials.specs.Bounds.{bad_span, bad_budget}
use Rattle.denials.specs.Checks.{Decided, first}
use Rattle.denials.specs.Told.{told}
use Rattle.loggers.specs.Meaning.{Sound}
use Rattle.tables.specs.Log.{SharpLimits}
use Rattle.tables.specs.Plan.{Plan, Lawful}
use Rattle.tables.specs.Table.{Table}
use Rattle.tables.proofs.Runs.{lawful_asks_all}
use Rattle.readout.specs.Calls.{open_denied, opened, summary}
use Rattle.readout.specs.declared.events.Summary.{Summary}
use Rattle.readout.specs.Views.{View}
use Rattle.bench.specs.declared.running.Ran.{Ran}
use Rattle.bench.proofs.Continuing.{fresh_is_log}
use Rattle.bench.proofs.Measuring.{budget_below}
use Rattle.bench.proofs.Replaying.{replay}
use Rattle.bench.specs.Runs.{Completed, RanOn, budget_denied, run_denied}

-- on a logger's span and ends only the budget can stand in the way of an opening
only_budget : (t : Table) (N n : ℕ) → Sound t N → option_map told (open_denied N (t 0) (t N) n) ≡ budget_denied N n
only_budget t N n s =
    let span : bad_span N ≡ false = or_from (eqb N 0) (ltb 1000000 N) (ne_eqb N 0 (omega (arith, s.0))) (le-ltb 1000000 N s.1) in
    let ends : ltb (t N) (t 0) ≡ false = le-ltb (t N) (t 0) (s.2 0 N (omega arith) (omega arith) (omega arith)) in
    rw (span, ends) (told_budget (bad_budget N n))
  where
    told_budget : (b : Bool) → option_map told (cond b (Some Denial.Budget) None) ≡ cond b (Some (3, [])) None
    told_budget true = refl
    told_budget false = refl

module _ (plan : Plan) (lawful : Lawful plan) (t : Table) (N n m : ℕ) (sound : Sound t N) where
  -- a completed run asked all its questions
  ran_on : n < N → (w : View) → Completed plan t (opened N (t 0) (t N) n m) w → (s : Summary) → s ≡ summary w → SharpLimits w.points s.low s.high → RanOn plan t N n m w (record { asked = s.answers; low = s.low; high = s.high })
  ran_on few w c s told_so limits =
      let all = lawful_asks_all plan lawful t N n sound.2 few c.questions w.points c.run in
      let none : w.left ≡ 0 = omega (arith, c.left, all.count) in
      let is : w ≡ record { points = w.points; left = 0; mark = m; out = None } = λ i. record { points = w.points; left = none i; mark = c.mark i; out = c.rests i } in
      let start = fresh_is_log t N sound in
      let again = replay plan lawful t N sound.2 m start.0 start.1 c.run in
      record {
        questions = c.questions;
        run = c.run;
        asked = omega (arith, ap (λ k. k.answers) told_so, all.points, all.count);
        all = all.count;
        limits = limits;
        view = is;
        calls = is ∙ ap (λ k. record { points = w.points; left = k; mark = m; out = None }) (omega (arith, all.count)) ∙ sym again.0;
        undenied = again.1;
      }

  -- so a run from an accepted opening is decided, where the line slept
  pub ran_so :
      (awake : Bool) → awake ≡ false → (N' a b : ℕ) → N' ≡ N → a ≡ t 0 → b ≡ t N → (v : View) (Q : Type 0) →
      Decided {X = Unit {0}} {E = Denial} told (option_map told (open_denied N' a b n)) (Ok tt) (λ _. v ≡ opened N' a b n m) Q →
      (w : View) → Completed plan t v w → (s : Summary) → s ≡ summary w → SharpLimits w.points s.low s.high → (Q' : Type 0) →
      Decided {X = Ran} {E = Denial} told (run_denied awake N n) (Ok (record { asked = s.answers; low = s.low; high = s.high })) (RanOn plan t N n m w) Q'
  ran_so awake asleep N' a b e f g v Q did w c s told_so limits Q' =
      rw asleep (go (bad_budget N n) refl
      (subst (λ o. Decided {X = Unit {0}} {E = Denial} told o (Ok tt) (λ _. v ≡ opened N (t 0) (t N) n m) Q) (only_budget t N n sound)
      (subst (λ (k : ℕ × ℕ × ℕ). Decided {X = Unit {0}} {E = Denial} told (option_map told (open_denied k.0 k.1 k.2 n)) (Ok tt) (λ _. v ≡ opened k.0 k.1 k.2 n m) Q) (λ i. (e i, f i, g i)) did)))
    where
      go : (bad : Bool) → bad ≡ bad_budget N n → Decided {X = Unit {0}} {E = Denial} told (first ((bad, (3, [])) ∷ [])) (Ok tt) (λ _. v ≡ opened N (t 0) (t N) n m) Q → Decided {X = Ran} {E = Denial} told (first ((bad, (3, [])) ∷ [])) (Ok (record { asked = s.answers; low = s.low; high = s.high })) (RanOn plan t N n m w) Q'
      go true is h = absurd h
      go false is h = ran_on (budget_below N n sound.0 (sym is)) w (subst (λ u. Completed plan t u w) h c) s told_so limits
