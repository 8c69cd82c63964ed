-- The figures of an accepted run are small. Assumes nothing.
use Rattle.std.proofs.Common.{◌≡◌, ℕ, ◌+◌, ◌*◌, ◌^◌, ◌<◌, ◌≤◌, Bool, true, false, [], ◌∷◌, List, Ok, sym, refl, ap, ◌∙◌, subst, arith}
use Rattle.std.proofs.lemmas.Nat.{mul-le}
use Rattle.std.proofs.lemmas.Bool.Decides.{nat_tests}
use Rattle.bench.specs.declared.running.Ran.{Ran}
use Rattle.bench.specs.Runs.{RanOn, budget_denied}
use Rattle.bench.proofs.Measuring.{budget_below}
use Rattle.denials.specs.Bounds.{bad_budget}
use Rattle.denials.specs.Checks.{Decided, first}
use Rattle.denials.specs.Told.{told}
use Rattle.denials.proofs.Passing.{promised}
use Rattle.loggers.specs.Meaning.{Sound}
use Rattle.plans.specs.declared.any_plans.AnyPlan.{AnyPlan}
use Rattle.plans.specs.declared.ways.Way.{Way}
use Rattle.plans.specs.Either.{asked_by, any_is_lawful}
use Rattle.plans.specs.Ways.{plan_of, way_denied}
use Rattle.readout.specs.declared.readouts.Readout.{Readout}
use Rattle.readout.specs.Levels.{last_everywhere}
use Rattle.readout.specs.Views.{View, view}
use Rattle.readout.proofs.Tops.{above_all}
use Rattle.tables.specs.declared.points.Point.{Point}
use Rattle.tables.specs.Log.{IsLog, Agrees, span_of, high}
use Rattle.tables.specs.Plan.{Plan, Lawful}
use Rattle.tables.specs.Table.{Table}
use Rattle.tables.proofs.Ends.{last_value_lem}
use Rattle.tables.proofs.Limits.{width_is_gaps}
use Rattle.tables.proofs.Runs.{lawful_asks_all}
use Rattle.tables.proofs.Unknown.{span_of_log}
use Rattle.sheet.specs.Running.{Figures, figures_of}
use Rattle.sheet.proofs.Outcomes.{reported}

-- the limits of a log with 32-bit values and a span up to 1,000,000 have 16 digits
high_small : (t : Table) (N : ℕ) (log : List Point) → IsLog N log → Agrees t log → N ≤ 1000000 → t N < 2 ^ 32 → high log < 10 ^ 16
high_small t N log is agrees short small =
    let span = span_of_log N log is in
    let above = above_all log (subst (λ k. IsLog k log) (sym span) is) in
    let all : last_everywhere log ≡ t N * (N + 1) = ap (λ v. v * (span_of log + 1)) (last_value_lem t N log is agrees) ∙ ap (λ k. t N * (k + 1)) span in
    omega (arith, above.high_le, all, mul-le (t N) (N + 1) 4294967295 1000001 (omega arith) (omega arith))

-- a budget that is accepted is at most 254
budget_few : (N n : ℕ) → bad_budget N n ≡ false → n ≤ 254
budget_few N n h = grind (arith, nat_tests)

pub record SmallRun (N k lo hi : ℕ) : Type 0 where
  pub span : N < 10 ^ 7
  pub asked : k < 10 ^ 3
  pub order : lo ≤ hi
  pub limits : hi < 10 ^ 16

-- what an accepted run gives is small
ran_small : (plan : Plan) → Lawful plan → (t : Table) (N n m : ℕ) → Sound t N → bad_budget N n ≡ false → t N < 2 ^ 32 → (v : View) (ran : Ran) → RanOn plan t N n m v ran → SmallRun N ran.asked ran.low ran.high
ran_small plan lawful t N n m sound fine small v ran on =
    let few = budget_below N n sound.0 fine in
    let all = lawful_asks_all plan lawful t N n sound.2 few on.questions v.points on.run in
    record {
      span = omega (arith, sound.1);
      asked = omega (arith, on.asked, on.all, budget_few N n fine);
      order = omega (arith, on.limits.low_is, on.limits.high_is, (width_is_gaps N v.points all.is_log).0);
      limits = omega (arith, on.limits.high_is, high_small t N v.points all.is_log all.agrees sound.1 small);
    }

-- a run that was accepted had a budget that is
accepted_run : {X : Type 0} (N n : ℕ) (x : X) (P : X → Type 0) (Q : Type 0) → Decided told (budget_denied N n) (Ok x) P Q → (bad_budget N n ≡ false) × P x
accepted_run N n x P Q h = go (bad_budget N n) refl h
  where
    go : (bad : Bool) → bad_budget N n ≡ bad → Decided told (first ((bad, (3, [])) ∷ [])) (Ok x) P Q → (bad_budget N n ≡ false) × P x
    go true e d = absurd d
    go false e d = (e, d)

module _
    (way : Way) (p : AnyPlan) (t : Table) (N n : ℕ) (r : Ran × Readout) (sound : Sound t N) (last : t N < 2 ^ 32)
    (made : Decided told (way_denied way n) (Ok p) (λ q. asked_by q ≡ plan_of way n) (Unit {0}))
    (ran : Decided told (budget_denied N n) (Ok r) (λ s. RanOn (asked_by p) t N n 0 (view s.1) s.0) (Unit {0}))
  where
    on : (bad_budget N n ≡ false) × RanOn (asked_by p) t N n 0 (view r.1) r.0
    on = accepted_run N n r (λ s. RanOn (asked_by p) t N n 0 (view s.1) s.0) (Unit {0}) ran

    -- the figures of an accepted run of the plan of this name are small
    pub figures_small : SmallRun N r.0.asked r.0.low r.0.high
    figures_small = ran_small (asked_by p) (any_is_lawful p) t N n 0 sound on.0 last (view r.1) r.0 on.1

    -- and they are those of the run
    pub figures_are : (span : ℕ) → span ≡ N → ◌≡◌ {A = Figures} (record { way = way; span = span; asked = r.0.asked; low = r.0.low; high = r.0.high }) (figures_of way t N n)
    figures_are span is =
        reported way t N n 0 (view r.1) r.0 span is
        (subst (λ plan. RanOn plan t N n 0 (view r.1) r.0) (promised told (way_denied way n) p (λ q. asked_by q ≡ plan_of way n) (Unit {0}) made) on.1)
