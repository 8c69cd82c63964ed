-- A run of the library is the run that a sheet reports. Assumes nothing.
use Rattle.std.proofs.Common.{◌≡◌, ℕ, zero, suc, List, [], length, Some, None, Option, refl, ap, ◌∙◌}
use Rattle.bench.specs.declared.running.Ran.{Ran}
use Rattle.bench.specs.Runs.{RanOn}
use Rattle.plans.specs.declared.ways.Way.{Way}
use Rattle.plans.specs.Ways.{plan_of}
use Rattle.readout.specs.Views.{View}
use Rattle.tables.specs.declared.points.Point.{Point}
use Rattle.tables.specs.Log.{insert, fresh, low, high}
use Rattle.tables.specs.Plan.{Plan}
use Rattle.tables.specs.Run.{Run, WholeRun, spent, done, asks}
use Rattle.tables.specs.Table.{Table}
use Rattle.tables.proofs.Runs.{run_is_unique}
use Rattle.sheet.specs.Running.{ran_from, ran_on, asked_first, Figures, figures_of}

-- the function of a run is a run
pub ran_from_lem : (plan : Plan) (t : Table) (n : ℕ) (log : List Point) → Run plan t n log (ran_from plan t n log).0 (ran_from plan t n log).1
ran_from_lem plan t zero log = spent
ran_from_lem plan t (suc n) log = go (plan log) refl (λ x. ran_from_lem plan t n (insert (record { at = x; value = t x }) log))
  where
    outcome : Option ℕ → List ℕ × List Point
    outcome o = elim o [ None ↦ ([], log) | Some x ↦ asked_first x (ran_from plan t n (insert (record { at = x; value = t x }) log)) ]

    go : (o : Option ℕ) → plan log ≡ o → ((x : ℕ) → Run plan t n (insert (record { at = x; value = t x }) log) (ran_from plan t n (insert (record { at = x; value = t x }) log)).0 (ran_from plan t n (insert (record { at = x; value = t x }) log)).1) → Run plan t (suc n) log (outcome (plan log)).0 (outcome (plan log)).1
    go None e h = rw e (done e)
    go (Some x) e h = rw e (asks e (h x))

-- and the only one
ran_only : (plan : Plan) (t : Table) (N n : ℕ) (xs : List ℕ) (end : List Point) → WholeRun plan t N n xs end → (xs ≡ (ran_on plan t N n).0) × (end ≡ (ran_on plan t N n).1)
ran_only plan t N n xs end run = run_is_unique plan t n (fresh N (t 0) (t N)) xs (ran_on plan t N n).0 end (ran_on plan t N n).1 run (ran_from_lem plan t n (fresh N (t 0) (t N)))

-- so what an accepted run gives is what is reported of it
pub reported : (way : Way) (t : Table) (N n m : ℕ) (v : View) (ran : Ran) (span : ℕ) → span ≡ N → RanOn (plan_of way n) t N n m v ran → ◌≡◌ {A = Figures} (record { way = way; span = span; asked = ran.asked; low = ran.low; high = ran.high }) (figures_of way t N n)
reported way t N n m v ran span is on =
    let only = ran_only (plan_of way n) t N n on.questions v.points on.run in
    let asked : ran.asked ≡ length (ran_on (plan_of way n) t N n).0 = on.asked ∙ ap length only.0 in
    let lows : ran.low ≡ low (ran_on (plan_of way n) t N n).1 = on.limits.low_is ∙ ap low only.1 in
    let highs : ran.high ≡ high (ran_on (plan_of way n) t N n).1 = on.limits.high_is ∙ ap high only.1 in
    λ i. record { way = way; span = is i; asked = asked i; low = lows i; high = highs i }
