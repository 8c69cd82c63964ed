-- What a run's report tells. Assumes nothing.
use Rattle.std.proofs.Common.{◌≡◌, ℕ, ◌-◌, Bool, true, false, List, [], ◌∷◌, length, map, Some, None, Ok, Option, sym, ap, ◌∙◌, subst}
use Rattle.bench.specs.declared.running.Ran.{Ran}
use Rattle.bench.specs.Runs.{RanOn as Runs}
use Rattle.bench.proofs.Measuring.{budget_below}
use Rattle.denials.specs.Bounds.{bad_budget}
use Rattle.denials.specs.Checks.{Decided, first}
use Rattle.denials.specs.Told.{told}
use Rattle.loggers.specs.Meaning.{Sound}
use Rattle.readout.specs.declared.readouts.Readout.{Readout}
use Rattle.readout.specs.Views.{view}
use Rattle.tables.specs.declared.points.Point.{Point}
use Rattle.tables.specs.Log.{SharpLimits, span_of, first_value, last_value}
use Rattle.tables.specs.Plan.{Plan, Lawful}
use Rattle.tables.specs.Table.{Table}
use Rattle.tables.specs.Theorems.{promise}
use Rattle.tables.proofs.Ends.{log_promise}
use Rattle.tables.proofs.Runs.{lawful_asks_all}
use Rattle.ask.specs.declared.runs.Report.{Report}
use Rattle.ask.specs.Reporting.{answer_at, Reported}

-- what holds of a call's result that nothing stood in the way of
pub granted : {X : Type 0} (o : Option (ℕ × List ℕ)) (x : X) (P : X → Type 0) (Q : Type 0) → Decided told o (Ok x) P Q → P x
granted None x P Q h = h
granted (Some d) x P Q h = absurd h

-- the report of an accepted run, of a plan that means the same
pub reports :
    (plan : Plan) → Lawful plan → (t : Table) (N n : ℕ) → Sound t N → (bad : Bool) → bad ≡ bad_budget N n →
    (means : Plan) → means ≡ plan → (ran : Ran) (place : Readout) →
    Decided told (first ((bad, (3, [])) ∷ [])) (Ok (ran, place)) (λ (r : Ran × Readout). Runs means t N n 0 (view r.1) r.0) (Unit {0}) →
    (r : Report) → r.asked ≡ ran.asked →
    (shown : List Point) → shown ≡ (view place).points → SharpLimits shown r.limits.low r.limits.high →
    (log : List Point) → log ≡ (view place).points → r.promise ≡ promise (span_of log) (first_value log) (last_value log) (length log - 2) →
    (listed : List ℕ) → r.answers.items ≡ map (answer_at t N) listed →
    Decided told (first ((bad, (3, [])) ∷ [])) (Ok r) (Reported plan t N n) (Unit {0})
reports plan lawful t N n sound true is means e ran place on r asked shown seen limits log same least listed counts = absurd on
reports plan lawful t N n sound false is means e ran place on' r asked shown seen limits log same least listed counts =
    let on = subst (λ (p : Plan). Runs p t N n 0 (view place) ran) e on' in
    let few = budget_below N n sound.0 (sym is) in
    let all = lawful_asks_all plan lawful t N n sound.2 few on.questions (view place).points on.run in
    record {
      questions = on.questions;
      log = (view place).points;
      run = on.run;
      limits = subst (λ (l : List Point). SharpLimits l r.limits.low r.limits.high) seen limits;
      asked = asked ∙ on.asked ∙ on.all;
      least = least ∙ ap (λ l. promise (span_of l) (first_value l) (last_value l) (length l - 2)) same ∙ log_promise t N n on.questions (view place).points all;
      listed = listed;
      counts = counts;
    }
