-- What comes of an answer follows what the log decided. Assumes nothing.
use Rattle.std.proofs.Common.{◌≡◌, Some, None, Ok, Err, Option, refl, ap}
use Rattle.denials.specs.Checks.{Decided}
use Rattle.tables.specs.declared.points.Point.{Point}
use Rattle.tables.specs.Log.{insert}
use Rattle.logs.specs.declared.logs.Log.{Log}
use Rattle.logs.specs.declared.misfits.Misfit.{Misfit}
use Rattle.logs.specs.Fits.{misfit}
use Rattle.logs.specs.Points.{points}
use Rattle.limits.specs.declared.lines.Line.TheVariants as line
use Rattle.limits.specs.declared.notes.Done.{Done}
use Rattle.limits.specs.declared.notes.Done.TheVariants as done
use Rattle.limits.specs.declared.notes.Refusal.TheVariants as refusal
use Rattle.limits.specs.Noted.{points_of, or_refuse, said, kept}

-- accepted, and the points are those that the log then has
accepts : (o : Option Misfit) (does : Done) (P Q : Type 0) → Decided {X = Unit {0}} (λ e. e) o (Ok tt) (λ _. P) Q → (Ok does ≡ or_refuse o refusal.Point does) × P
accepts (Some d) does P Q h = absurd h
accepts None does P Q h = (refl, h)

-- refused, and nothing has changed
refuses : (o : Option Misfit) (e : Misfit) (does : Done) (P Q : Type 0) → Decided {X = Unit {0}} (λ e. e) o (Err e) (λ _. P) Q → (Err (refusal.Point e) ≡ or_refuse o refusal.Point does) × Q
refuses (Some d) e does P Q h = (ap (λ m. Err (refusal.Point m)) h.0, h.1)
refuses None e does P Q h = absurd h

module _ (o : Option Log) (log after : Log) (p : Point) (is : o ≡ Some log) where
  pub taken : (Q : Type 0) → Decided {X = Unit {0}} (λ e. e) (misfit (points log) p) (Ok tt) (λ _. points after ≡ insert p (points log)) Q → (Ok (done.Taken p) ≡ said (points_of o) (Ok (line.Answer p))) × (Some (points after) ≡ kept (points_of o) (Ok (done.Taken p)))
  taken Q h =
      let met = accepts (misfit (points log) p) (done.Taken p) (points after ≡ insert p (points log)) Q h in
      rw is (met.0, ap Some met.1)

  pub refused : (e : Misfit) (P : Type 0) → Decided {X = Unit {0}} (λ e. e) (misfit (points log) p) (Err e) (λ _. P) (after ≡ log) → (Err (refusal.Point e) ≡ said (points_of o) (Ok (line.Answer p))) × (Some (points after) ≡ kept (points_of o) (Err (refusal.Point e)))
  refused e P h =
      let met = refuses (misfit (points log) p) e (done.Taken p) P (after ≡ log) h in
      rw is (met.0, ap (λ l. Some (points l)) met.1)
