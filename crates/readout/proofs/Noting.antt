-- Of a point for an argument that the log lacks, only the value can stand in the way. Assumes nothing.
use Rattle.std.proofs.Common.{◌≡◌, ℕ, ◌<◌, ◌≤◌, Bool, true, false, cond, not, ◌&&◌, ltb, ◌↔◌, List, length, Some, None, Ok, Err, Result, IsErrAnd, MatchResult, refl, ap, ◌∙◌, subst, arith}
use Rattle.std.proofs.lemmas.Bool.{and_parts, or_parts, or_from, not-true, ltb-true, ltb-false, le-ltb, lt-leb, ne_eqb}
use Rattle.tables.specs.declared.points.Point.{Point}
use Rattle.tables.specs.Log.{has, insert, low_table, high_table, span_of}
use Rattle.tables.specs.Plan.{unknown}
use Rattle.tables.specs.Table.{Inner}
use Rattle.tables.proofs.Inserts.{insert-length}
use Rattle.denials.specs.declared.Denial.{Denial}
use Rattle.denials.specs.Checks.{Decided}
use Rattle.logs.specs.Fits.{misfit}
use Rattle.logs.specs.declared.misfits.Misfit.{Misfit}
use Rattle.logs.specs.declared.misfits.Misfit.TheVariants.{OutOfOrder}
use Rattle.readout.specs.Calls.{out_of_order}
use Rattle.readout.specs.Noted.{Noted}

-- an unknown argument is inner, and not in the log
pub unknown_parts : (log : List Point) (x : ℕ) → unknown log x ≡ true → Inner (span_of log) x × (has x log ≡ false)
unknown_parts log x u =
    let one = and_parts (ltb 0 x && ltb x (span_of log)) (not (has x log)) u in
    let two = and_parts (ltb 0 x) (ltb x (span_of log)) one.0 in
    ((ltb-true 0 x two.0, ltb-true x (span_of log) two.1), not-true (has x log) one.1)

-- a value is in order exactly when it lies between the low and the high table
pub in_order : (log : List Point) (x y : ℕ) → (out_of_order log x y ≡ false) ↔ ((low_table log x ≤ y) × (y ≤ high_table log x))
unfolding out_of_order
in_order log x y = (
  (λ e. let both = or_parts (ltb y (low_table log x)) (ltb (high_table log x) y) e in
      (ltb-false y (low_table log x) both.0, ltb-false (high_table log x) y both.1)),
  (λ h. or_from (ltb y (low_table log x)) (ltb (high_table log x) y) (le-ltb y (low_table log x) h.0) (le-ltb (high_table log x) y h.1)),
)

-- a point at an unknown argument misfits only by its value
misfit_by_value : (log : List Point) (p : Point) → unknown log p.at ≡ true → length log < 256 → misfit log p ≡ cond (out_of_order log p.at p.value) (Some OutOfOrder) None
unfolding out_of_order
misfit_by_value log p u h =
    let parts = unknown_parts log p.at u in
    rw (ne_eqb p.at 0 (λ e. omega (arith, parts.0.0, e)), lt-leb (span_of log) p.at parts.0.1, parts.1, lt-leb 256 (length log) h) refl

-- what an insertion says where only the value is in question
abbrev Told : Bool → Result (Unit {0}) Misfit → Type 0 → Type 0 → Type 0
Told late r P Q = Decided (λ e. e) (cond late (Some OutOfOrder) None) r (λ _. P) Q

taken : (late : Bool) (P Q : Type 0) → Told late (Ok tt) P Q → (late ≡ false) × P
taken true P Q h = absurd h
taken false P Q h = (refl, h)

refused : (late : Bool) (e : Misfit) (P Q : Type 0) → Told late (Err e) P Q → (late ≡ true) × Q
refused true e P Q h = (refl, h.1)
refused false e P Q h = absurd h

module _ (log : List Point) (p : Point) (u : unknown log p.at ≡ true) (h : length log < 256) (after : List Point) (Q : Type 0) where
  abbrev Decides : Result (Unit {0}) Misfit → Type 0
  Decides r = Decided (λ e. e) (misfit log p) r (λ _. after ≡ insert p log) Q

  by_value : (r : Result (Unit {0}) Misfit) → Decides r → Told (out_of_order log p.at p.value) r (after ≡ insert p log) Q
  by_value r d = subst (λ o. Decided (λ e. e) o r (λ _. after ≡ insert p log) Q) (misfit_by_value log p u h) d

  -- a point that went in was in order, and one that did not was out of order
  pub noted :
      {Says : Misfit → Denial → Type 0} (r : Result (Unit {0}) Misfit) (s : Result (Unit {0}) Denial) → Decides r →
      MatchResult r (λ x. s ≡ Ok x) (λ e. IsErrAnd s (Says e)) → ((e : Misfit) (d : Denial) → Says e d → d ≡ Denial.OutOfOrder) →
      MatchResult s (λ _. Noted log p after) (λ d. (d ≡ Denial.OutOfOrder) × (out_of_order log p.at p.value ≡ true) × Q)
  noted (Ok _) (Ok _) d m says =
      let t = taken _ _ _ (by_value (Ok tt) d) in
      record { in_order = t.0; inserts = t.1; longer = ap length t.1 ∙ insert-length p log }
  noted (Ok _) (Err e) d m says = absurd (let z : ◌≡◌ {A = ℕ} 0 1 = cc in omega arith)
  noted (Err e) (Ok _) d m says = absurd m
  noted (Err e) (Err k) d m says = let t = refused _ e _ _ (by_value (Err e) d) in (says e k m, t.0, t.1)
