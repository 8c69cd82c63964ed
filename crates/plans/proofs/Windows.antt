-- The gaps of a log, as its windows of two points give them. Assumes nothing.
use Rattle.std.proofs.Common.{◌≡◌, ℕ, suc, ◌+◌, ◌<◌, ◌≤◌, List, [], ◌∷◌, length, take, drop, Some, None, Option, refl, sym, ap, ◌∙◌, subst, arith, MatchOption}
use Rattle.std.specs.Borrow.{Bor}
use Rattle.std.specs.Bool.{IsTrue}
use Rattle.std.specs.Fn.{Called}
use Rattle.std.specs.Iterator.Runs.{Run, IsWindowsRun, AllItemsGive, IsFirstToGive}
use Rattle.std.specs.List.{IsSubsliceAt}
use Rattle.std.specs.Option.{IfSome, IsSomeAnd, option_map}
use denote.Param.Members.{Mut}
use Rattle.std.specs.Slice.ArrayWindows.{array_windows_parts, array_windows_steps}
use Rattle.std.specs.Slice.Iter.{windows_rest, windows_size}
use Rattle.std.specs.declared.slice.ArrayWindows.{ArrayWindows}
use Rattle.std.proofs.lemmas.Iterator.{YieldsList}
use Rattle.std.proofs.lemmas.Iterator.Splits.{YieldsList-from_shown_while}
use Rattle.tables.specs.Log.{IsLog, span_of}
use Rattle.tables.specs.Plan.{lowest_unknown}
use Rattle.logs.specs.Fits.{origin}
use Rattle.tables.specs.declared.points.Point.{Point}
use Rattle.logs.proofs.Gaps.{nth}
use Rattle.plans.specs.declared.gaps.Gap.{Gap}
use Rattle.plans.specs.Gaps.{gaps, first_inside}
use Rattle.plans.proofs.Lowest.{found_lowest, none_lowest}
use Rattle.plans.proofs.Neighbours.{gap_at}

-- the gap between the first two points of a row
abbrev pub first_gap : List Point → Gap
first_gap ps = record { from = nth ps 0; to = nth ps 1 }

-- a row of fewer than two points has no gap
no_gap : (ps : List Point) → length ps < 2 → length (gaps ps) ≡ 0
no_gap [] h = refl
no_gap (p ∷ []) h = refl
no_gap (p ∷ (q ∷ qs)) h = absurd (let z : ⊥ = omega arith in z)

-- any other has that of its first two, and those from the second on
gap_more : (ps : List Point) → 2 ≤ length ps → gaps ps ≡ first_gap (take 2 ps) ∷ gaps (drop 1 ps)
gap_more [] h = absurd (let z : ⊥ = omega arith in z)
gap_more (p ∷ []) h = absurd (let z : ⊥ = omega arith in z)
gap_more (p ∷ (q ∷ qs)) h = refl

-- the windows of two give the gaps
pub windows_gap : {s : ArrayWindows Point 2} (ps : List Point) → windows_rest (array_windows_parts s) ≡ ps → windows_size (array_windows_parts s) ≡ 2 → YieldsList (array_windows_steps {A = Point} {n = 2}) (λ w. first_gap w.now) s (gaps ps)
windows_gap {s} ps e two =
    rw (← e)
    (YieldsList-from_shown_while (array_windows_steps {A = Point} {n = 2}) (λ w. first_gap w.now) (λ t. gaps (windows_rest (array_windows_parts t))) (λ t. windows_size (array_windows_parts t) ≡ 2)
    (λ t u p h. no_gap (windows_rest (array_windows_parts t)) (omega (arith, h.1.0)))
    (λ t x u p h.
    let row = windows_rest (array_windows_parts t) in
    let seen : x.now ≡ take 2 row = h.1.1 ∙ ap (λ n. take n row) p in
    (h.0 ∙ p, rw (seen, h.1.2) (gap_more row (omega (arith, h.1.0)))))
    s two)

-- a window of two points of a log at place k is the gap there
window_at : (log : List Point) (k : ℕ) (x : List Point) → IsSubsliceAt 2 log k x → first_gap x ≡ gap_at log k
window_at log k x part =
    let from : nth x 0 ≡ nth log k = part.2 0 origin (omega arith) ∙ ap (nth log) (omega arith) in
    let to : nth x 1 ≡ nth log (suc k) = part.2 1 origin (omega arith) ∙ ap (nth log) (omega arith) in
    cc

-- what some window has
some_window : (o : Option (Bor (List Point))) (P : Bor (List Point) → Type 0) (q : Point) → option_map (λ x. nth x.now 0) o ≡ Some q → IfSome o P → IsSomeAnd o P
some_window None P q e h = absurd (cc)
some_window (Some x) P q e h = h

module _ {F : Type 0} (g : Mut F (Bor (List Point) × Unit {0}) (Option ℕ)) (f : F) (log : List Point) (p : Run (array_windows_steps {A = Point} {n = 2})) (windows : IsWindowsRun p 2 log) (inside : (x : Bor (List Point)) (r : Option ℕ) (q : F) → Called g f (x, tt) r q → (q ≡ f) × (r ≡ first_inside (first_gap x.now))) where
  -- what the call at a place answered, where there is a window
  answer_at : (k : ℕ) (o : Option (Bor (List Point))) (r : Option ℕ) → o ≡ p.at k → IsSomeAnd o (λ x. Called g f (x, tt) r f) → r ≡ first_inside (gap_at log k)
  answer_at k None r e called = absurd called
  answer_at k (Some x) r e called =
      let window = subst (λ o. IfSome o (λ (w : Bor (List Point)). (length w.now ≡ 2) × (k + 2 ≤ length log) × IsSubsliceAt 2 log k w.now)) {x = p.at k} {y = Some x} (sym e) (windows.2 k) in
      (inside x r f called).1 ∙ ap first_inside (window_at log k x.now window.2)

  -- `find_map` finds the lowest unknown argument
  pub found_by_windows : IsLog (span_of log) log → (r : Option ℕ) → MatchOption r (IsTrue p.whole × AllItemsGive p g f None) (λ y. (i : ℕ) × (i < p.len) × (p.len ≡ i + 1) × IsFirstToGive p g f (Some y) None i) → r ≡ lowest_unknown log
  found_by_windows is None h =
      let none = h.1 (λ a r q k. (inside a.0 r q k).0) in
      none_lowest log is (λ k l. answer_at k (p.at k) None refl (some_window (p.at k) _ _ (windows.3 k origin (omega (arith, windows.1 h.0))) (none k)))
  found_by_windows is (Some y) h =
      let first = h.3 (λ a r q k. (inside a.0 r q k).0) in
      found_lowest log is h.0 (omega (arith, h.1, windows.0)) (λ k l. answer_at k (p.at k) None refl (first.1 k l)) y (answer_at h.0 (p.at h.0) (Some y) refl first.0)
