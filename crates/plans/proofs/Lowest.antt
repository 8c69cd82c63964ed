-- The lowest unknown argument is the first inside the first gap that has one. Assumes nothing.
use Rattle.std.proofs.Common.{◌≡◌, ℕ, zero, suc, ◌+◌, ◌-◌, ◌<◌, ◌≤◌, true, false, not, ◌&&◌, eqb, ltb, List, [], ◌∷◌, length, Some, None, Option, sym, refl, ap, ◌∙◌, subst, ⊎_elim, arith, MatchOption}
use Rattle.std.specs.List.{range_with_len}
use Rattle.std.proofs.lemmas.Bool.{cases_lt, ltb-true, ltb-false, eq-eqb, cond-true, cond-false, cond_both, and_right, not_from_true}
use Rattle.tables.specs.declared.points.Point.{Point}
use Rattle.tables.specs.Log.{IsLog, span_of, has, inner_of}
use Rattle.tables.specs.Plan.{unknown, first_unknown, lowest_unknown}
use Rattle.tables.proofs.Unknown.{Askable, askable_unknown}
use Rattle.logs.specs.Fits.{origin}
use Rattle.logs.proofs.Adding.{nth}
use Rattle.logs.proofs.Gaps.{span_at_end}
use Rattle.plans.specs.declared.gaps.Gap.{Gap}
use Rattle.plans.specs.Gaps.{first_inside}
use Rattle.plans.specs.Lawful.{inside_askable}
use Rattle.plans.proofs.Neighbours.{gap_at, at_gap}

-- every argument up to x is in the log
abbrev pub KnownTo : List Point → ℕ → Type 0
KnownTo log x = (y : ℕ) → y ≤ x → has y log ≡ true

-- what is in the log is not unknown
not_unknown : (log : List Point) (x : ℕ) → has x log ≡ true → unknown log x ≡ false
not_unknown log x h = and_right (ltb 0 x && ltb x (span_of log)) (not (has x log)) (not_from_true (has x log) h)

-- a count of arguments that are all in the log has no unknown one
none_unknown : (log : List Point) (x a m : ℕ) → KnownTo log x → a + m ≤ x + 1 → first_unknown log (range_with_len a m) ≡ None
none_unknown log x a zero known h = refl
none_unknown log x a (suc m) known h = cond-false _ _ _ (not_unknown log a (known a (omega arith))) ∙ none_unknown log x (a + 1) m known (omega arith)

-- the first unknown one of a count is the one after those in the log
after_known : (log : List Point) (x a m : ℕ) → KnownTo log x → unknown log (x + 1) ≡ true → a ≤ x + 1 → x + 1 < a + m → first_unknown log (range_with_len a m) ≡ Some (x + 1)
after_known log x a zero known u le lt = absurd (let z : ⊥ = omega arith in z)
after_known log x a (suc m) known u le lt =
    ⊎_elim
    (λ (below : a < x + 1). cond-false _ _ _ (not_unknown log a (known a (omega arith))) ∙ after_known log x (a + 1) m known u (omega arith) (omega arith))
    (λ (above : x + 1 ≤ a). let e : x + 1 ≡ a = omega arith in subst (λ y. first_unknown log (y ∷ range_with_len (a + 1) m) ≡ Some (x + 1)) e (cond-true _ _ _ u))
    (cases_lt a (x + 1))

-- each point's argument is in the log
has-place : (log : List Point) (i : ℕ) → i < length log → has (nth log i).at log ≡ true
has-place [] i h = absurd (let z : ⊥ = omega arith in z)
has-place (p ∷ ps) zero h = cond-true _ _ _ (eq-eqb p.at p.at refl)
has-place (p ∷ ps) (suc i) h = let x = (nth ps i).at in cond_both (eqb x p.at) true (has x ps) (λ b. b ≡ true) (λ e. refl) (λ e. has-place ps i (omega arith))

-- a log has a point, and begins at 0
some_points : (log : List Point) → IsLog (span_of log) log → 0 < length log
some_points [] is = absurd is
some_points (p ∷ ps) is = omega arith

begins : (log : List Point) → IsLog (span_of log) log → (nth log 0).at ≡ 0
begins [] is = absurd is
begins (p ∷ ps) is = is.0

-- what the first argument inside a gap tells of it
abbrev Tells : Gap → Option ℕ → Type 0
Tells g o = MatchOption o (inner_of g.from g.to ≡ 0) (λ x. (x ≡ g.from.at + 1) × (0 < inner_of g.from g.to))

inside_tells : (g : Gap) (o : Option ℕ) → o ≡ first_inside g → Tells g o
inside_tells g o e =
    let inner = inner_of g.from g.to in
    subst (Tells g) (sym e)
    (cond_both (ltb 0 inner) (Some (g.from.at + 1)) None (Tells g) (λ t. (refl, ltb-true 0 inner t)) (λ f. omega (arith, ltb-false 0 inner f)))

module _ (log : List Point) (is : IsLog (span_of log) log) where
  -- where all before the gap at place i is in the log and the gap has an argument inside, the first of those is the lowest unknown one
  lowest_inside : (i : ℕ) → suc i < length log → KnownTo log (nth log i).at → (x : ℕ) → Some x ≡ first_inside (gap_at log i) → Some x ≡ lowest_unknown log
  lowest_inside i h known y e =
      let x = (nth log i).at in
      let t = inside_tells (gap_at log i) (Some y) e in
      let ask : Askable (span_of log) log (x + 1) = at_gap log i h _ (inside_askable (span_of log) log is) (x + 1) (omega arith, omega (arith, t.1)) in
      ap Some t.0 ∙ sym (after_known log x 1 (span_of log - 1) known (askable_unknown log (x + 1) ask) (omega arith) (omega (arith, ask.0.1)))

  -- where it has none, one argument more is in the log
  known_more : (i : ℕ) → suc i < length log → KnownTo log (nth log i).at → None ≡ first_inside (gap_at log i) → KnownTo log (nth log (suc i)).at
  known_more i h known e y l =
      let t = inside_tells (gap_at log i) None e in
      ⊎_elim
      (λ (below : y < (nth log (suc i)).at). known y (omega (arith, t)))
      (λ (above : (nth log (suc i)).at ≤ y). subst (λ x. has x log ≡ true) {x = (nth log (suc i)).at} {y = y} (omega arith) (has-place log (suc i) h))
      (cases_lt y (nth log (suc i)).at)

  -- at first argument 0 is
  known_first : KnownTo log (nth log 0).at
  known_first y l =
      subst (λ x. has x log ≡ true) {x = (nth log 0).at} {y = y} (omega (arith, begins log is)) (has-place log 0 (some_points log is))

  -- after gaps that have none inside, every argument so far
  known_to : (i : ℕ) → i < length log → ((k : ℕ) → k < i → None ≡ first_inside (gap_at log k)) → KnownTo log (nth log i).at
  known_to zero h none = known_first
  known_to (suc i) h none = known_more i h (known_to i (omega arith) (λ k l. none k (omega arith))) (none i (omega arith))

  -- the first inside the first gap that has one is the lowest unknown argument
  pub found_lowest : (i : ℕ) → suc i < length log → ((k : ℕ) → k < i → None ≡ first_inside (gap_at log k)) → (x : ℕ) → Some x ≡ first_inside (gap_at log i) → Some x ≡ lowest_unknown log
  found_lowest i h none x e = lowest_inside i h (known_to i (omega arith) none) x e

  -- where no gap has one, no argument is unknown
  pub none_lowest : ((k : ℕ) → suc k < length log → None ≡ first_inside (gap_at log k)) → None ≡ lowest_unknown log
  none_lowest none =
      let last = length log - 1 in
      let known = known_to last (omega (arith, some_points log is)) (λ k l. none k (omega arith)) in
      sym (none_unknown log (nth log last).at 1 (span_of log - 1) known (omega (arith, span_at_end log origin is)))
