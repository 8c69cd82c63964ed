-- The widest rectangle keeps the law of plans. Assumes nothing.
use Rattle.std.specs.Prelude.{◌≡◌, ℕ, zero, suc, ◌*◌, ◌<◌, false, List, [], ◌∷◌, IfSome, Some, None, fold, Option, ◌≢◌, nat_lt}
use Rattle.std.proofs.Common.{◌∙◌, zero-mul, arith}
use Rattle.std.specs.Option.{option_map}
use Rattle.std.specs.List.{AllByRecursion}
use Rattle.std.proofs.ByRecursion.{All-weaker}
use Rattle.std.proofs.lemmas.Bool.{ne_eqb, cond-false, cond_both, ltb-true}
use Rattle.tables.specs.declared.points.Point.{Point}
use Rattle.tables.specs.Log.{Rising, last_of, IsLog, has, inner_of, rise}
use Rattle.tables.specs.Plan.{Lawful}
use Rattle.tables.proofs.Unknown.{Askable, or_else_lawful}
use Rattle.plans.specs.declared.gaps.Gap.{Gap}
use Rattle.plans.specs.Gaps.{gaps, width_of, middle}
use Rattle.plans.specs.Widest.{best_width, wider, widest, widest_rectangle}

-- x lies strictly inside a gap
abbrev pub Inside : Gap → ℕ → Type 0
Inside g x = (g.from.at < x) × (x < g.to.at)

-- an argument that is neither the first point's nor a later one's is no point's
lacks : (x : ℕ) (p : Point) (ps : List Point) → (x ≢ p.at) → has x ps ≡ false → has x (p ∷ ps) ≡ false
lacks x p ps ne h = cond-false _ _ _ (ne_eqb x p.at ne) ∙ h

-- an argument before the first point is no point's, and lies before the last point
pub lacks_before : (p : Point) (ps : List Point) (x : ℕ) → Rising p ps → x < p.at → (has x (p ∷ ps) ≡ false) × (x < (last_of p ps).at)
lacks_before p [] x r h = (cond-false _ _ _ (ne_eqb x p.at (λ e. omega arith)), h)
lacks_before p (q ∷ ps) x r h =
    let t = lacks_before q ps x r.2 (omega (arith, r.0)) in
    (lacks x p (q ∷ ps) (λ e. omega arith) t.0, t.1)

-- an argument inside a gap from p on lies after p and before the last point, and is no point's
inside_lacks : (p : Point) (ps : List Point) → Rising p ps → AllByRecursion (λ g. (x : ℕ) → Inside g x → (p.at < x) × (x < (last_of p ps).at) × (has x (p ∷ ps) ≡ false)) (gaps (p ∷ ps))
inside_lacks p [] r = tt
inside_lacks p (q ∷ ps) r = (
  λ x i. let t = lacks_before q ps x r.2 i.1 in (i.0, t.1, lacks x p (q ∷ ps) (λ e. omega (arith, i.0)) t.0),
  All-weaker _ _
      (λ g h x i.
      let t = h x i in
      let after : p.at < x = omega (arith, r.0, t.0) in
      (after, t.1, lacks x p (q ∷ ps) (λ e. omega arith) t.2))
      (gaps (q ∷ ps)) (inside_lacks q ps r.2),
)

-- what lies inside a gap of a log may be asked
pub inside_askable : (n : ℕ) (log : List Point) → IsLog n log → AllByRecursion (λ g. (x : ℕ) → Inside g x → Askable n log x) (gaps log)
inside_askable n [] is = tt
inside_askable n (p ∷ ps) is =
    All-weaker _ _ (λ g h x i. let t = h x i in ((omega (arith, is.0, t.0), omega (arith, is.1, t.1)), t.2)) (gaps (p ∷ ps)) (inside_lacks p ps is.2)

-- a product that is not 0 has a first factor that is not 0
factor : (m n : ℕ) → 0 < m * n → 0 < m
factor zero n h = absurd (let z : ⊥ = omega (arith, zero-mul n) in z)
factor (suc m) n h = omega arith

-- the middle of a gap that has a width lies inside it
middle_inside : (g : Gap) → 0 < width_of g → Inside g (middle g)
middle_inside g h = let f = factor (inner_of g.from g.to) (rise g.from g.to) h in (omega arith, omega arith)

-- of the gaps of a row, of which all have P, the one taken has P and a width
taken : (P : Gap → Type 0) (o : Option Gap) (gs : List Gap) → IfSome o (λ g. P g × (0 < width_of g)) → AllByRecursion P gs → IfSome (fold wider o gs) (λ g. P g × (0 < width_of g))
taken P o [] h all = h
taken P o (g ∷ gs) h all =
    taken P (wider o g) gs
    (cond_both (nat_lt (best_width o) (width_of g)) (Some g) o (λ b. IfSome b (λ f. P f × (0 < width_of f))) (λ e. (all.0, omega (arith, ltb-true (best_width o) (width_of g) e))) (λ e. h))
    all.1

-- the widest rectangle is a lawful plan
pub widest_is_lawful : Lawful widest_rectangle
widest_is_lawful = or_else_lawful (λ log. option_map middle (widest (gaps log))) (λ n log is. go n log (widest (gaps log)) (taken _ None (gaps log) tt (inside_askable n log is)))
  where
    go : (n : ℕ) (log : List Point) (o : Option Gap) → IfSome o (λ g. ((x : ℕ) → Inside g x → Askable n log x) × (0 < width_of g)) → IfSome (option_map middle o) (Askable n log)
    go n log None h = tt
    go n log (Some g) h = h.0 (middle g) (middle_inside g h.1)
