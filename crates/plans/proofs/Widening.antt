-- The widest gap is the widest. Assumes nothing.
use Rattle.std.proofs.Common.{◌≡◌, ℕ, ◌<◌, ◌≤◌, ltb, List, [], ◌∷◌, ◌++◌, Some, None, fold, Option, refl, ap, ◌∙◌, append_assoc, arith, MatchOption}
use Rattle.std.specs.List.{AllByRecursion}
use Rattle.std.proofs.ByRecursion.{All-weaker, All-push}
use Rattle.std.proofs.lemmas.List.{append-nil}
use Rattle.std.proofs.lemmas.Bool.{cond_both, ltb-true, ltb-false}
use Rattle.plans.specs.declared.gaps.Gap.{Gap}
use Rattle.plans.specs.Gaps.{gaps, width_of}
use Rattle.plans.specs.Widest.{wider, Widest, WidestIsWidest}

-- o is what the widest gap of a row should be
abbrev Best : List Gap → Option Gap → Type 0
Best gs o = MatchOption o (AllByRecursion (λ h. width_of h ≡ 0) gs) (Widest gs)

-- a gap after gaps that are all narrower is the widest
takes : (gs : List Gap) (g : Gap) (w : ℕ) → w < width_of g → AllByRecursion (λ h. width_of h ≤ w) gs → Widest (gs ++ (g ∷ [])) g
takes gs g w wide b = record {
  before = gs;
  after = [];
  stands = refl;
  some = omega arith;
  no_wider = All-push _ gs g (All-weaker _ _ (λ h z. omega arith) gs b) (omega arith);
  narrower = All-weaker _ _ (λ h z. omega arith) gs b;
}

-- one after the widest that is not wider leaves it the widest
keeps : (gs : List Gap) (f g : Gap) → width_of g ≤ width_of f → Widest gs f → Widest (gs ++ (g ∷ [])) f
keeps gs f g narrow b = record {
  before = b.before;
  after = b.after ++ (g ∷ []);
  stands = ap (λ hs. hs ++ (g ∷ [])) b.stands ∙ append_assoc b.before (f ∷ b.after) (g ∷ []);
  some = b.some;
  no_wider = All-push _ gs g b.no_wider narrow;
  narrower = b.narrower;
}

-- one gap more
best_more : (gs : List Gap) (o : Option Gap) (g : Gap) → Best gs o → Best (gs ++ (g ∷ [])) (wider o g)
best_more gs None g b =
    cond_both (ltb 0 (width_of g)) (Some g) None (Best (gs ++ (g ∷ [])))
    (λ e. takes gs g 0 (ltb-true 0 (width_of g) e) (All-weaker _ _ (λ h z. omega arith) gs b))
    (λ e. All-push _ gs g b (omega (arith, ltb-false 0 (width_of g) e)))
best_more gs (Some f) g b =
    cond_both (ltb (width_of f) (width_of g)) (Some g) (Some f) (Best (gs ++ (g ∷ [])))
    (λ e. takes gs g (width_of f) (ltb-true (width_of f) (width_of g) e) b.no_wider)
    (λ e. keeps gs f g (ltb-false (width_of f) (width_of g) e) b)

-- all the gaps to come
best_all : (gs to-come : List Gap) (o : Option Gap) → Best gs o → Best (gs ++ to-come) (fold wider o to-come)
best_all gs [] o b = rw append-nil b
best_all gs (g ∷ hs) o b = rw (← append_assoc gs (g ∷ []) hs) (best_all (gs ++ (g ∷ [])) hs (wider o g) (best_more gs o g b))

-- the law of the widest gap
pub widest_is_widest : WidestIsWidest
widest_is_widest log = best_all [] (gaps log) None tt
