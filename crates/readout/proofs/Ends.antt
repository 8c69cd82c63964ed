-- The ends of a log stay where a point comes between them. Assumes nothing.
use Rattle.std.proofs.Common.{◌≡◌, ℕ, ◌<◌, ◌≤◌, ltb, List, [], ◌∷◌, refl, ◌∙◌, arith}
use Rattle.std.proofs.lemmas.Bool.{ltb-true, ltb-false, cond_both}
use Rattle.tables.specs.declared.points.Point.{Point}
use Rattle.tables.specs.Log.{IsLog, last_of, insert}
use Rattle.tables.specs.Table.{Inner}
use Rattle.readout.specs.Past.{FromTo}

-- the last point stays
last_kept : (q p : Point) (ps : List Point) → p.at ≤ q.at → q.at < (last_of p ps).at → last_of p (insert q ps) ≡ last_of p ps
last_kept q p [] h k = absurd (let z : ⊥ = omega arith in z)
last_kept q p (r ∷ rs) h k =
    cond_both (ltb q.at r.at) (q ∷ r ∷ rs) (r ∷ insert q rs) (λ l. last_of p l ≡ last_of r rs)
    (λ _. refl)
    (λ e. last_kept q r rs (ltb-false q.at r.at e) k)

-- so both ends do
pub ends_kept : (n a b : ℕ) (q : Point) (log : List Point) → IsLog n log → Inner n q.at → FromTo n a b log → FromTo n a b (insert q log)
ends_kept n a b q [] is h f = absurd is
ends_kept n a b q (p ∷ ps) is h f =
    cond_both (ltb q.at p.at) (q ∷ p ∷ ps) (p ∷ insert q ps) (FromTo n a b)
    (λ e. absurd (let z : ⊥ = omega (arith, ltb-true q.at p.at e, is.0) in z))
    (λ e. (f.0, last_kept q p ps (omega (arith, is.0)) (omega (arith, is.1)) ∙ f.1))
