-- How wide a log of a steep table is at least, and the table that holds any plan to it. Assumes nothing.
use Rattle.std.proofs.Common.{◌≡◌, ℕ, zero, suc, ◌+◌, ◌-◌, ◌*◌, ◌/◌, ◌≤◌, cond, ltb, List, [], ◌∷◌, ⊎_elim, mul-le-mul_left, div-mul-le_self, arith}
use Rattle.std.proofs.lemmas.Bool.{cases_lt, lt-ltb, le-ltb}
use Rattle.tables.specs.declared.points.Point.{Point}
use Rattle.tables.specs.Table.{Table, NeverFalls, diagonal}
use Rattle.tables.specs.Log.{Rising, Agrees, rise, gap_widths}
use Rattle.tables.specs.Least.{total, unevenness}
use Rattle.tables.specs.Theorems.{DiagonalFloor, Climbs, SteepFloor, NoPlanPromisesLess}
use Rattle.tables.proofs.Limits.{width_is_gaps}
use Rattle.tables.proofs.LeastWidth.{least_bound, gap_lengths, lengths_cut}
use Rattle.tables.proofs.Runs.{lawful_asks_all}

module _ (c n : ℕ) (t : Table) (climbs : Climbs c t n) where
  -- over d steps the table rises by at least c times d
  climb : (x d y : ℕ) → x + d ≡ y → y ≤ n → t x + c * d ≤ t y
  climb x zero y e h = let z : x ≡ y = omega arith in rw z (omega arith)
  climb x (suc d) y e h = omega (arith, climbs x (omega arith), climb (x + 1) d y (omega arith) h)

  -- so it never falls
  never_falls : NeverFalls t 0 n
  never_falls i j _ h s = omega (arith, climb i (j - i) j (omega arith) s)

  -- the widths of a log's gaps are at least c times the unevenness of their lengths
  steep-gaps :
      (p : Point) (ps : List Point) → Rising p ps → Agrees t (p ∷ ps) → p.at + total (gap_lengths (p ∷ ps)) ≤ n →
      c * unevenness (gap_lengths (p ∷ ps)) ≤ gap_widths (p ∷ ps)
  steep-gaps p [] r a h = omega arith
  steep-gaps p (q ∷ ps) r a h =
      let l = q.at - p.at in
      let up = climb p.at l q.at (omega arith) (omega arith) in
      step l (l - 1) (rise p q) _ _ (omega arith) (steep-gaps q ps r.2 a.1 (omega arith))
    where
      step : (l m d u w : ℕ) → c * l ≤ d → c * u ≤ w → c * (l * m + u) ≤ m * d + w
      step l m d u w h k = omega (arith, mul-le-mul_left m h)

-- a log of a table that climbs by c at every step has at least c times the least width
pub steep_floor : SteepFloor
steep_floor c n k t [] h a climbs e = elim h [ ]
steep_floor c n k t (p ∷ ps) h a climbs e =
    let cut = lengths_cut n k (p ∷ ps) h e in
    let bound = mul-le-mul_left c (least_bound n k (gap_lengths (p ∷ ps)) cut.0 cut.2) in
    rw (width_is_gaps n (p ∷ ps) h).1 (omega (arith, bound, steep-gaps c n t climbs p ps h.2 a (omega arith)))

-- the diagonal of rise c is such a table
pub diagonal_floor : DiagonalFloor
diagonal_floor c n k log h a = steep_floor c n k (diagonal c) log h a (λ x _. omega arith)

module _ (N A B : ℕ) where
  -- the table that climbs from A by the same whole number at every step, and at N has B
  abbrev ramp : Table
  ramp x = cond (ltb x N) (A + (B - A) / N * x) B

  -- it climbs as steeply at its last step too
  ramp_climbs : A ≤ B → Climbs ((B - A) / N) ramp N
  ramp_climbs h x s =
      let most = div-mul-le_self (B - A) N in
      let upto = mul-le-mul_left ((B - A) / N) s in
      ⊎_elim
      (λ m. rw (lt-ltb x N s, lt-ltb (x + 1) N m) (omega arith))
      (λ m. rw (lt-ltb x N s, le-ltb (x + 1) N m) (omega arith))
      (cases_lt (x + 1) N)

-- whatever the plan, the ramp between the ends leaves it at least what the least width promises
pub no_plan_promises_less : NoPlanPromisesLess
no_plan_promises_less plan lawful N A B k h s =
    let t = ramp N A B in
    let climbs = ramp_climbs N A B s in
    let falls = never_falls ((B - A) / N) N t climbs in (
      t,
      falls,
      rw (lt-ltb 0 N (omega arith)) (omega arith),
      rw (le-ltb N N (omega arith)),
      λ xs end run.
          let asked = lawful_asks_all plan lawful t N k falls h xs end run in
          steep_floor ((B - A) / N) N k t end asked.is_log asked.agrees climbs asked.points,
    )
