-- The low and the high table of a log, and how sharply they limit a sum. Assumes nothing.
use Rattle.std.proofs.Common.{◌≡◌, ℕ, zero, suc, ◌+◌, ◌-◌, ◌*◌, ◌<◌, ◌≤◌, List, [], ◌∷◌, refl, ap, ⊎_elim, mul-add, arith}
use Rattle.std.proofs.lemmas.Bool.{cases_lt, lt-ltb, le-ltb, le-leb, lt-leb}
use Rattle.tables.specs.declared.points.Point.{Point}
use Rattle.tables.specs.Table.{Table, NeverFalls, sum_from}
use Rattle.tables.specs.Log.{Rising, last_of, IsLog, Agrees, inner_of, rise, low, high, gap_widths, low_table, high_table}
use Rattle.tables.specs.Theorems.{WidthIsGaps, LimitsAreSharp, TablesOfLog}
use Rattle.tables.proofs.Sums.{sum_le, Joined, join, joined, joined_never_falls, joined_sum}

-- the last argument is not before the first
pub at_le_last : (p : Point) (ps : List Point) → Rising p ps → p.at ≤ (last_of p ps).at
at_le_last p [] r = omega arith
at_le_last p (q ∷ ps) r = omega (arith, at_le_last q ps r.2)

-- the high limit is the low limit and the widths of all gaps
pub high_is_low_and_gaps : (p : Point) (ps : List Point) → Rising p ps → high (p ∷ ps) ≡ low (p ∷ ps) + gap_widths (p ∷ ps)
high_is_low_and_gaps p [] r = omega arith
high_is_low_and_gaps p (q ∷ ps) r =
    let inner = inner_of p q in
    let e : q.value ≡ p.value + rise p q = omega arith in
    omega (arith, ap (λ v. inner * v) e, mul-add inner p.value (rise p q), high_is_low_and_gaps q ps r.2)

-- the width is the sum over the gaps
pub width_is_gaps : WidthIsGaps
width_is_gaps n [] l = elim l [ ]
width_is_gaps n (p ∷ ps) l = omega (arith, high_is_low_and_gaps p ps l.2)

-- the low table has the first value before the second argument, and then is that of the rest
low_joined : (p q : Point) (ps : List Point) → Joined (low_table (p ∷ q ∷ ps)) p.value q.at (low_table (q ∷ ps))
low_joined p q ps = record { before = λ x h. rw (lt-ltb x q.at h); after = λ x h. rw (le-ltb x q.at h) }

-- the high table has the first value up to the first argument, and then is that of the rest
high_joined : (p : Point) (ps : List Point) → Joined (high_table (p ∷ ps)) p.value (p.at + 1) (high_table ps)
high_joined p ps = record {
  before = λ x h. rw (le-leb x p.at (omega arith));
  after = λ x h. rw (lt-leb x p.at (omega arith));
}

-- the low table has the first value at the first argument
low_first : (p : Point) (ps : List Point) → Rising p ps → low_table (p ∷ ps) p.at ≡ p.value
low_first p [] r = refl
low_first p (q ∷ ps) r = (low_joined p q ps).before p.at r.0

-- the low table never falls
low_never_falls : (p : Point) (ps : List Point) → Rising p ps → NeverFalls (low_table (p ∷ ps)) 0 (last_of p ps).at
low_never_falls p [] r = λ i j _ _ _. omega arith
low_never_falls p (q ∷ ps) r = joined_never_falls (low_joined p q ps) (last_of q ps).at
    (λ _. omega (arith, low_first q ps r.2))
    (λ i j _. low_never_falls q ps r.2 i j (omega arith))

-- the high table never falls up to the last argument
high_never_falls : (p : Point) (ps : List Point) → Rising p ps → NeverFalls (high_table (p ∷ ps)) 0 (last_of p ps).at
high_never_falls p [] r = joined_never_falls (high_joined p []) p.at (omega arith) (λ i j _ _ _. omega arith)
high_never_falls p (q ∷ ps) r = joined_never_falls (high_joined p (q ∷ ps)) (last_of q ps).at
    (λ _. omega (arith, (high_joined q ps).before (p.at + 1) (omega arith)))
    (λ i j _. high_never_falls q ps r.2 i j (omega arith))

-- from argument a to argument b, t is nowhere below f and nowhere above g
abbrev Squeezed : Table → Table → Table → ℕ → ℕ → Type 0
Squeezed f t g a b = (x : ℕ) → a ≤ x → x ≤ b → (f x ≤ t x) × (t x ≤ g x)

-- a table squeezed between two that agree with a log agrees with it
pub squeezed_agrees :
    (f t g : Table) (p : Point) (ps : List Point) → Rising p ps → Squeezed f t g p.at (last_of p ps).at →
    Agrees f (p ∷ ps) → Agrees g (p ∷ ps) → Agrees t (p ∷ ps)
squeezed_agrees f t g p [] r s af ag = (omega (arith, s p.at (omega arith) (omega arith)), tt)
squeezed_agrees f t g p (q ∷ ps) r s af ag = (
  omega (arith, s p.at (omega arith) (at_le_last p (q ∷ ps) r)),
  squeezed_agrees f t g q ps r.2 (λ x l. s x (omega arith)) af.1 ag.1,
)

-- a table joined between the first two points agrees with a log where the joined one agrees with the rest
joined_agrees :
    {t u : Table} {v c : ℕ} (p q : Point) (ps : List Point) → Joined t v c u → Rising p (q ∷ ps) → v ≡ p.value →
    p.at < c → c ≤ q.at → Agrees u (q ∷ ps) → Agrees t (p ∷ q ∷ ps)
joined_agrees {t} {u} p q ps made r e l m a = (
  omega (arith, made.before p.at l),
  squeezed_agrees u t u q ps r.2 (λ x n _. omega (arith, made.after x (omega arith))) a a,
)

-- the low table agrees with its log
low_agrees : (p : Point) (ps : List Point) → Rising p ps → Agrees (low_table (p ∷ ps)) (p ∷ ps)
low_agrees p [] r = (refl, tt)
low_agrees p (q ∷ ps) r = joined_agrees p q ps (low_joined p q ps) r refl r.0 (omega arith) (low_agrees q ps r.2)

-- the high table agrees with its log
high_agrees : (p : Point) (ps : List Point) → Rising p ps → Agrees (high_table (p ∷ ps)) (p ∷ ps)
high_agrees p [] r = ((high_joined p []).before p.at (omega arith), tt)
high_agrees p (q ∷ ps) r =
    joined_agrees p q ps (high_joined p (q ∷ ps)) r refl (omega arith) (omega arith) (high_agrees q ps r.2)

-- from its first argument a to its last the low table sums to the low limit
low_sum :
    (p : Point) (ps : List Point) (a m : ℕ) → Rising p ps → a ≡ p.at → a + m ≡ (last_of p ps).at →
    sum_from (low_table (p ∷ ps)) a (m + 1) ≡ low (p ∷ ps)
low_sum p [] a m r d e =
    let z : m ≡ 0 = omega arith in
    rw z (omega arith)
low_sum p (q ∷ ps) a m r d e =
    let k : ℕ = (last_of q ps).at - q.at in
    let gap : ℕ = suc (inner_of p q) in
    let whole : q.at + k ≡ (last_of q ps).at = omega (arith, at_le_last q ps r.2) in
    let s : m + 1 ≡ gap + (k + 1) = omega arith in
    rw s (omega (arith, joined_sum (low_joined p q ps) a gap (k + 1) (omega arith), low_sum q ps q.at k r.2 refl whole))

-- from i arguments before its first to its last the high table sums to i first values and the high limit
high_sum :
    (p : Point) (ps : List Point) (a i m : ℕ) → Rising p ps → a + i ≡ p.at → p.at + m ≡ (last_of p ps).at →
    sum_from (high_table (p ∷ ps)) a (suc i + m) ≡ i * p.value + high (p ∷ ps)
high_sum p [] a i m r d e =
    let z : m ≡ 0 = omega arith in
    rw z (omega (arith, joined_sum (high_joined p []) a (suc i) 0 (omega arith)))
high_sum p (q ∷ ps) a i m r d e =
    let k : ℕ = (last_of q ps).at - q.at in
    let inner : ℕ = inner_of p q in
    let whole : q.at + k ≡ (last_of q ps).at = omega (arith, at_le_last q ps r.2) in
    let s : m ≡ suc inner + k = omega arith in
    let first = joined_sum (high_joined p (q ∷ ps)) a (suc i) (suc inner + k) (omega arith) in
    rw s (omega (arith, first, high_sum q ps (p.at + 1) inner k r.2 (omega arith) whole))

-- low and high table never fall, agree with their log, and sum to the low and the high limit
pub tables_of_log : TablesOfLog
tables_of_log n [] l = elim l [ ]
tables_of_log n (p ∷ ps) l =
    let s : n + 1 ≡ suc 0 + n = omega arith in
    record {
      low_never_falls = rw (← l.1) (low_never_falls p ps l.2);
      high_never_falls = rw (← l.1) (high_never_falls p ps l.2);
      low_agrees = low_agrees p ps l.2;
      high_agrees = high_agrees p ps l.2;
      low_sum = low_sum p ps 0 n l.2 (omega arith) (omega arith);
      high_sum = rw s (omega (arith, high_sum p ps 0 0 n l.2 (omega arith) (omega arith)));
    }

-- a table that never falls and agrees with a log is nowhere below its low table
above_low :
    (t : Table) (n : ℕ) (p : Point) (ps : List Point) → NeverFalls t 0 n → Agrees t (p ∷ ps) → (x : ℕ) →
    p.at ≤ x → x ≤ n → low_table (p ∷ ps) x ≤ t x
above_low t n p [] up a x l m = omega (arith, up p.at x (omega arith) l m)
above_low t n p (q ∷ ps) up a x l m = ⊎_elim
    (λ h. omega (arith, (low_joined p q ps).before x h, up p.at x (omega arith) l m))
    (λ h. omega (arith, (low_joined p q ps).after x h, above_low t n q ps up a.1 x h m))
    (cases_lt x q.at)

-- and nowhere above its high table
below_high :
    (t : Table) (n : ℕ) (p : Point) (ps : List Point) → NeverFalls t 0 n → Agrees t (p ∷ ps) → Rising p ps →
    (last_of p ps).at ≡ n → (x : ℕ) → x ≤ n → t x ≤ high_table (p ∷ ps) x
below_high t n p [] up a r e x m =
    omega (arith, (high_joined p []).before x (omega arith), up x p.at (omega arith) (omega arith) (omega arith))
below_high t n p (q ∷ ps) up a r e x m = ⊎_elim
    (λ h. omega (arith, (high_joined p (q ∷ ps)).before x h, up x p.at (omega arith) (omega arith), at_le_last q ps r.2))
    (λ h. omega (arith, (high_joined p (q ∷ ps)).after x h, below_high t n q ps up a.1 r.2 e x m))
    (cases_lt x (p.at + 1))

-- a table that never falls and agrees with a log lies between its low and its high table
pub between :
    (n : ℕ) (log : List Point) (t : Table) → IsLog n log → NeverFalls t 0 n → Agrees t log → (x : ℕ) → x ≤ n →
    (low_table log x ≤ t x) × (t x ≤ high_table log x)
between n [] t l up a x m = elim l [ ]
between n (p ∷ ps) t l up a x m = (above_low t n p ps up a x (omega arith) m, below_high t n p ps up a l.2 l.1 x m)

-- the low table is nowhere above the high table
pub low_le_high_table : (n : ℕ) (log : List Point) → IsLog n log → (x : ℕ) → x ≤ n → low_table log x ≤ high_table log x
low_le_high_table n log l x m =
    let ts = tables_of_log n log l in
    (between n log (high_table log) l ts.high_never_falls ts.high_agrees x m).0

-- some table that never falls lies between f and g from argument a to argument n, and m of its values sum to y
abbrev Filled : Table → Table → ℕ → ℕ → ℕ → ℕ → Type 0
Filled f g n a m y = (t : Table) × NeverFalls t a n × Squeezed f t g a n × (sum_from t a m ≡ y)

-- such a table from a table u of that kind from a + 1 on, by the value v before it
fill_more :
    (f g : Table) (n a m v y : ℕ) (u : Table) → (f a ≤ v) × (v ≤ g a) → (a + 1 ≤ n → v ≤ u (a + 1)) →
    NeverFalls u (a + 1) n → Squeezed f u g (a + 1) n → v + sum_from u (a + 1) m ≡ y → Filled f g n a (suc m) y
fill_more f g n a m v y u fits vu up inside e =
    let made = joined v (a + 1) u in
    let one : 1 + m ≡ suc m = omega arith in (
      join v (a + 1) u,
      (λ i j _. joined_never_falls made n vu up i j (omega arith)),
      (λ x l s. ⊎_elim
          (λ h. let here : x ≡ a = omega arith in rw (made.before x h, here) fits)
          (λ h. rw (made.after x h) (inside x h s))
          (cases_lt x (a + 1))),
      omega (arith, rw one at (joined_sum made a 1 m refl)),
    )

module _ (f g : Table) (n : ℕ) (uf : NeverFalls f 0 n) (ug : NeverFalls g 0 n) (fg : (x : ℕ) → x ≤ n → f x ≤ g x) where
  -- the value of f before a filled rest
  fill_low : (m a y z : ℕ) → a ≤ n → f a + z ≡ y → Filled f g n (a + 1) m z → Filled f g n a (suc m) y
  fill_low m a y z s e rest =
      let up : a + 1 ≤ n → f a ≤ rest.0 (a + 1) = λ l. omega (arith, uf a (a + 1), rest.2 (a + 1)) in
      fill_more f g n a m (f a) y rest.0 (omega (arith, fg a s)) up rest.1 rest.2 (omega (arith, rest.3))

  -- a value between those of f and g before the values of g
  fill_high : (m a y v : ℕ) → (f a ≤ v) × (v ≤ g a) → v + sum_from g (a + 1) m ≡ y → Filled f g n a (suc m) y
  fill_high m a y v fits e =
      let up : a + 1 ≤ n → v ≤ g (a + 1) = λ l. omega (arith, ug a (a + 1)) in
      fill_more f g n a m v y g fits up (λ i j _. ug i j (omega arith)) (λ x _ s. omega (arith, fg x s)) e

  -- what lies between the sums of two tables is the sum of a table between them
  filled : (m a y : ℕ) → a + m ≡ n + 1 → sum_from f a m ≤ y → y ≤ sum_from g a m → Filled f g n a m y
  filled zero a y e l h = (g, (λ i j _. ug i j (omega arith)), (λ x from to. omega arith), omega arith)
  filled (suc m) a y e l h = ⊎_elim
      (λ less. fill_low m a y (y - f a) (omega arith) (omega arith) (filled m (a + 1) _ (omega arith) (omega arith) (omega arith)))
      (λ more. fill_high m a y (y - sum_from g (a + 1) m) (omega arith) (omega arith))
      (cases_lt y (f a + sum_from g (a + 1) m))

-- the limits are sharp: what lies within them, and nothing else, is the sum of some table
pub limits_are_sharp : LimitsAreSharp
limits_are_sharp n [] l y = elim l [ ]
limits_are_sharp n (p ∷ ps) l y =
    let ts = tables_of_log n (p ∷ ps) l in
    let f = low_table (p ∷ ps) in
    let g = high_table (p ∷ ps) in
    let fill = filled f g n ts.low_never_falls ts.high_never_falls (low_le_high_table n (p ∷ ps) l) (n + 1) 0 y in (
      (λ within.
          let t = fill (omega arith) (omega (arith, ts.low_sum)) (omega (arith, ts.high_sum)) in
          let inside : Squeezed f t.0 g p.at (last_of p ps).at = λ x _ s. t.2 x (omega arith) (omega arith) in
          (t.0, t.1, squeezed_agrees f t.0 g p ps l.2 inside ts.low_agrees ts.high_agrees, t.3)),
      (λ t.
          let inside = between n (p ∷ ps) t.0 l t.1 t.2 in (
            omega (arith, ts.low_sum, t.3, sum_le f t.0 0 (n + 1) (λ x _ s. (inside x (omega arith)).0)),
            omega (arith, ts.high_sum, t.3, sum_le t.0 g 0 (n + 1) (λ x _ s. (inside x (omega arith)).1)),
          )),
    )
