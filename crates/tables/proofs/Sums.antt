-- Sums of tables, and tables joined from a constant and another table. Assumes nothing.
use Rattle.std.proofs.Common.{◌≡◌, ℕ, zero, suc, ◌+◌, ◌*◌, ◌<◌, ◌≤◌, cond, ltb, refl, add-zero, suc-add, zero-add, arith}
use Rattle.std.proofs.lemmas.Bool.{cases_lt, lt-ltb, le-ltb}
use Rattle.tables.specs.Table.{Table, NeverFalls, sum_from}

-- a sum over m + k arguments is the sum over the first m and that over the k after them
pub sum_split : (t : Table) (a m k : ℕ) → sum_from t a (m + k) ≡ sum_from t a m + sum_from t (a + m) k
sum_split t a zero k = simp (zero-add, add-zero)
sum_split t a (suc m) k =
    let e : a + suc m ≡ a + 1 + m = omega arith in
    rw (suc-add, e) (omega (arith, sum_split t (a + 1) m k))

-- a table that is nowhere above another has no larger sum
pub sum_le : (f g : Table) (a m : ℕ) → ((x : ℕ) → a ≤ x → x < a + m → f x ≤ g x) → sum_from f a m ≤ sum_from g a m
sum_le f g a zero h = omega arith
sum_le f g a (suc m) h =
    let rest = sum_le f g (a + 1) m (λ x l s. h x (omega arith) (omega arith)) in
    omega (arith, h a (omega arith) (omega arith), rest)

-- two tables with the same values have the same sum
pub sum_same : (f g : Table) (a m : ℕ) → ((x : ℕ) → a ≤ x → x < a + m → f x ≡ g x) → sum_from f a m ≡ sum_from g a m
sum_same f g a zero h = refl
sum_same f g a (suc m) h =
    let rest = sum_same f g (a + 1) m (λ x l s. h x (omega arith) (omega arith)) in
    omega (arith, h a (omega arith) (omega arith), rest)

-- m times the same value
pub sum_constant : (v a m : ℕ) → sum_from (λ _. v) a m ≡ m * v
sum_constant v a zero = omega arith
sum_constant v a (suc m) = omega (arith, sum_constant v (a + 1) m)

-- below the argument c the table t has the value v, and from c on it is the table u
pub record Joined (t : Table) (v c : ℕ) (u : Table) : Type 0 where
  pub before : (x : ℕ) → x < c → t x ≡ v
  pub after : (x : ℕ) → c ≤ x → t x ≡ u x

-- such a table for any v, c and u
pub join : ℕ → ℕ → Table → Table
join v c u x = cond (ltb x c) v (u x)

-- it is joined so
pub joined : (v c : ℕ) (u : Table) → Joined (join v c u) v c u
unfolding join
joined v c u = record { before = λ x h. rw (lt-ltb x c h); after = λ x h. rw (le-ltb x c h) }

-- a joined table never falls where u does not fall and starts at v or higher
pub joined_never_falls :
    {t u : Table} {v c : ℕ} → Joined t v c u → (stop : ℕ) → (c ≤ stop → v ≤ u c) → NeverFalls u c stop → NeverFalls t 0 stop
joined_never_falls {c = c} made stop up rest i j _ ij js =
    grind (arith, cases_lt i c, cases_lt j c, made.before, made.after, up, rest c j, rest i j)

-- from i arguments before the place of joining on it sums to i times v and a sum of u
pub joined_sum :
    {t u : Table} {v c : ℕ} → Joined t v c u → (a i m : ℕ) → a + i ≡ c → sum_from t a (i + m) ≡ i * v + sum_from u c m
joined_sum {t} {u} {v} {c} made a i m e =
    let left : sum_from t a i ≡ sum_from (λ _. v) a i = sum_same t (λ _. v) a i (λ x _ s. made.before x (omega arith)) in
    let right : sum_from t c m ≡ sum_from u c m = sum_same t u c m (λ x l _. made.after x l) in
    rw (sum_split t a i m, e, left, sum_constant v a i, right)
