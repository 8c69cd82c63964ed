-- The sum of a counter's table, and the total of the levels. Assumes nothing.
use Rattle.std.proofs.Common.{◌≡◌, ℕ, zero, suc, ◌+◌, ◌-◌, ◌*◌, ◌<◌, ◌≤◌, cond, leb, List, [], ◌∷◌, length, sym, refl, ap, ◌∙◌, ⊎_elim, arith}
use Rattle.std.specs.List.{AllByRecursion}
use Rattle.std.proofs.lemmas.List.Sums.{sum_by-cons}
use Rattle.std.proofs.lemmas.Bool.{cases_lt, le-leb, lt-leb}
use Rattle.tables.specs.Table.{Table, sum_from, sum_of}
use Rattle.tables.proofs.Sums.{sum_constant}
use Rattle.counters.specs.Counting.{counter_table}
use Rattle.counters.specs.Totals.{CountedTotal, TotalIsCounted, total_of_levels, counted_of}

-- what one reading of level v adds to the table
abbrev once : ℕ → Table
once v x = cond (leb v x) 1 0

-- a table that is two tables' sum at each argument has the two sums' sum
sum_of_two : (t f g : Table) (a m : ℕ) → ((x : ℕ) → t x ≡ f x + g x) → sum_from t a m ≡ sum_from f a m + sum_from g a m
sum_of_two t f g a zero h = omega arith
sum_of_two t f g a (suc m) h = omega (arith, h a, sum_of_two t f g (a + 1) m h)

-- from its level on a reading adds 1 at each argument
once_above : (v a m : ℕ) → v ≤ a → sum_from (once v) a m ≡ m
once_above v a zero le = refl
once_above v a (suc m) le = rw (le-leb v a le) (omega (arith, once_above v (a + 1) m (omega arith)))

-- of m arguments, a reading d above the first of them adds 1 at all but d
once_from : (v a d m : ℕ) → v ≡ a + d → d ≤ m → sum_from (once v) a m + d ≡ m
once_from v a d zero e le = omega arith
once_from v a zero (suc m) e le = omega (arith, once_above v a (suc m) (omega arith))
once_from v a (suc d) (suc m) e le =
    rw (lt-leb v a (omega arith)) (omega (arith, once_from v (a + 1) d m (omega arith) (omega arith)))

-- a counter's table with one reading more
table_more : {X : Type 0} (level : X → ℕ) (r : X) (rs : List X) (x : ℕ) → counter_table level (r ∷ rs) x ≡ once (level r) x + counter_table level rs x
table_more level r rs x = sum_by-cons (λ q. cond (leb (level q) x) 1 0) r rs

-- below its level a reading adds nothing
once_below : (v a m : ℕ) → a + m ≤ v → sum_from (once v) a m ≡ 0
once_below v a zero le = refl
once_below v a (suc m) le = rw (lt-leb v a (omega arith)) (omega (arith, once_below v (a + 1) m (omega arith)))

-- the sum of the table with one reading more
sum_more : {X : Type 0} (level : X → ℕ) (r : X) (rs : List X) (n : ℕ) → sum_of (counter_table level (r ∷ rs)) n ≡ sum_of (once (level r)) n + sum_of (counter_table level rs) n
sum_more level r rs n = sum_of_two (counter_table level (r ∷ rs)) (once (level r)) (counter_table level rs) 0 (n + 1) (table_more level r rs)

-- a reading up to n is counted, and one above n is not
counted_more : {X : Type 0} (level : X → ℕ) (r : X) (rs : List X) (n : ℕ) → level r ≤ n → counted_of level (r ∷ rs) n ≡ r ∷ counted_of level rs n
counted_more level r rs n le = rw (le-leb (level r) n le)

counted_same : {X : Type 0} (level : X → ℕ) (r : X) (rs : List X) (n : ℕ) → n < level r → counted_of level (r ∷ rs) n ≡ counted_of level rs n
counted_same level r rs n lt = rw (lt-leb (level r) n lt)

-- the last count is the number of the readings counted
number_counted : {X : Type 0} (level : X → ℕ) (rs : List X) (n : ℕ) → counter_table level rs n ≡ length (counted_of level rs n)
number_counted level [] n = refl
number_counted level (r ∷ rs) n =
    table_more level r rs n ∙ ⊎_elim
    (λ lt. rw (counted_same level r rs n lt, lt-leb (level r) n lt) (omega (arith, number_counted level rs n)))
    (λ le. rw (counted_more level r rs n le, le-leb (level r) n le) (omega (arith, number_counted level rs n)))
    (cases_lt n (level r))

-- total and sum with one reading more, of level v
add_up : (t t' v s s' o b m : ℕ) → t ≡ v + t' → s ≡ o + s' → o + v ≡ m → t' + s' ≡ b * m → t + s ≡ suc b * m
add_up t t' v s s' o b m p q e h = omega arith

-- the total of the levels counted with the sum of the table is the number of readings counted times n + 1
total_and_sum : {X : Type 0} (level : X → ℕ) (rs : List X) (n : ℕ) → total_of_levels level (counted_of level rs n) + sum_of (counter_table level rs) n ≡ length (counted_of level rs n) * (n + 1)
total_and_sum level [] n = omega (arith, sum_constant 0 0 (n + 1))
total_and_sum level (r ∷ rs) n =
    ⊎_elim
    (λ lt. rw (counted_same level r rs n lt) (omega (arith, sum_more level r rs n, once_below (level r) 0 (n + 1) (omega arith), total_and_sum level rs n)))
    (λ le. rw (counted_more level r rs n le)
    (add_up _ _ (level r) _ _ _ (length (counted_of level rs n)) (n + 1)
    (sum_by-cons level r (counted_of level rs n))
    (sum_more level r rs n)
    (once_from (level r) 0 (level r) (n + 1) (omega arith) (omega arith))
    (total_and_sum level rs n)))
    (cases_lt n (level r))

-- so the total is what the sum leaves
left_over : (t s c b m : ℕ) → c ≡ b → t + s ≡ b * m → (s ≤ c * m) × (t ≡ c * m - s)
left_over t s c b m e h = rw e (omega arith, omega arith)

-- the total of the levels counted follows from the sum of the counter's table
pub counted_total : {X : Type 0} (level : X → ℕ) → CountedTotal level
counted_total level rs n =
    let number = number_counted level rs n in
    let rest = left_over _ _ _ _ _ number (total_and_sum level rs n) in
    record { number = number; sum_le = rest.0; total = rest.1 }

-- where no level is above n, all readings are counted
all_counted : {X : Type 0} (level : X → ℕ) (rs : List X) (n : ℕ) → AllByRecursion (λ r. level r ≤ n) rs → counted_of level rs n ≡ rs
all_counted level [] n h = refl
all_counted level (r ∷ rs) n h = counted_more level r rs n h.0 ∙ ap (λ qs. r ∷ qs) (all_counted level rs n h.1)

-- and the total is that of all levels
pub total_is_counted : {X : Type 0} (level : X → ℕ) → TotalIsCounted level
total_is_counted level rs n h =
    let all = all_counted level rs n h in
    let counts = counted_total level rs n in
    (counts.number ∙ ap length all, counts.sum_le, sym (ap (total_of_levels level) all) ∙ counts.total)
