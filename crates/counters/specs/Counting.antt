-- What a counter means. Assumes nothing.
use Rattle.std.specs.Prelude.{ℕ, ◌≤◌, cond, leb, List, [], ◌∷◌, count_by, nat_le}
use Rattle.std.proofs.Common.{⊎_elim, arith}
use Rattle.std.proofs.lemmas.List.Sums.{sum_by-cons}
use Rattle.std.proofs.lemmas.Bool.{cases_lt, le-leb, lt-leb}
use Rattle.tables.specs.Table.{Table, NeverFalls}

-- the table of a counter: at x, the number of readings whose level is at most x
abbrev pub counter_table : {X : Type 0} → (X → ℕ) → List X → Table
counter_table level rs x = count_by (λ r. leb (level r) x) rs

-- a reading that counts at i counts at j, where i is at most j
counts_more : (v i j : ℕ) → i ≤ j → cond (nat_le v i) 1 0 ≤ cond (nat_le v j) 1 0
counts_more v i j le =
    ⊎_elim
    (λ lt. rw (lt-leb v i lt) (omega arith))
    (λ up. rw (le-leb v i up, le-leb v j (omega arith)) (omega arith))
    (cases_lt i v)

-- a counter's table at j is no less than at i, where i is at most j
rises : {X : Type 0} (level : X → ℕ) (rs : List X) (i j : ℕ) → i ≤ j → counter_table level rs i ≤ counter_table level rs j
rises level [] i j le = omega arith
rises level (r ∷ rs) i j le =
    rw (sum_by-cons (λ q. cond (nat_le (level q) i) 1 0) r rs, sum_by-cons (λ q. cond (nat_le (level q) j) 1 0) r rs)
    (omega (arith, counts_more (level r) i j le, rises level rs i j le))

-- a counter's table never falls
pub never_falls : {X : Type 0} (level : X → ℕ) (rs : List X) (n : ℕ) → NeverFalls (counter_table level rs) 0 n
never_falls level rs n i j _ le _ = rises level rs i j le
