-- Logs: the points known of a table, and the limits that they set for its sum. Assumes nothing.
use Rattle.std.specs.Prelude.{◌≡◌, ℕ, ◌+◌, ◌-◌, ◌*◌, ◌<◌, ◌≤◌, Bool, true, false, cond, ◌↔◌, List, [], ◌∷◌, ◌==◌, nat_le, nat_lt}
use Rattle.tables.specs.declared.points.Point.{Point}
use Rattle.tables.specs.Table.{Table, NeverFalls, sum_of}

-- from the point p on, arguments rise strictly and values never fall
abbrev pub Rising : Point → List Point → Type 0
Rising p [] = Unit {0}
Rising p (q ∷ ps) = (p.at < q.at) × (p.value ≤ q.value) × Rising q ps

-- the last of the points p ∷ ps
abbrev pub last_of : Point → List Point → Point
last_of p [] = p
last_of p (q ∷ ps) = last_of q ps

-- a log of span n starts at argument 0, ends at n, and rises
abbrev pub IsLog : ℕ → List Point → Type 0
IsLog n [] = ⊥
IsLog n (p ∷ ps) = (p.at ≡ 0) × ((last_of p ps).at ≡ n) × Rising p ps

-- the span of a log: its last argument
abbrev pub span_of : List Point → ℕ
span_of [] = 0
span_of (p ∷ ps) = (last_of p ps).at

-- the value of its first point
abbrev pub first_value : List Point → ℕ
first_value [] = 0
first_value (p ∷ ps) = p.value

-- the value of its last point
abbrev pub last_value : List Point → ℕ
last_value [] = 0
last_value (p ∷ ps) = (last_of p ps).value

-- the log of which only the ends are known
abbrev pub fresh : ℕ → ℕ → ℕ → List Point
fresh n a b = record { at = 0; value = a } ∷ record { at = n; value = b } ∷ []

-- a table agrees with a log when it has each point's value at that point's argument
abbrev pub Agrees : Table → List Point → Type 0
Agrees t [] = Unit {0}
Agrees t (p ∷ ps) = (t p.at ≡ p.value) × Agrees t ps

-- the argument x is that of some point
abbrev pub has : ℕ → List Point → Bool
has x [] = false
has x (p ∷ ps) = cond (x == p.at) true (has x ps)

-- the log with one point more, at its place by the argument
abbrev pub insert : Point → List Point → List Point
insert q [] = q ∷ []
insert q (p ∷ ps) = cond (nat_lt q.at p.at) (q ∷ p ∷ ps) (p ∷ insert q ps)

-- how many arguments lie strictly inside the gap between two neighbouring points
abbrev pub inner_of : Point → Point → ℕ
inner_of p q = q.at - p.at - 1

-- by how much the table rises over the gap
abbrev pub rise : Point → Point → ℕ
rise p q = q.value - p.value

-- the low limit: all point values, and at each inner argument of a gap the value before it
abbrev pub low : List Point → ℕ
low [] = 0
low (p ∷ []) = p.value
low (p ∷ (q ∷ ps)) = p.value + inner_of p q * p.value + low (q ∷ ps)

-- the high limit: all point values, and at each inner argument of a gap the value after it
abbrev pub high : List Point → ℕ
high [] = 0
high (p ∷ []) = p.value
high (p ∷ (q ∷ ps)) = p.value + inner_of p q * q.value + high (q ∷ ps)

-- the width of a log
abbrev pub width : List Point → ℕ
width log = high log - low log

-- the widths of all gaps added up: inner arguments times rise
abbrev pub gap_widths : List Point → ℕ
gap_widths [] = 0
gap_widths (p ∷ []) = 0
gap_widths (p ∷ (q ∷ ps)) = inner_of p q * rise p q + gap_widths (q ∷ ps)

-- the low table of a log: at x, the value of the last point at or before x
abbrev pub low_table : List Point → Table
low_table [] x = 0
low_table (p ∷ []) x = p.value
low_table (p ∷ (q ∷ ps)) x = cond (nat_lt x q.at) p.value (low_table (q ∷ ps) x)

-- the high table of a log: at x, the value of the first point at or after x
abbrev pub high_table : List Point → Table
high_table [] x = 0
high_table (p ∷ ps) x = cond (nat_le x p.at) p.value (high_table ps x)

-- y lies within the limits of a log
abbrev pub Within : List Point → ℕ → Type 0
Within log y = (low log ≤ y) × (y ≤ high log)

-- some table of span n that never falls and agrees with the log sums to y
abbrev pub Possible : ℕ → List Point → ℕ → Type 0
Possible n log y = (t : Table) × NeverFalls t 0 n × Agrees t log × (sum_of t n ≡ y)

-- lo and hi are the limits of the log, and sharp: y lies within them exactly when some agreeing table sums to it
pub record SharpLimits (log : List Point) (lo hi : ℕ) : Type 0 where
  pub low_is : lo ≡ low log
  pub high_is : hi ≡ high log
  pub sharp : (y : ℕ) → ((lo ≤ y) × (y ≤ hi)) ↔ Possible (span_of log) log y
