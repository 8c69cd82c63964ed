-- A sound table turned, and a window of one, are sound. Assumes nothing.
use Rattle.std.specs.Prelude.{◌≡◌, ℕ, ◌+◌, ◌-◌, ◌<◌, ◌≤◌, Bool, true, false, cond, nat_le, nat_lt, refl}
use Rattle.std.proofs.Common.{arith}
use Rattle.std.proofs.lemmas.Bool.{leb-false, ltb-false, or_parts}
use Rattle.tables.specs.Table.{Table}
use Rattle.loggers.specs.Meaning.{Sound}
use Rattle.windows.specs.Meaning.{turned, windowed, bad_ends, beginning, ending}

-- a turned table never falls
pub turned_sound : (t : Table) (n : ℕ) → Sound t n → Sound (turned t n) n
turned_sound t n s =
    (s.0, s.1, λ i j _ le within. let h : t (n - j) ≤ t (n - i) = s.2 (n - j) (n - i) (omega arith) (omega arith) (omega arith) in omega arith)

-- nor does the part of a table between two ends that fit
part_sound : (t : Table) (n a b : ℕ) → Sound t n → a < b → b ≤ n → Sound (windowed t a) (b - a)
part_sound t n a b s lt le =
    (omega arith, omega arith, λ i j _ ij within. s.2 (a + i) (a + j) (omega arith) (omega arith) (omega arith))

-- nor the part that a window shows, whatever its ends
pub window_sound : (t : Table) (n a b : ℕ) → Sound t n → Sound (windowed t (beginning n a b)) (ending n a b - beginning n a b)
window_sound t n a b s = go (bad_ends n a b) refl
  where
    go : (bad : Bool) → bad_ends n a b ≡ bad → Sound (windowed t (cond bad 0 a)) (cond bad n b - cond bad 0 a)
    go true e = part_sound t n 0 n s (omega arith) (omega arith)
    go false e = part_sound t n a b s (leb-false b a (or_parts (nat_le b a) (nat_lt n b) e).0) (ltb-false n b (or_parts (nat_le b a) (nat_lt n b) e).1)
