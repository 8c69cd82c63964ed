-- Which points go into a log, and where. Assumes nothing.
use Rattle.std.specs.Prelude.{◌≡◌, ℕ, ◌+◌, ◌-◌, ◌<◌, ◌≤◌, true, false, cond, ◌||◌, List, [], ◌∷◌, length, Option, ◌==◌, nat_le, nat_lt, slice_index_or}
use Rattle.std.specs.List.{insert as inserted}
use Rattle.denials.specs.Bounds.{bad_span}
use Rattle.denials.specs.Checks.{first}
use Rattle.tables.specs.declared.points.Point.{Point}
use Rattle.tables.specs.Log.{span_of, has, insert, low_table, high_table}
use Rattle.logs.specs.Held.{is_log}
use Rattle.logs.specs.declared.misfits.BadEnds.{BadEnds}
use Rattle.logs.specs.declared.misfits.BadEnds.TheVariants.{Span, Order}
use Rattle.logs.specs.declared.misfits.Misfit.{Misfit}
use Rattle.logs.specs.declared.misfits.Misfit.TheVariants.{NotInner, Known, Full, OutOfOrder}

-- what is wrong with the ends of a log, if anything
abbrev pub bad_ends : ℕ → ℕ → ℕ → Option BadEnds
bad_ends span first_value last_value = first ((bad_span span, Span) ∷ (nat_lt last_value first_value, Order) ∷ [])

-- what is wrong with a point for a log, if anything
abbrev pub misfit : List Point → Point → Option Misfit
misfit log p =
    first
    ((p.at == 0 || nat_le (span_of log) p.at, NotInner)
    ∷ (has p.at log, Known)
    ∷ (nat_le 256 (length log), Full)
    ∷ (nat_lt p.value (low_table log p.at) || nat_lt (high_table log p.at) p.value, OutOfOrder)
    ∷ [])

-- how many points of a log lie at or before the argument x
abbrev pub place : ℕ → List Point → ℕ
place x [] = 0
place x (p ∷ ps) = cond (nat_le p.at x) (1 + place x ps) 0

-- the point that memory starts with
abbrev pub origin : Point
origin = record { at = 0; value = 0 }

-- what stands on either side of the place i of the argument x in a log
pub record Beside (log : List Point) (x i : ℕ) : Type 0 where
  pub some : 0 < i
  pub within : i ≤ length log
  pub inside : x < span_of log → i < length log
  pub known : has x log ≡ ((slice_index_or log (i - 1) origin).at == x)
  pub below : low_table log x ≡ (slice_index_or log (i - 1) origin).value
  pub above : x < span_of log → has x log ≡ false → high_table log x ≡ (slice_index_or log i origin).value

-- at place i the point p goes into the log, which is then a log with one point more and the same span
pub record Goes (log : List Point) (p : Point) (i : ℕ) : Type 0 where
  pub within : i ≤ length log
  pub room : length log < 256
  pub inserts : inserted log i p ≡ insert p log
  pub longer : length (insert p log) ≡ length log + 1
  pub sound : is_log (insert p log) ≡ true
  pub span : span_of (insert p log) ≡ span_of log
