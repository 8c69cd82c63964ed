-- What a diagonal or a kept table means, where its kind of values lends a row. Assumes nothing.
use Rattle.std.specs.Prelude.{ℕ, ◌-◌, length}
use Rattle.std.proofs.Common.{mul-le-mul_left, arith}
use Rattle.std.specs.declared.convert.AsSlice.{Ghosts as Lends}
use Rattle.tables.specs.Table.{Table, diagonal}
use Rattle.loggers.specs.Meaning.{Sound, row_table}
use Rattle.loggers.specs.declared.chosen.Chosen.{Chosen}
use Rattle.loggers.specs.declared.chosen.Chosen.TheVariants.{Diagonal, Table as Kept}

-- its table
abbrev pub chosen_table : {V : Type 0} → {lends : Lends V ℕ} → Chosen V lends → Table
chosen_table (Diagonal d) = diagonal d.rise
chosen_table {lends} (Kept t) = row_table (lends.items t.values)

-- its span
abbrev pub chosen_extent : {V : Type 0} → {lends : Lends V ℕ} → Chosen V lends → ℕ
chosen_extent (Diagonal d) = d.span
chosen_extent {lends} (Kept t) = length (lends.items t.values) - 1

-- they are sound
pub chosen_sound : {V : Type 0} → {lends : Lends V ℕ} → (l : Chosen V lends) → Sound (chosen_table l) (chosen_extent l)
chosen_sound (Diagonal d) = (d.long, d.short, λ i j _ le _. mul-le-mul_left d.rise le)
chosen_sound (Kept t) = (omega arith, omega arith, λ i j _ le within. t.rising i j le (omega arith))
