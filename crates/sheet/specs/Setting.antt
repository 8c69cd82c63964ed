-- The logger that is set while a sheet is read. Assumes nothing.
use Rattle.std.specs.Prelude.{ℕ, Some, None, Option}
use Rattle.std.specs.declared.convert.AsSlice.{Ghosts as Lends}
use Rattle.loggers.specs.declared.chosen.Chosen.{Chosen}
use Rattle.loggers.specs.Choosing.{chosen_table, chosen_extent}
use Rattle.tables.specs.Table.{Table}

-- none, or a logger by its table and its span
abbrev pub Setting : Type 0
Setting = Option (Table × ℕ)

-- what is set, where a kind of values lends a row
abbrev pub held : {V : Type 0} → {lends : Lends V ℕ} → Option (Chosen V lends) → Setting
held None = None
held (Some l) = Some (chosen_table l, chosen_extent l)
