-- What a table logger holds. Assumes nothing.
use Rattle.std.specs.Prelude.{ℕ, List}
use Rattle.loggers.specs.declared.table_logger.TableLogger.{TableLogger}

-- the row of values that a table logger holds
abbrev pub row_of : TableLogger → List ℕ
row_of l = l.table.values.now
