use Rattle.tables.proofs.Spacing.{spacing_is_lawful, spacing_asks_stops, spacing_on_diagonal, spacing_on_any_table}
use Rattle.tables.proofs.theorems.spacing_is_even.Goals as goal

pub returns : goal.returns
returns c = record { lawful = spacing_is_lawful; asks = spacing_asks_stops; diagonal = spacing_on_diagonal; any = spacing_on_any_table }
