use Rattle.words.proofs.Decimals.{numbers_are_decimal, reads_back}
use Rattle.words.proofs.numbers.numbers_read_back.Goals as goal

pub returns : goal.returns
returns c = record { decimal = numbers_are_decimal; back = reads_back }
