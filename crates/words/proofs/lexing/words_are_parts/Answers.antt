use Rattle.words.proofs.Lexemes.{words_are_parts, words_are_of_their_kind}
use Rattle.words.proofs.lexing.words_are_parts.Goals as goal

pub returns : goal.returns
returns c = record { parts = words_are_parts; kinds = words_are_of_their_kind }
