-- The words of the code, which borrow their bytes, as words with their bytes, and what stands at a place. Assumes nothing.
use Rattle.std.specs.Prelude.{ℕ, Some, None, Option, List, drop}
use Rattle.words.specs.declared.cursors.Cursor.{Cursor}
use Rattle.words.specs.declared.lexing.Word.{Word}
use Rattle.words.specs.declared.lexing.Word.TheVariants.{Letter, Number, LineEnd}
use Rattle.words.specs.Words.{Lexeme, letter, number, line_end}

-- a word with the bytes that its slice holds
abbrev pub lexeme : Word → Lexeme
lexeme (Letter bytes at) = letter bytes.now at
lexeme (Number bytes at) = number bytes.now at
lexeme (LineEnd bytes at) = line_end bytes.now at

-- the same, where there may be none
abbrev pub lexemes : Option Word → Option Lexeme
lexemes None = None
lexemes (Some w) = Some (lexeme w)

-- what stands on a sheet from a place on; nothing past the sheet's end
abbrev pub rest : Cursor → List ℕ
rest c = drop c.at c.sheet.now
