-- What a door strip holds. Assumes nothing.
use Rattle.std.specs.Prelude.{ℕ, List}
use Rattle.strips.specs.declared.strip.DoorStrip.{DoorStrip}

-- the row of words that a door strip holds
abbrev pub words_of : DoorStrip → List ℕ
words_of l = l.words.now
