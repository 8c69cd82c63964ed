-- What a counter holds. Assumes nothing.
use Rattle.std.specs.Prelude.{List}
use Rattle.counters.specs.declared.counter.Counter.{Counter}

-- the readings that a counter holds
abbrev pub readings_of : {T : Type 0} → Counter T → List T
readings_of l = l.readings.now
