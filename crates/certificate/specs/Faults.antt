-- How the lines that are no readings are told. Assumes nothing.
use Rattle.std.specs.Prelude.{ℕ, zero, suc, ◌-◌, List, [], ◌++◌, length, take, codes, decimal}
use Rattle.std.specs.List.{flat_map}
use Rattle.records.specs.declared.batches.BadLine.{BadLine}
use Rattle.records.specs.Words.{bad_line_says}

-- each line with its fault
abbrev pub lines_say : List BadLine → List ℕ
lines_say bs = flat_map (λ b. bad_line_says b ++ codes "\n") bs

-- how many more there are, where there are some
abbrev pub more_says : ℕ → List ℕ
more_says zero = []
more_says (suc n) = codes "and " ++ (decimal (suc n) ++ codes " more\n")

-- ten of them, how many more, and what follows
abbrev pub faults_say : List BadLine → List ℕ
faults_say bs = lines_say (take 10 bs) ++ (more_says (length bs - 10) ++ codes "nothing is certified")
