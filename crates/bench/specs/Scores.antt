-- The score of a plan. Assumes nothing.
use Rattle.std.specs.Prelude.{◌≡◌, ℕ, ◌+◌, ◌*◌, ◌<◌, false, ◌||◌, List, [], ◌∷◌, Option, nat_lt}
use Rattle.denials.specs.Bounds.{bad_span, bad_budget}
use Rattle.denials.specs.Checks.{first}
use Rattle.logs.specs.Buffers.{written}
use Rattle.loggers.specs.declared.diagonals.Diagonal.{Diagonal}
use Rattle.loggers.specs.Makings.{bad_rise}
use Rattle.tables.specs.declared.points.Point.{Point}
use Rattle.tables.specs.Bench.{Benched}
use Rattle.tables.specs.Least.{least_width}
use Rattle.tables.specs.Log.{width, low_table, high_table}
use Rattle.tables.specs.Plan.{Plan}
use Rattle.tables.specs.Run.{WholeRun}
use Rattle.tables.specs.Table.{diagonal}
use Rattle.bench.specs.declared.scoring.Widths.{Widths}

-- scoring with span N, rise c and n questions into rows of these lengths: denials 1, 12, 3 and 10
abbrev pub score_denied : ℕ → ℕ → ℕ → ℕ → ℕ → Option (ℕ × List ℕ)
score_denied N c n low-len high-len =
    first
    ((bad_span N, (1, []))
    ∷ (bad_rise N c, (12, []))
    ∷ (bad_budget N n, (3, []))
    ∷ (nat_lt low-len (N + 1) || nat_lt high-len (N + 1), (10, (N + 1) ∷ []))
    ∷ [])

-- a diagonal on which a plan may be scored with n questions into rows of these lengths
pub record Fit (N c n low-len high-len : ℕ) (d : Diagonal) : Type 0 where
  pub span : d.span ≡ N
  pub rise : d.rise ≡ c
  pub budget : bad_budget N n ≡ false
  pub low_fits : N < low-len
  pub high_fits : N < high-len

-- the score of a plan's run with n questions on the diagonal of rise c and span N, and the rows after it
pub record Scored (plan : Plan) (c N n : ℕ) (low-old low-new high-old high-new : List ℕ) (s : Widths) : Type 0 where
  pub questions : List ℕ
  pub log : List Point
  pub run : WholeRun plan (diagonal c) N n questions log
  pub width_is : s.width ≡ width log
  pub least_is : s.least ≡ c * least_width N n
  pub low_row : low-new ≡ written (low_table log) N low-old
  pub high_row : high-new ≡ written (high_table log) N high-old
  pub benched : Benched plan c N n questions log
