-- A run of a plan on a table: which arguments were asked, in which order, and which log is left. Assumes nothing.
use Rattle.std.specs.Prelude.{◌≡◌, ℕ, zero, suc, List, [], ◌∷◌, Some, None}
use Rattle.tables.specs.declared.points.Point.{Point}
use Rattle.tables.specs.Log.{insert, fresh}
use Rattle.tables.specs.Plan.{Plan}
use Rattle.tables.specs.Table.{Table}

-- Run plan t n log xs end: with n questions left at log, the plan asks xs of the table t and leaves end
pub data Run (plan : Plan) (t : Table) : ℕ → List Point → List ℕ → List Point → Type 0 where
  -- no question is left
  spent : {log : List Point} → Run plan t zero log [] log
  -- the plan has nothing to ask
  done : {n : ℕ} {log : List Point} → plan log ≡ None → Run plan t (suc n) log [] log
  -- the plan's answer for the log is asked, and the point goes into the log
  asks : {n x : ℕ} {log end : List Point} {xs : List ℕ} → plan log ≡ Some x → Run plan t n (insert (record { at = x; value = t x }) log) xs end → Run plan t (suc n) log (x ∷ xs) end

-- a whole run with n questions on a table of span N: it starts from the table's ends
abbrev pub WholeRun : Plan → Table → ℕ → ℕ → List ℕ → List Point → Type 0
WholeRun plan t N n xs end = Run plan t n (fresh N (t 0) (t N)) xs end
