-- The gaps of a log by their places. Assumes nothing.
use Rattle.std.proofs.Common.{ℕ, zero, suc, ◌<◌, List, [], ◌∷◌, length, arith}
use Rattle.std.specs.List.{AllByRecursion}
use Rattle.tables.specs.declared.points.Point.{Point}
use Rattle.logs.proofs.Gaps.{nth}
use Rattle.plans.specs.declared.gaps.Gap.{Gap}
use Rattle.plans.specs.Gaps.{gaps}

-- the gap that starts at place i
abbrev pub gap_at : List Point → ℕ → Gap
gap_at log i = record { from = nth log i; to = nth log (suc i) }

-- what holds of all gaps holds of it
pub at_gap : (log : List Point) (i : ℕ) → suc i < length log → (P : Gap → Type 0) → AllByRecursion P (gaps log) → P (gap_at log i)
at_gap [] i h P all = absurd (let z : ⊥ = omega arith in z)
at_gap (p ∷ []) i h P all = absurd (let z : ⊥ = omega arith in z)
at_gap (p ∷ (q ∷ ps)) zero h P all = all.0
at_gap (p ∷ (q ∷ ps)) (suc i) h P all = at_gap (q ∷ ps) i (omega arith) P all.1
