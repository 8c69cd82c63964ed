-- A walk over the gaps of a log: which points are still ahead. Assumes nothing.
use Rattle.std.proofs.Common.{◌≡◌, ◌<◌, ◌≤◌, List, [], ◌∷◌, length, take, drop, Some, sym, refl, subst, arith}
use Rattle.std.specs.Slice.Iter.{windows_rest, windows_size, windows_steps}
use Rattle.std.specs.declared.slice.Windows.{Windows}
use denote.Ref.{Bor}
use Rattle.tables.specs.declared.points.Point.{Point}
use Rattle.tables.specs.Log.{Rising, IsLog, span_of, last_value}
use Rattle.logs.proofs.Gaps.{nth, at_le_last}

-- a row of points that rises to the log's end
abbrev pub Ahead : List Point → List Point → Type 0
Ahead log [] = ⊥
Ahead log (p ∷ ps) = Rising p ps × (span_of (p ∷ ps) ≡ span_of log) × (last_value (p ∷ ps) ≡ last_value log)

-- at first it is the log
pub ahead_all : (log : List Point) → IsLog (span_of log) log → Ahead log log
ahead_all [] is = absurd is
ahead_all (p ∷ ps) is = (is.2, refl, refl)

-- one step: of the points ahead the first two are in the window, and the first falls away
pub record Step (rest window next : List Point) : Type 0 where
  pub two : 2 ≤ length rest
  pub is : window ≡ take 2 rest
  pub on : next ≡ drop 1 rest

-- which is what an iterator over windows of two takes
pub step_of : (s t : Windows Point) (w : Bor (List Point)) → windows_size s ≡ 2 → windows_steps s (Some w) t → Step (windows_rest s) w.now (windows_rest t)
step_of s t w two steps = record {
  two = subst (λ n. n ≤ length (windows_rest s)) two steps.1.0;
  is = subst (λ n. w.now ≡ take n (windows_rest s)) two steps.1.1;
  on = steps.1.2;
}

-- what holds of any two points with others behind them holds of a step
pub step_by : (P : List Point → List Point → List Point → Type 0) → ((p q : Point) (ps : List Point) → P (p ∷ (q ∷ ps)) (p ∷ (q ∷ [])) (q ∷ ps)) → (rest window next : List Point) → Step rest window next → P rest window next
step_by P f [] window next s = absurd (let z : ⊥ = omega (arith, s.two) in z)
step_by P f (p ∷ []) window next s = absurd (let z : ⊥ = omega (arith, s.two) in z)
step_by P f (p ∷ (q ∷ ps)) window next s =
    subst (λ l. P (p ∷ (q ∷ ps)) window l) (sym s.on) (subst (λ l. P (p ∷ (q ∷ ps)) l (q ∷ ps)) (sym s.is) (f p q ps))

module _ (log rest window next : List Point) (s : Step rest window next) where
  -- a step goes on along the log
  pub ahead_more : Ahead log rest → Ahead log next
  ahead_more = step_by (λ r w n. Ahead log r → Ahead log n) (λ p q ps a. (a.0.2, a.1, a.2)) rest window next s

  -- over a gap of which the end is not past the span
  pub gap_rises : Ahead log rest → ((nth window 0).at < (nth window 1).at) × ((nth window 1).at ≤ span_of log)
  gap_rises =
      step_by (λ r w n. Ahead log r → ((nth w 0).at < (nth w 1).at) × ((nth w 1).at ≤ span_of log))
      (λ p q ps a. (a.0.0, subst (λ n. q.at ≤ n) a.1 (at_le_last q ps a.0.2)))
      rest window next s
