-- Tables that are written into a row gap by gap. Assumes nothing.
use Rattle.std.proofs.Common.{◌≡◌, ℕ, suc, ◌+◌, ◌-◌, ◌<◌, ◌≤◌, List, [], ◌∷◌, ◌++◌, map, length, take, drop, set, replicate, Ok, length-set, sym, refl, ap, ◌∙◌, ⊎_elim, arith}
use borrow.Rule.Slice.PartMut.{put_mid}
use Rattle.std.specs.List.{range_with_len}
use Rattle.std.proofs.lemmas.List.FromFn.{length-map-range_with_len, get_or-map-range_with_len, fill_by_all}
use Rattle.std.proofs.lemmas.List.Edits.{length-between}
use Rattle.std.proofs.lemmas.List.{append_assoc, length-append, length-replicate, get_or-replicate, get_or_append_left, get_or-append_right, take_at, drop-drop, set_split}
use Rattle.std.proofs.lemmas.Slice.{drop-append-drop}
use Rattle.std.proofs.lemmas.Bool.{cases_lt, lt-ltb, le-ltb, le-leb, lt-leb, cond-true, cond-false}
use Rattle.tables.specs.declared.points.Point.{Point}
use Rattle.denials.specs.Checks.{Decided}
use Rattle.denials.specs.Told.{told}
use Rattle.tables.specs.Log.{Rising, IsLog, span_of, last_value, low_table, high_table}
use Rattle.tables.specs.Table.{Table}
use Rattle.logs.proofs.Gaps.{nth}
use Rattle.logs.proofs.Walking.{Ahead, Step, step_by, gap_rises}
use Rattle.logs.specs.Buffers.{written, too_short, Draws}

-- a row after the first n values of a table were written into it
abbrev pub filled : Table → ℕ → List ℕ → List ℕ
filled t n old = map t (range_with_len 0 n) ++ drop n old

-- the places from a up to b of a row get the value u
abbrev pub part : List ℕ → ℕ → ℕ → ℕ → List ℕ
part cur a b u = take a cur ++ (replicate (b - a) u ++ drop b cur)

-- which is what a fill of the lent part leaves
pub part_filled : (cur new : List ℕ) (a b u : ℕ) → a ≤ b → b ≤ length cur → new ≡ replicate (length (take (b - a) (drop a cur))) u → put_mid a (b - a) cur new ≡ part cur a b u
part_filled cur new a b u le h e =
    ap (λ l. take a cur ++ (l ++ drop (b - a) (drop a cur))) (e ∙ ap (λ n. replicate n u) (length-between cur a b h))
    ∙ ap (λ l. take a cur ++ (replicate (b - a) u ++ l)) (drop-drop (b - a) a cur ∙ ap (λ n. drop n cur) (omega arith))

-- the values of a table up to b, where those from a on are all u
level : (t : Table) (a b u : ℕ) → a ≤ b → ((x : ℕ) → a ≤ x → x < b → t x ≡ u) → map t (range_with_len 0 a) ++ replicate (b - a) u ≡ map t (range_with_len 0 b)
level t a b u le is =
    fill_by_all t _ b 0 (simp (length-append, length-map-range_with_len, length-replicate) (omega arith)) (λ k h.
    ⊎_elim
    (λ (lt : k < a). get_or_append_left (map t (range_with_len 0 a)) _ 0 k (omega (arith, length-map-range_with_len t 0 a)) ∙ get_or-map-range_with_len t 0 a k k 0 lt (omega arith))
    (λ (ge : a ≤ k). get_or-append_right (map t (range_with_len 0 a)) _ a k 0 (length-map-range_with_len t 0 a) ge ∙ get_or-replicate (b - a) (k - a) u 0 (omega arith) ∙ sym (is k ge h))
    (cases_lt k a))

-- the places from a up to b get their one value
filled_more : (t : Table) (old cur : List ℕ) (a b u : ℕ) → a ≤ b → ((x : ℕ) → a ≤ x → x < b → t x ≡ u) → cur ≡ filled t a old → part cur a b u ≡ filled t b old
filled_more t old cur a b u le is e =
    rw (e, take_at (map t (range_with_len 0 a)) (drop a old) a (length-map-range_with_len t 0 a), drop-append-drop a old (map t (range_with_len 0 a)) b le (length-map-range_with_len t 0 a))
    (sym (append_assoc (map t (range_with_len 0 a)) (replicate (b - a) u) (drop b old)) ∙ ap (λ l. l ++ drop b old) (level t a b u le is))

-- one write is a part of one place
part_one : (cur : List ℕ) (a u : ℕ) → a < length cur → set cur a u ≡ part cur a (a + 1) u
part_one cur a u h =
    set_split cur a u h ∙ ap (λ n. take a cur ++ (u ∷ drop n cur)) {x = suc a} {y = a + 1} (omega arith) ∙ ap (λ n. take a cur ++ (replicate n u ++ drop (a + 1) cur)) {x = 1} {y = a + 1 - a} (omega arith)

-- of the points ahead a table has what a relation finds, and up to the first of them the row has the table's values
abbrev pub Drawn : (ℕ → ℕ → ℕ → Type 0) → List Point → List Point → List ℕ → List ℕ → Type 0
Drawn finds log [] old cur = ⊥
Drawn finds log (p ∷ ps) old cur = (t : Table) → Draws finds t log → Draws finds t (p ∷ ps) × (cur ≡ filled t p.at old)

-- at first the row is as it was
pub drawn_none : (finds : ℕ → ℕ → ℕ → Type 0) (log : List Point) (old : List ℕ) → IsLog (span_of log) log → Drawn finds log log old old
drawn_none finds [] old is = absurd is
drawn_none finds (p ∷ ps) old is = λ t d. (d, rw is.0 refl)

-- one gap more: its first point has its value, and inside it is what the relation finds
pub drawn_more : (finds : ℕ → ℕ → ℕ → Type 0) (log rest window next : List Point) → Step rest window next → (old cur new : List ℕ) (u : ℕ) → Ahead log rest → finds (nth window 0).value (nth window 1).value u → span_of log < length cur → new ≡ replicate (length (take ((nth window 1).at - ((nth window 0).at + 1)) (drop ((nth window 0).at + 1) (set cur (nth window 0).at (nth window 0).value)))) u → Drawn finds log rest old cur → Drawn finds log next old (put_mid ((nth window 0).at + 1) ((nth window 1).at - ((nth window 0).at + 1)) (set cur (nth window 0).at (nth window 0).value) new)
drawn_more finds log rest window next s old cur new u a found fits is =
    step_by
    (λ r w n. ((nth w 0).at < (nth w 1).at) × ((nth w 1).at ≤ span_of log) → finds (nth w 0).value (nth w 1).value u → new ≡ replicate (length (take ((nth w 1).at - ((nth w 0).at + 1)) (drop ((nth w 0).at + 1) (set cur (nth w 0).at (nth w 0).value)))) u → Drawn finds log r old cur → Drawn finds log n old (put_mid ((nth w 0).at + 1) ((nth w 1).at - ((nth w 0).at + 1)) (set cur (nth w 0).at (nth w 0).value) new))
    (λ p q ps gap f e drawn t draws.
    let d = drawn t draws in
    let one : set cur p.at p.value ≡ filled t (p.at + 1) old =
    part_one cur p.at p.value (omega (arith, gap.0, gap.1))
    ∙ filled_more t old cur p.at (p.at + 1) p.value (omega arith) (λ x lo hi. ap t {x = x} {y = p.at} (omega arith) ∙ d.0.0) d.1 in (
      d.0.2,
      part_filled (set cur p.at p.value) new (p.at + 1) q.at u (omega (arith, gap.0)) (omega (arith, gap.1, length-set cur p.at p.value)) e
          ∙ filled_more t old (set cur p.at p.value) (p.at + 1) q.at u (omega (arith, gap.0)) (λ x lo hi. d.0.1 u f x (omega arith) hi) one,
    ))
    rest window next s (gap_rises log rest window next s a) found is

-- the last point has its value, and the table is written
pub drawn_all : (finds : ℕ → ℕ → ℕ → Type 0) (log rest : List Point) (old cur : List ℕ) (i v : ℕ) → length rest < 2 → Ahead log rest → Drawn finds log rest old cur → span_of log < length cur → i ≡ span_of log → v ≡ last_value log → (t : Table) → Draws finds t log → set cur i v ≡ written t (span_of log) old
drawn_all finds log [] old cur i v one a d fits is_i is_v t draws = absurd a
drawn_all finds log (p ∷ []) old cur i v one a d fits is_i is_v t draws =
    let last = d t draws in
    rw (is_i, is_v, ← a.1, ← a.2)
    (part_one cur p.at p.value (omega (arith, a.1))
    ∙ filled_more t old cur p.at (p.at + 1) p.value (omega arith) (λ x lo hi. ap t {x = x} {y = p.at} (omega arith) ∙ last.0) last.1)
drawn_all finds log (p ∷ (q ∷ ps)) old cur i v one a d fits is_i is_v t draws = absurd (let z : ⊥ = omega arith in z)

-- a row that is long enough is written
pub wrote : (N len : ℕ) (P Q : Type 0) → N + 1 ≤ len → P → Decided {X = Unit {0}} told (too_short N len) (Ok tt) (λ _. P) Q
wrote N len P Q h p = rw (le-ltb len (N + 1) h) p

module _ (finds : ℕ → ℕ → ℕ → Type 0) where
  low_drawn : ((u v w : ℕ) → finds u v w → w ≡ u) → (t : Table) (p : Point) (ps : List Point) → Rising p ps → ((x : ℕ) → p.at ≤ x → t x ≡ low_table (p ∷ ps) x) → Draws finds t (p ∷ ps)
  low_drawn is t p [] r same = same p.at (omega arith)
  low_drawn is t p (q ∷ ps) r same = (
    same p.at (omega arith) ∙ cond-true _ _ _ (lt-ltb p.at q.at r.0),
    λ u f x lo hi. same x (omega arith) ∙ cond-true _ _ _ (lt-ltb x q.at hi) ∙ sym (is p.value q.value u f),
    low_drawn is t q ps r.2 (λ x h. same x (omega (arith, r.0)) ∙ cond-false _ _ _ (le-ltb x q.at h)),
  )

  -- the low table has inside a gap the value before it
  pub low_draws : ((u v w : ℕ) → finds u v w → w ≡ u) → (log : List Point) → IsLog (span_of log) log → Draws finds (low_table log) log
  low_draws is [] log_is = absurd log_is
  low_draws is (p ∷ ps) log_is = low_drawn is (low_table (p ∷ ps)) p ps log_is.2 (λ x h. refl)

  high_drawn : ((u v w : ℕ) → finds u v w → w ≡ v) → (t : Table) (p : Point) (ps : List Point) → Rising p ps → ((x : ℕ) → p.at ≤ x → t x ≡ high_table (p ∷ ps) x) → Draws finds t (p ∷ ps)
  high_drawn is t p [] r same = same p.at (omega arith) ∙ cond-true _ _ _ (le-leb p.at p.at (omega arith))
  high_drawn is t p (q ∷ ps) r same = (
    same p.at (omega arith) ∙ cond-true _ _ _ (le-leb p.at p.at (omega arith)),
    λ u f x lo hi. same x (omega arith) ∙ cond-false _ _ _ (lt-leb x p.at lo) ∙ cond-true _ _ _ (le-leb x q.at (omega arith)) ∙ sym (is p.value q.value u f),
    high_drawn is t q ps r.2 (λ x h. same x (omega (arith, r.0)) ∙ cond-false _ _ _ (lt-leb x p.at (omega (arith, r.0)))),
  )

  -- the high table has inside a gap the value after it
  pub high_draws : ((u v w : ℕ) → finds u v w → w ≡ v) → (log : List Point) → IsLog (span_of log) log → Draws finds (high_table log) log
  high_draws is [] log_is = absurd log_is
  high_draws is (p ∷ ps) log_is = high_drawn is (high_table (p ∷ ps)) p ps log_is.2 (λ x h. refl)
