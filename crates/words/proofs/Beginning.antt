-- Rows with bytes written into their first places, or from a place on. Assumes nothing.
use Rattle.std.proofs.Common.{◌≡◌, ℕ, ◌+◌, ◌<◌, ◌≤◌, List, [], ◌∷◌, ◌++◌, ◌-◌, length, get_or, take, drop, set, sym, ap, ◌∙◌, append_assoc, append-nil, arith, length-append, length-drop}
use Rattle.std.proofs.Math.Seq.{set-append_seam}
use Rattle.std.proofs.lemmas.List.{take_at, drop_at, take_all, drop_all, drop_more, drop-drop, length-take-le, take_more}
use borrow.Rule.Slice.PartMut.{put_mid}
use Rattle.words.specs.Writing.{begun, overwritten}

-- a byte written after others
pub begun_push : (bs row : List ℕ) (x : ℕ) → length bs < length row → set (begun bs row) (length bs) x ≡ begun (bs ++ (x ∷ [])) row
begun_push bs row x lt =
    ap (λ ys. set (bs ++ ys) (length bs) x) (drop_more row (length bs) 0 lt)
    ∙ set-append_seam bs (get_or row (length bs) 0) (drop (length bs + 1) row) x
    ∙ sym (append_assoc bs (x ∷ []) (drop (length bs + 1) row))
    ∙ ap (λ n. (bs ++ (x ∷ [])) ++ drop n row) (sym (length-append bs (x ∷ [])))

-- the next of these bytes written after the first k
pub begun_next : (bs row out : List ℕ) (k i m x : ℕ) → k < length bs → length bs ≤ length row → out ≡ begun (take k bs) row → i ≡ k → m ≡ k + 1 → x ≡ get_or bs k 0 → set out i x ≡ begun (take m bs) row
begun_next bs row out k i m x lt fits is at more e =
    let long : length (take k bs) ≡ k = length-take-le k bs (omega arith) in
    ap (λ xs. set xs i x) is
    ∙ ap (λ n. set (begun (take k bs) row) n x) (at ∙ sym long)
    ∙ begun_push (take k bs) row x (omega arith)
    ∙ ap (λ xs. begun xs row) (ap (λ d. take k bs ++ (d ∷ [])) e ∙ sym (take_more bs k 0 lt) ∙ ap (λ n. take n bs) (sym more))

-- bytes written into the rest of a row, after those that it begins with
pub begun_after : (a b row out part : List ℕ) (at k : ℕ) → out ≡ begun a row → at ≡ length a → at ≤ length row → k ≡ length out - at → part ≡ begun b (take k (drop at out)) → put_mid at k out part ≡ begun (a ++ b) row
begun_after a b row out part at k is end fits rest made =
    let front : take at out ≡ a = ap (take at) is ∙ take_at a (drop (length a) row) at (sym end) in
    let back : drop at out ≡ drop at row = ap (drop at) is ∙ drop_at a (drop (length a) row) at (sym end) ∙ ap (λ n. drop n row) (sym end) in
    let long : length (drop at out) ≤ k = omega (arith, length-drop at out) in
    let part_is : part ≡ b ++ drop (length b) (drop at row) = made ∙ ap (begun b) (take_all k (drop at out) long ∙ back) in
    rw (drop_all k (drop at out) long, front, part_is, append-nil, length-append a b, ← end)
    (ap (λ ys. a ++ (b ++ ys)) (drop-drop (length b) at row) ∙ sym (append_assoc a b (drop (at + length b) row)))

-- bytes written into the first places of a row's rest are written from that place on
pub begun_from : (bs row part : List ℕ) (at k : ℕ) → at ≤ length row → k ≡ length row - at → part ≡ begun bs (take k (drop at row)) → put_mid at k row part ≡ overwritten at bs row
begun_from bs row part at k fits rest made =
    let long : length (drop at row) ≤ k = omega (arith, length-drop at row) in
    let part_is : part ≡ bs ++ drop (length bs) (drop at row) = made ∙ ap (begun bs) (take_all k (drop at row) long) in
    rw (drop_all k (drop at row) long, part_is, append-nil) (ap (λ ys. take at row ++ (bs ++ ys)) (drop-drop (length bs) at row))
