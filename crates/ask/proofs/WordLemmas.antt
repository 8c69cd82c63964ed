-- What loops over the words of a line find. Assumes nothing.
use Rattle.std.proofs.Common.{◌≡◌, ℕ, ◌+◌, ◌-◌, ◌<◌, ◌≤◌, Bool, true, false, cond, nat_lt, List, [], ◌∷◌, ◌++◌, length, map, take, drop, get_or, Bor, Some, None, Ok, Err, Option, Result, refl, sym, ap, subst, ◌∙◌, arith, take_all}
use Rattle.std.specs.List.{position, position_or_len}
use Rattle.std.specs.Option.{unwrap_or}
use Rattle.std.specs.Result.{IsErrAnd}
use Rattle.std.proofs.lemmas.Bool.Decides.{nat_tests}
use Rattle.std.proofs.lemmas.List.{take_more}
use Rattle.ask.specs.declared.kinds.Kind.{Kind}
use Rattle.ask.specs.declared.lines.Fault.{Fault}
use Rattle.ask.specs.declared.lines.Line.{Line}
use Rattle.ask.specs.declared.lines.Unread.{Unread}
use Rattle.ask.specs.declared.lines.Unread.TheVariants as unread
use Rattle.ask.specs.Reading.{Says}
use Rattle.ask.specs.Words.{Words, is_remark, said_words, number_of, IfRead, ReadsAfter, ReadsWords}

-- the numbers of the first n words
abbrev pub numbers_before : Words → ℕ → List ℕ
numbers_before ws n = map (λ (w : Bor (List ℕ)). number_of w.now) (take n ws)

-- one word more
pub numbers_more : (ws : Words) (i : ℕ) (d : Bor (List ℕ)) (ns : List ℕ) (n : ℕ) → i < length ws → ns ≡ numbers_before ws i → n ≡ number_of (get_or ws i d).now → ns ++ (n ∷ []) ≡ numbers_before ws (i + 1)
numbers_more ws i d ns n lt so is = rw (so, is, take_more ws i d lt) (grow (take i ws) (get_or ws i d))
  where
    grow : (xs : Words) (w : Bor (List ℕ)) → map (λ (w : Bor (List ℕ)). number_of w.now) xs ++ (number_of w.now ∷ []) ≡ map (λ (w : Bor (List ℕ)). number_of w.now) (xs ++ (w ∷ []))
    grow [] w = refl
    grow (x ∷ xs) w = ap (λ ms. number_of x.now ∷ ms) (grow xs w)

-- the words before the place of the first remark, or all where there is none
pub before_said : (ws : Words) (o : Option ℕ) (n : ℕ) → o ≡ position (λ (w : Bor (List ℕ)). is_remark w.now) ws → n ≡ unwrap_or o (length ws) → take n ws ≡ said_words ws
before_said ws o n is so = rw (so, is) (by_place ws (position_or_len (λ (w : Bor (List ℕ)). is_remark w.now) ws) (nat_lt (position_or_len (λ (w : Bor (List ℕ)). is_remark w.now) ws) (length ws)) refl)
  where
    by_place : (ws : Words) (k : ℕ) (b : Bool) → nat_lt k (length ws) ≡ b → take (unwrap_or (cond b (Some k) None) (length ws)) ws ≡ take k ws
    by_place ws k true lt = refl
    by_place ws k false lt =
        let le : length ws ≤ k = grind (arith, nat_tests) in
        take_all (length ws) ws (omega arith) ∙ sym (take_all k ws le)

-- a fault is what a reading gives that fails by it
pub faulty : {X : Type 0} (r : Result X Unread) (f : Fault) (P : Result X Fault → Type 0) → IsErrAnd r (λ e. e ≡ unread.Unclear f) → P (Err f) → IfRead r P
faulty (Ok x) f P is p = absurd is
faulty (Err e) f P is p = rw is p

-- a failure is passed on
pub passed_on : {X Y : Type 0} (u : Unread) (r : Result Y Unread) (P : Result X Fault → Type 0) (Q : Result Y Fault → Type 0) → IsErrAnd r (λ e. e ≡ u) → IfRead {X = X} (Err u) P → ((f : Fault) → P (Err f) → Q (Err f)) → IfRead r Q
passed_on u (Ok x) P Q is p gives = absurd is
passed_on (unread.Memory e) (Err v) P Q is p gives = rw is tt
passed_on (unread.Unclear f) (Err v) P Q is p gives = rw is (gives f p)

-- what is read says more
pub read_weaker : {X : Type 0} (r : Result X Unread) (P Q : Result X Fault → Type 0) → ((x : Result X Fault) → P x → Q x) → IfRead r P → IfRead r Q
read_weaker (Ok x) P Q gives p = gives (Ok x) p
read_weaker (Err (unread.Unclear f)) P Q gives p = gives (Err f) p
read_weaker (Err (unread.Memory e)) P Q gives p = tt

-- what the first word and those after it make of a line
pub from_parts : (ws : Words) (d : Bor (List ℕ)) (kind : Option Kind) (r : Result (Option Line) Fault) → 1 ≤ length ws → Says (get_or ws 0 d).now kind → ReadsAfter kind (get_or ws 0 d) (take (length ws - 1) (drop 1 ws)) r → ReadsWords ws r
from_parts [] d kind r some says after = absurd (let z : ⊥ = omega arith in z)
from_parts (w ∷ ws) d kind r some says after =
    (kind, says, subst (λ rest. ReadsAfter kind w rest r) (take_all (length (w ∷ ws) - 1) ws (omega arith)) after)
