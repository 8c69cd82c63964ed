-- Pasts: any row of calls on one readout from its opening on, denied ones included. Assumes nothing.
use Rattle.std.specs.Prelude.{◌≡◌, ℕ, ◌+◌, ◌*◌, ◌≤◌, Bool, true, false, cond, ◌&&◌, List, [], ◌∷◌, length, is_ok, None, Result}
use Rattle.tables.specs.declared.points.Point.{Point}
use Rattle.tables.specs.Least.{least_width}
use Rattle.tables.specs.Log.{IsLog, last_of, width}
use Rattle.tables.specs.Table.{diagonal}
use Rattle.readout.specs.declared.events.Event.{Event}
use Rattle.readout.specs.declared.events.Event.TheVariants.{Take, Answer, Withdraw, Limits}
use Rattle.readout.specs.declared.events.Outcome.{Outcome}
use Rattle.readout.specs.declared.events.Refusal.{Refusal}
use Rattle.readout.specs.Calls.{open_denied, opened, stepped, summary}
use Rattle.readout.specs.Out.{tickets}
use Rattle.readout.specs.Views.{View}

-- a call with what it gave, or why it was refused
abbrev pub Call : Type 0
Call = Event × Result Outcome Refusal

-- the calls of a past
abbrev pub past : View → List Event → List Call
past v [] = []
past v (e ∷ es) = (e, (stepped v e).1) ∷ past (stepped v e).0 es

-- the view after it
abbrev pub after : View → List Event → View
after v [] = v
after v (e ∷ es) = after (stepped v e).0 es

-- accepted means not refused
abbrev pub accepted : Result Outcome Refusal → Bool
accepted = is_ok

-- the kinds of calls that are counted
abbrev pub is_take : Event → Bool
is_take (Take x) = true
is_take (Answer t y) = false
is_take (Withdraw t) = false
is_take Limits = false

abbrev pub is_answer : Event → Bool
is_answer (Take x) = false
is_answer (Answer t y) = true
is_answer (Withdraw t) = false
is_answer Limits = false

abbrev pub is_withdraw : Event → Bool
is_withdraw (Take x) = false
is_withdraw (Answer t y) = false
is_withdraw (Withdraw t) = true
is_withdraw Limits = false

-- 1 for an accepted call of a kind, and 0 for any other
abbrev pub one : (Event → Bool) → Call → ℕ
one kind c = cond (kind c.0 && accepted c.1) 1 0

-- how many accepted calls of a kind there are
abbrev pub count : (Event → Bool) → List Call → ℕ
count kind [] = 0
count kind (c ∷ cs) = one kind c + count kind cs

-- an answer has the diagonal's value at its argument
abbrev pub OnDiagonal : ℕ → Event → Type 0
OnDiagonal c (Take x) = Unit {0}
OnDiagonal c (Answer t y) = y ≡ diagonal c t.at
OnDiagonal c (Withdraw t) = Unit {0}
OnDiagonal c Limits = Unit {0}

-- every accepted answer has it
abbrev pub AllOnDiagonal : ℕ → List Call → Type 0
AllOnDiagonal c [] = Unit {0}
AllOnDiagonal c (p ∷ ps) = (accepted p.1 ≡ true → OnDiagonal c p.0) × AllOnDiagonal c ps

-- points that run from (0, a) to (n, b)
abbrev pub FromTo : ℕ → ℕ → ℕ → List Point → Type 0
FromTo n a b [] = ⊥
FromTo n a b (p ∷ ps) = (p ≡ record { at = 0; value = a }) × (last_of p ps ≡ record { at = n; value = b })

-- what holds after the calls of a past on a readout opened with span N, ends A and B and budget n
pub record Kept (N A B n : ℕ) (calls : List Call) (v : View) : Type 0 where
  -- limits counts the accepted answers
  pub counts : (summary v).answers ≡ count is_answer calls
  -- left is n − accepted takes + accepted withdrawals
  pub left : v.left + count is_take calls ≡ n + count is_withdraw calls
  -- the tickets out are accepted takes − accepted answers − accepted withdrawals
  pub out : tickets v.out + count is_answer calls + count is_withdraw calls ≡ count is_take calls
  -- so n is accepted answers + left + tickets out
  pub budget : count is_answer calls + v.left + tickets v.out ≡ n
  -- the points are a log between the ends, with one point more for each accepted answer
  pub log : IsLog N v.points
  pub ends : FromTo N A B v.points
  pub points : length v.points ≡ count is_answer calls + 2
  -- on the diagonal of rise c the width is at least c times the least width for the count
  pub floor : (c : ℕ) → A ≡ 0 → B ≡ c * N → AllOnDiagonal c calls → c * least_width N (count is_answer calls) ≤ width v.points

-- the law of pasts: for every opening that is accepted and every row of events
abbrev pub History : Type 0
History = (N A B n m : ℕ) → open_denied N A B n ≡ None → (events : List Event) → Kept N A B n (past (opened N A B n m) events) (after (opened N A B n m) events)
