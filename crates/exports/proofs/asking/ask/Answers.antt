use Rattle.std.proofs.Common.{◌≡◌, ℕ, Some, None, Ok, Err, Option, Result}
use Rattle.denials.specs.Checks.{Decided}
use Rattle.denials.specs.declared.Denial.{Denial}
use Rattle.readout.specs.Views.{View}
use Rattle.trials.specs.Tries.{number}
use Rattle.exports.proofs.asking.ask.Goals as goal

-- a decided call leaves the one view or the other
settled : (tells : Denial → ℕ) (o : Option ℕ) (r : Result (Unit {0}) Denial) (w before after : View) → Decided tells o r (λ _. w ≡ after) (w ≡ before) → w ≡ elim o [ Some d ↦ before | None ↦ after ]
settled tells (Some d) (Err e) w before after h = h.1
settled tells (Some d) (Ok x) w before after h = absurd h
settled tells None (Err e) w before after h = absurd h
settled tells None (Ok x) w before after h = h

pub returns : goal.returns
returns c = settled number _ c.try_ask.result _ _ _ c.try_ask.ensures
