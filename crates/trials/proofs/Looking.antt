-- Looks before and after a ticket is brought. Assumes nothing.
use Rattle.std.proofs.Common.{◌≡◌, ℕ, Some, None, Option, sym, ap, ◌∙◌, arith}
use Rattle.std.specs.Option.{option_map}
use Rattle.readout.specs.declared.tickets.Returned.{Returned}
use Rattle.readout.specs.declared.tickets.Ticket.{Ticket}
use Rattle.readout.specs.Calls.{taken}
use Rattle.readout.specs.Tickets.{ticket_of}
use Rattle.readout.specs.Views.{View}
use Rattle.trials.specs.declared.looks.Look.{Look}
use Rattle.trials.specs.declared.tries.Purpose.{Purpose}
use Rattle.trials.specs.Looks.{seen, AroundBy, Around}
use Rattle.trials.specs.Tries.{number_back, bring_denied}
use Rattle.trials.proofs.Trying.{Gave}

by_number : (o : Option Returned) (n : ℕ) (v : View) (x : ℕ) (p : Purpose) (looks : Look × Look) (w : View) → option_map number_back o ≡ Some n → looks ≡ (seen (taken v x), seen (taken v x)) → w ≡ v → AroundBy o v x p looks w
by_number (Some d) n v x p looks w e l h = (l, h)
by_number None n v x p looks w e l h = absurd (let z : ◌≡◌ {A = ℕ} 0 1 = cc in omega arith)

module _ {v : View} {x : ℕ} {t : Ticket} {u : View} (g : Gave v x t u) (p : Purpose) (before after : Look) where
  -- the ticket was brought at the view after the take
  there : bring_denied (taken v x) (ticket_of v.mark x) p ≡ bring_denied u t p
  there = sym (λ i. bring_denied (g.out i) (g.ticket i) p)

  -- a ticket that came back
  pub around_err : (w : View) (n : ℕ) → option_map number_back (bring_denied u t p) ≡ Some n → before ≡ seen u → after ≡ seen u → w ≡ v → Around v x p (before, after) w
  around_err w n tells e f h =
      by_number _ n v x p (before, after) w (ap (option_map number_back) there ∙ tells)
      (λ i. ((e ∙ ap seen g.out) i, (f ∙ ap seen g.out) i)) h
