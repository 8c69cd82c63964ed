use Rattle.std.proofs.Common.{◌≡◌, ◌+◌, ◌-◌, ◌/◌, ◌%◌, ◌^◌, ◌<◌, get_or, take, decimal, length, sym, ap, ◌∙◌, arith, rules}
use Rattle.std.proofs.lemmas.Iterator.Consumers.{YieldsList-turn, YieldsList-end, YieldsList-from_enumerate}
use Rattle.std.proofs.lemmas.Iterator.Adapters.{YieldsList-from_rev_slice}
use Rattle.std.proofs.lemmas.List.{take_all, length_push}
use Rattle.words.specs.Writing.{begun}
use Rattle.words.proofs.Beginning.{begun_next}
use Rattle.words.proofs.Places.{powers, power_turn, digit_at, length-powers_down}
use Rattle.words.proofs.digits.write_digits.Goals as goal

pub nonzero_div-out : goal.nonzero_div-out
nonzero_div-out c =
    let chain = YieldsList-from_enumerate (YieldsList-from_rev_slice (take c.digit_count-count.result powers) cc) cc in
    let t = YieldsList-turn chain c.loop-i.yielded _ c.loop-i.yielded_by _ _ _ c.in-Some.is c.next.ensures.steps in
    (power_turn _ _ _ _ c.digit_count-count.ensures.few t).3

pub loop-i-preserved : goal.loop-i-preserved
loop-i-preserved c =
    let chain = YieldsList-from_enumerate (YieldsList-from_rev_slice (take c.digit_count-count.result powers) cc) cc in
    let t = YieldsList-turn chain c.loop-i.yielded _ c.loop-i.yielded_by _ _ _ c.in-Some.is c.next.ensures.steps in
    let p = power_turn _ _ _ _ c.digit_count-count.ensures.few t in
    let k = length c.loop-i.yielded in
    let lt : k < length (decimal c.args.n) = omega (arith, p.0, c.digit_count-count.ensures.count) in
    let digit : 48 + c.args.n / c.in-Some.power.now % 10 ≡ get_or (decimal c.args.n) k 0 =
    ap (λ q. 48 + c.args.n / q % 10) (p.2 ∙ ap (λ m. 10 ^ (m - 1 - k)) c.digit_count-count.ensures.count) ∙ sym (digit_at c.args.n c.ranges.n.fits k lt) in
    record {
      ready = search rules;
      finite = search rules;
      row = begun_next (decimal c.args.n) c.args.out.now c.loop-i.out k c.in-Some.i _ _ lt c.requires.fits c.loop-i.invariant.row p.1 (length_push c.loop-i.yielded (c.in-Some.i, c.in-Some.power)) digit;
    }

pub returns-clause-row : goal.returns-clause-row
returns-clause-row c =
    let chain = YieldsList-from_enumerate (YieldsList-from_rev_slice (take c.digit_count-count.result powers) cc) cc in
    let t = YieldsList-end chain c.loop-i.yielded _ c.loop-i.yielded_by _ _ c.in-None.is c.next.ensures.steps in
    let all : length c.loop-i.yielded ≡ length (decimal c.args.n) = t.1 ∙ length-powers_down c.digit_count-count.result c.digit_count-count.ensures.few ∙ c.digit_count-count.ensures.count in
    c.loop-i.invariant.row ∙ ap (λ ds. begun ds c.args.out.now) (take_all (length c.loop-i.yielded) (decimal c.args.n) (omega arith))
