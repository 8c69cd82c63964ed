use Rattle.std.proofs.Common.{◌≡◌, ◌∙◌, length, get_or, drop, ap, sym, arith, rules}
use Rattle.std.proofs.lemmas.Bool.{ltb-false}
use Rattle.words.specs.Borrowed.{rest}
use Rattle.words.specs.Words.{up_to_gap}
use Rattle.jobs.specs.Jobs.{formed_of}
use Rattle.jobs.specs.Reading.{number_in}
use Rattle.jobs.specs.Values.{listed}
use Rattle.jobs.proofs.Taking.{take_none, take_full, take_more}
use Rattle.jobs.proofs.reading.numbers_from.Goals as goal

pub returns-in_err-n : goal.returns-in_err-n
returns-in_err-n c =
    let space : get_or c.rest.result.now 0 0 ≡ 32 = search rules in
    rw c.from_residual.ensures (λ k. ap (formed_of k) c.loop-cursor.invariant
    ∙ take_none (rest c.loop-cursor.cursor) (listed c.loop-cursor.values) k (omega (arith, ap length c.rest.ensures)) (ap (λ bs. get_or bs 0 0) (sym c.rest.ensures) ∙ space) (c.in_err-n.ensures.number ∙ ap number_in c.skip.ensures.rest))

pub returns-then-not-put : goal.returns-then-not-put
returns-then-not-put c k =
    let space : get_or c.rest.result.now 0 0 ≡ 32 = search rules in
    ap (formed_of k) c.loop-cursor.invariant
    ∙ take_full (rest c.loop-cursor.cursor) c.in_ok-n.n (listed c.loop-cursor.values) k (omega (arith, ap length c.rest.ensures)) (ap (λ bs. get_or bs 0 0) (sym c.rest.ensures) ∙ space) (c.in_ok-n.ensures.number ∙ ap number_in c.skip.ensures.rest) (ltb-false _ _ (sym c.if-not-put.ensures.room))

pub loop-cursor-preserved : goal.loop-cursor-preserved
loop-cursor-preserved c =
    let space : get_or c.rest.result.now 0 0 ≡ 32 = search rules in
    c.loop-cursor.invariant
    ∙ take_more (rest c.loop-cursor.cursor) (rest c.in_ok-n.after) c.in_ok-n.n (listed c.loop-cursor.values) (listed c.put.new.self) (omega (arith, ap length c.rest.ensures)) (ap (λ bs. get_or bs 0 0) (sym c.rest.ensures) ∙ space) (c.in_ok-n.ensures.number ∙ ap number_in c.skip.ensures.rest)
    (c.in_ok-n.ensures.after ∙ ap (λ bs. drop (length (up_to_gap bs)) bs) c.skip.ensures.rest) (c.put.ensures.put c.if-not-put.false)
