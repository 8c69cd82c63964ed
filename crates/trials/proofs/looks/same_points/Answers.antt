use Rattle.std.proofs.Common.{◌≡◌, min, length, refl, arith, rules}
use Rattle.std.proofs.lemmas.Slice.Zip.{zip_end}
use Rattle.trials.proofs.Matching.{all_same}
use Rattle.trials.proofs.looks.same_points.Goals as goal

pub returns : goal.returns
returns c =
    let all : length c.loop-p.yielded ≡ min (length c.args.points.now) (length c.args.pairs.now) =
    zip_end c.args.points.now c.args.pairs.now c.loop-p.yielded c.into_iter-p-iterator.result c.loop-p.p-iterator c.next.new.self c.next.result (search rules) (search rules) c.loop-p.yielded_by c.in-None.is c.next.ensures.steps in
    (λ _. all_same c.args.points.now c.args.pairs.now (omega arith) (λ k h. c.loop-p.invariant k (omega arith)), λ _. refl)
