use Rattle.std.proofs.Common.{◌≡◌, ◌/◌, get_or, take, ap, ◌<◌, arith}
use lib.Count.{ones}
use Rattle.std.proofs.lemmas.List.{get_or-take, length-take-le}
use Rattle.std.proofs.lemmas.Nat.{ones-le}
use Rattle.strips.proofs.Counts.{whole_ones, rest_ones}
use Rattle.strips.proofs.strip.making.ones_before.Goals as goal

pub loop-word-preserved : goal.loop-word-preserved
loop-word-preserved c =
    let ws = c.args.words.now in
    let i = c.loop-word.word-index in
    let lt : i < c.args.x / 64 = omega (arith, length-take-le (c.args.x / 64) ws (omega arith)) in
    let same : get_or (take (c.args.x / 64) ws) i 0 ≡ get_or ws i 0 = get_or-take (c.args.x / 64) ws i 0 lt in
    let fits = (c.type_inv.words i).fits in (
      omega (arith, lt),
      omega (arith, ap ones same, whole_ones ws i c.loop-word.total (omega (arith, lt)) fits c.loop-word.invariant.1),
      omega (arith, ap ones same, ones-le 64 (get_or ws i 0) fits),
    )

pub returns : goal.returns
returns c = rest_ones c.args.words.now c.args.x c.loop-word.word-index c.loop-word.total (omega (arith, length-take-le (c.args.x / 64) c.args.words.now (omega arith))) (omega arith) c.loop-word.invariant.1
