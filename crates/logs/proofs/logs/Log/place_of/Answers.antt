use Rattle.std.proofs.Common.{◌≡◌, sym, subst, leb, true, false, rules}
use Rattle.std.proofs.lemmas.List.Sorted.{IsPartitionedBy-leb, IsPartitionPoint-from_clause}
use Rattle.std.specs.List.Sorted.{IsPartitionedBy, IsPartitionPoint}
use Rattle.tables.specs.declared.points.Point.{Point}
use Rattle.logs.specs.Fits.{place, Beside}
use Rattle.logs.specs.Points.{points}
use Rattle.logs.proofs.Gaps.{at_up, place_by, beside}
use Rattle.logs.proofs.Sound.{points_are_log}
use Rattle.logs.proofs.logs.Log.place_of.Goals as goal

pub returns : goal.returns
returns c =
    let log = points c.args.self.now in
    let is = points_are_log c.args.self.now in
    let low : IsPartitionedBy (λ (p : Point). leb p.at c.args.at) c.points.result.now = rw c.points.ensures (IsPartitionedBy-leb (λ (p : Point). p.at) log c.args.at (at_up log is)) in
    let split : IsPartitionPoint (λ (p : Point). leb p.at c.args.at ≡ true) (λ p. leb p.at c.args.at ≡ false) c.points.result.now c.partition_point.result =
    IsPartitionPoint-from_clause (λ (p : Point). leb p.at c.args.at) c.points.result.now c.partition_point.result c.partition_point.ensures.partitioned low (λ a r f' k. search rules) in
    let is_place : c.partition_point.result ≡ place c.args.at log =
    sym (place_by c.args.at log c.partition_point.result (rw c.points.ensures at c.partition_point.ensures.bound) (rw c.points.ensures at split)) in
    record { place = is_place; beside = subst (Beside log c.args.at) (sym is_place) (beside log c.args.at is) }
