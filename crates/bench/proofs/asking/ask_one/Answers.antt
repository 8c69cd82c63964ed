use Rattle.readout.specs.Views.{view}
use Rattle.bench.proofs.Answering.{never_back}
use Rattle.bench.proofs.asking.ask_one.Goals as goal

pub unwrap-requires : goal.unwrap-requires
unwrap-requires g c =
    never_back (g.L.Logger.table c.args.logger.now) (g.L.Logger.extent c.args.logger.now) (view c.args.place.now) c.args.x
    (g.L.Logger.sound c.args.logger.now).2 c.requires _ _ (view c.take.new.self) _ c.take.ensures _ c.unwrap-ticket.ensures
    _ c.count.ensures _ c.unwrap-value.ensures _ _ _ c.answer.ensures
