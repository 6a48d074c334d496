use Rattle.std.proofs.Common.{sym, ap, ◌∙◌}
use Rattle.std.specs.Option.{option_map}
use Rattle.std.proofs.Math.Facts.{Fits-of_lt}
use Rattle.mrc_model.specs.CallReceive.{first_ready}
use Rattle.mrc_transit.specs.Receiving.{found_source}
use Rattle.mrc_transit.proofs.ReceiveCalls.{first_short}
use Rattle.mrc_transit.proofs.receiving.member_source.Goals as goal

pub overflow_cast-result : goal.overflow_cast-result
overflow_cast-result c =
    Fits-of_lt (first_short c.args.store.now c.args.set c.args.space.now
    (found_source c.in-Some.found) c.bounds.ensures.kept
    (ap (first_ready c.args.store.now c.args.set) (sym c.iter.ensures)
    ∙ sym c.first_ready.ensures ∙ ap (option_map found_source) c.in-Some.is))
