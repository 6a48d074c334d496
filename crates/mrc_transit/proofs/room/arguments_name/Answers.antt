use Rattle.std.proofs.Common.{◌∙◌, rules, tests}
use Rattle.std.specs.List.{list_any}
use Rattle.std.proofs.lemmas.Iterator.{YieldsList-from_slice}
use Rattle.std.proofs.lemmas.Iterator.Search.{any_from_yields_List}
use Rattle.mrc_ports.specs.declared.parcel.QueuedArgument.{QueuedArgument}
use Rattle.mrc_ports.specs.Parcels.{queued_of}
use Rattle.mrc_transit.specs.Room.{carried_by, names_port}
use Rattle.mrc_transit.proofs.RoomLaws.{any_of_all}
use Rattle.mrc_transit.proofs.room.arguments_name.Goals as goal

pub returns : goal.returns
returns c =
    any_from_yields_List
    (λ (a : QueuedArgument). list_any (names_port c.args.port) (carried_by (queued_of a)))
    _ _ _ c.any.ensures.ran (YieldsList-from_slice c.args.arguments.now cc)
    (λ x b q k. search (rules, tests))
    ∙ any_of_all (names_port c.args.port) c.args.arguments.now
