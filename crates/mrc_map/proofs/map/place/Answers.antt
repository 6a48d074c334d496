use Rattle.std.proofs.Common.{rules, of_calls}
use Rattle.std.proofs.lemmas.Fn.{always_returns_same}
use Rattle.mrc_map.proofs.Places.{is_below, keys_parted, place_is}
use Rattle.mrc_map.proofs.map.place.Goals as goal

pub returns : goal.returns
returns g c =
    let bound = c.partition_point.ensures.bound in
    let parted = keys_parted c.args.key c.args.entries.now c.requires in
    let computes = c.partition_point.ensures.partitioned (is_below c.args.key)
    (always_returns_same _ _ _ (λ a r f k. search (rules, of_calls))) parted in
    place_is c.args.key c.args.entries.now c.partition_point.result bound computes
