use Rattle.std.proofs.Common.{◌≡◌, ◌-◌}
use Rattle.mrc_mig_symbols.specs.Symbols.{many, many_stop}
use Rattle.mrc_mig_symbols.specs.Readers.{left}
use Rattle.mrc_mig_parse.specs.Types.{begins_layer, layer_at, layers_at}
use Rattle.mrc_mig_parse.specs.Stops.{layer_stop, layers_stop}
use Rattle.mrc_mig_parse.proofs.types.arrays.Given as goal

abbrev pub invariant-loop : goal.invariant-loop
invariant-loop l = (many begins_layer layer_at (l.count - l.counter) (l.around, left l.rest)
    ≡ layers_at (left l.fn.rest))
    × (many_stop begins_layer layer_at layer_stop (l.count - l.counter) (l.around, left l.rest)
    ≡ layers_stop (left l.fn.rest))
