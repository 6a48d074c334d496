use Rattle.std.proofs.Common.{◌≡◌, ◌++◌, map, take}
use Rattle.mrc_mig_parse.specs.Arguments.{as_written}
use Rattle.mrc_mig_parse.specs.Meanings.{item_of}
use Rattle.mrc_mig_parse.specs.Readers.{parameter_of}
use Rattle.mrc_mig_parse.proofs.arguments.push_each.Given as goal

abbrev pub invariant-loop-written : goal.invariant-loop-written
invariant-loop-written l = map item_of l.arguments.items ≡ map item_of l.fn.arguments.items
    ++ map as_written (map parameter_of (take l.written-index l.seen))
