use Rattle.std.proofs.Common.{◌≡◌, ◌-◌}
use Rattle.mrc_mig_tokens.specs.Reading.{many, left}
use Rattle.mrc_mig_types.specs.Reading.{goes_around, around_at, layers_at}
use Rattle.mrc_mig_types.proofs.layers.layers.Given as goal

abbrev pub invariant-loop : goal.invariant-loop
invariant-loop l =
    many goes_around around_at (l.count - l.counter) (l.layers.items, left l.rest)
    ≡ layers_at (left l.fn.rest)
