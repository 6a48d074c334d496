use Rattle.std.proofs.Common.{◌≡◌, ◌-◌}
use Rattle.mrc_mig_tokens.specs.Reading.{many, left}
use Rattle.mrc_mig_types.specs.Reading.{begins_flag, flag_at, flags_at}
use Rattle.mrc_mig_types.proofs.basics.flags.Given as goal

abbrev pub invariant-loop : goal.invariant-loop
invariant-loop l =
    many begins_flag flag_at (l.count - l.counter) (left l.rest) ≡ flags_at (left l.fn.rest)
