use Rattle.std.proofs.Common.{◌≡◌, ◌-◌, List, Option}
use Rattle.mrc_mig_tokens.specs.Reading.{many, left}
use Rattle.mrc_mig_types.specs.declared.meaning.Meaning.{Meaning}
use Rattle.mrc_mig_types.specs.Layout.{all_fields_of, IsLaid}
use Rattle.mrc_mig_types.specs.Reading.{goes_on, more_at, each_field_at}
use Rattle.mrc_mig_types.specs.Table.{known}
use Rattle.mrc_mig_types.proofs.structs.each_field.Given as goal

abbrev pub invariant-loop : goal.invariant-loop
invariant-loop l =
    (read : List (Option Meaning))
    × ((many goes_on (more_at (known l.types)) (l.count - l.counter) (read, left l.rest)
    ≡ each_field_at (known l.fn.types) (left l.fn.rest))
    × IsLaid (all_fields_of read) l.laid)
