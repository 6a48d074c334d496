-- Step. What a reader of structs holds.
use Rattle.std.specs.Prelude.{◌≡◌, List, Option, Result, Ok, Err}
use Rattle.mrc_mig_symbols.specs.declared.fault.Stop.{Stop}
use Rattle.mrc_mig_tokens.specs.declared.rest.Rest.{Rest}
use Rattle.mrc_mig_tokens.specs.Reading.{left}
use Rattle.mrc_mig_types.specs.declared.layout.Laid.{Laid}
use Rattle.mrc_mig_types.specs.declared.meaning.Meaning.{Meaning}
use Rattle.mrc_mig_types.specs.Layout.{all_fields_of, IsLaid}
use Rattle.mrc_mig_types.specs.Reading.{Read}

-- what code keeps of the fields that it read, and what is left, is what is read
abbrev pub AreRead : Result (Laid × Rest) Stop → Result Read Stop → Type 0
AreRead (Ok laid) read =
    (fields : List (Option Meaning))
    × ((read ≡ Ok (fields, left laid.1)) × IsLaid (all_fields_of fields) laid.0)
AreRead (Err stop) read = read ≡ Err stop
