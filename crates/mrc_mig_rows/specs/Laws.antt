-- Law. What a row that is left out carries.
use Rattle.std.specs.Prelude.{ℕ, List, Contains, codes}
use Rattle.mrc_mig_types.specs.Table.{Known}
use Rattle.mrc_mig_rows.specs.declared.carried.Judges.{Judges}
use Rattle.mrc_mig_rows.specs.declared.kinds.RowKind.{RowKind}
use Rattle.mrc_mig_rows.specs.Carried.{Carrier, carried_of}
use Rattle.mrc_mig_rows.specs.Parts.{View, Unread}

-- what stands for a part that cannot be read
abbrev pub nobody_knows : Carrier
nobody_knows = record { name = codes "?"; type_name = codes "?" }

-- each part that cannot be read may carry rights
abbrev pub UnreadCarries : Type 0
UnreadCarries =
    (types : Known) (kind : RowKind) (by : Judges) (name : List ℕ) (view : View) (place : ℕ)
    → Contains view.pieces (Unread place)
    → Contains (carried_of types kind by name view) nobody_knows
