use Rattle.std.proofs.Common.{◌≡◌, drop}
use Rattle.std.specs.Str.{str_to_ascii_lowercase}
use Rattle.mrc_mig_symbols.specs.Tables.{plain, entry_of, AreLowercase}
use Rattle.mrc_mig_rows.proofs.kinds.kind_in.Given as goal

abbrev pub invariant-loop-name : goal.invariant-loop-name
invariant-loop-name l = AreLowercase (drop l.name-index l.table)
    × (entry_of (plain (drop l.name-index l.table)) (str_to_ascii_lowercase l.text)
    ≡ entry_of (plain l.table) (str_to_ascii_lowercase l.text))
