use Rattle.std.proofs.Common.{◌≡◌, drop}
use Rattle.mrc_mig_symbols.specs.Tables.{plain, entry_of}
use Rattle.mrc_mig_types.proofs.basics.row_in.Given as goal

abbrev pub invariant-loop-name : goal.invariant-loop-name
invariant-loop-name l = entry_of (plain (drop l.name-index l.table)) l.text
    ≡ entry_of (plain l.table) l.text
