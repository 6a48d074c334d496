use Rattle.std.proofs.Common.{◌≡◌, map, take}
use Rattle.mrc_name_table.proofs.Tables.{text}
use Rattle.mrc_name_table.proofs.table.NameTableCopies.copy.Given as goal

-- the names so far are there
abbrev pub invariant-loop-name : goal.invariant-loop-name
invariant-loop-name l = l.copy ≡ map text (take l.name-index l.name-items)
