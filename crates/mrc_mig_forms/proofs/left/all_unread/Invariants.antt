use Rattle.std.proofs.Common.{◌≡◌, map, take}
use Rattle.mrc_mig_rows.specs.Declarations.{unread_of}
use Rattle.mrc_mig_forms.proofs.left.all_unread.Given as goal

abbrev pub invariant-loop-unread : goal.invariant-loop-unread
invariant-loop-unread l = l.found.items ≡ map unread_of (take l.unread-index l.types)
