use Rattle.std.proofs.Common.{◌≡◌, take, None}
use Rattle.std.specs.List.{last_or}
use Rattle.mrc_mig_forms.specs.Marks.{before}
use Rattle.mrc_mig_forms.proofs.marks.last_before.Given as goal

abbrev pub invariant-loop-mark : goal.invariant-loop-mark
invariant-loop-mark l = l.last ≡ last_or None (before l.place (take l.mark-index l.marks))
