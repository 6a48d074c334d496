use Rattle.std.proofs.Common.{◌≡◌, take}
use Rattle.std.specs.Option.{option_copied}
use Rattle.mrc_mig_forms.specs.Marks.{before, last_name}
use Rattle.mrc_mig_forms.proofs.marks.last_name.Given as goal

abbrev pub invariant-loop-mark : goal.invariant-loop-mark
invariant-loop-mark l =
    option_copied l.file ≡ last_name l.text (before l.place (take l.mark-index l.marks))
