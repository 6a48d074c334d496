use Rattle.std.proofs.Common.{◌≡◌, ◌++◌, take, drop}
use Rattle.std.specs.Prelude.{option_map}
use Rattle.mrc_mig_forms.specs.Marks.{before_quote}
use Rattle.mrc_mig_forms.proofs.marks.before_quote.Given as goal

abbrev pub invariant-loop-i : goal.invariant-loop-i
invariant-loop-i l =
    option_map (λ name. take l.i l.line ++ name) (before_quote (drop l.i l.line))
    ≡ before_quote l.line
