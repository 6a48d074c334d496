-- None so far: whether one of those that are left is.
use Rattle.std.proofs.Common.{◌≡◌, drop}
use Rattle.std.specs.List.{list_any}
use Rattle.mrc_answer.specs.MigTexts.{is_forbidden}
use Rattle.mrc_answer.proofs.mig_texts.are_forbidden.Given as goal

abbrev pub invariant-loop-mig_text : goal.invariant-loop-mig_text
invariant-loop-mig_text l =
    list_any (is_forbidden l.strict) (drop l.mig_text-index l.mig_texts)
    ≡ list_any (is_forbidden l.strict) l.mig_texts
