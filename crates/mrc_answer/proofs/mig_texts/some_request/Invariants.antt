-- None so far: whether one of those that are left is.
use Rattle.std.proofs.Common.{◌≡◌, drop}
use Rattle.std.specs.List.{list_any}
use Rattle.mrc_answer.specs.MigTexts.{has_request}
use Rattle.mrc_answer.proofs.mig_texts.some_request.Given as goal

abbrev pub invariant-loop-row : goal.invariant-loop-row
invariant-loop-row l = list_any has_request (drop l.row-index l.rows) ≡ list_any has_request l.rows
