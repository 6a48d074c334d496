-- the text of those so far that are asked for
use Rattle.std.specs.Prelude.{string_bytes}
use Rattle.std.specs.List.{list_any}
use Rattle.std.proofs.Common.{take}
use Rattle.mrc_answer.specs.Verified.{is_asked}
use Rattle.mrc_print.specs.Heads.{IsToldIf}
use Rattle.mrc_print.proofs.text.told_parts.Given as goal

abbrev pub invariant-loop-demand : goal.invariant-loop-demand
invariant-loop-demand l =
    IsToldIf (list_any (is_asked l.printing.only) (take l.demand-index l.told)) (string_bytes l.text)
