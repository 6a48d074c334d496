-- The changes so far, with those that are left, are all.
use Rattle.std.proofs.Common.{◌≡◌, ◌+◌, ◌++◌, drop}
use Rattle.std.specs.Prelude.{string_bytes}
use Rattle.mrc_mend.specs.Texts.{further_text}
use Rattle.mrc_mend.proofs.printing.further_text.Given as goal

abbrev pub invariant-loop-place : goal.invariant-loop-place
invariant-loop-place l =
    string_bytes l.text
    ++ further_text l.wiring l.broken l.number l.mended (l.place + 1) (drop l.place l.changes)
    ≡ further_text l.wiring l.broken l.number l.mended 1 l.changes
