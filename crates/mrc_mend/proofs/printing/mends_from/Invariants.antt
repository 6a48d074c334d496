-- The mends so far, with those that are left, are all.
use Rattle.std.proofs.Common.{◌≡◌, ◌+◌, ◌++◌, drop}
use Rattle.std.specs.Prelude.{string_bytes}
use Rattle.mrc_mend.specs.Texts.{mends_from}
use Rattle.mrc_mend.proofs.printing.mends_from.Given as goal

abbrev pub invariant-loop-place : goal.invariant-loop-place
invariant-loop-place l =
    string_bytes l.text ++ mends_from l.wiring l.broken (l.place + 1) (drop l.place l.mends)
    ≡ mends_from l.wiring l.broken 1 l.mends
