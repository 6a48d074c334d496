use Rattle.std.proofs.Common.{◌≡◌, take}
use Rattle.std.specs.Prelude.{string_bytes}
use Rattle.mrc_why.specs.Texts.{tree_from}
use Rattle.mrc_why.proofs.printing.tree_from.Given as goal

-- the text has the lines so far
abbrev pub invariant-loop-place : goal.invariant-loop-place
invariant-loop-place l =
    string_bytes l.text ≡ tree_from l.blanks l.wired l.steps l.sources 1 (take l.place l.lines)
