use Rattle.std.proofs.Common.{◌≡◌, take}
use Rattle.std.specs.Prelude.{string_bytes}
use Rattle.mrc_why.specs.Texts.{lines_from}
use Rattle.mrc_why.proofs.printing.lines_text.Given as goal

-- the text has the lines of the steps so far
abbrev pub invariant-loop-place : goal.invariant-loop-place
invariant-loop-place l =
    string_bytes l.text ≡ lines_from l.blanks l.wired l.sources 0 (take l.place l.steps)
