use Rattle.std.proofs.Common.{take}
use Rattle.std.specs.Prelude.{string_bytes}
use Rattle.mrc_why.specs.Texts.{AreToldBy}
use Rattle.mrc_why.proofs.printing.all_broken.Given as goal

-- the text tells the broken lines so far
abbrev pub invariant-loop-line : goal.invariant-loop-line
invariant-loop-line l =
    AreToldBy l.layout l.sources (take l.line-index l.broken) (string_bytes l.text)
