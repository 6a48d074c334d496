-- The digits so far.
use Rattle.std.proofs.Common.{◌≡◌, ◌++◌, string_bytes, codes, take}
use Rattle.mrc_report.specs.Printing.{hex}
use Rattle.mrc_report.proofs.printing.message_text.Given as goal

abbrev pub invariant-loop-byte : goal.invariant-loop-byte
invariant-loop-byte l =
    string_bytes l.text ≡ codes "message " ++ hex (take l.byte-index l.bytes)
