-- The bytes so far, with a space on each side of each comma.
use Rattle.std.proofs.Common.{◌≡◌, take}
use Rattle.mrc_wiring_text.specs.Lexis.{spaced}
use Rattle.mrc_wiring_text.proofs.lexis.spaced.Given as goal

abbrev pub invariant-loop-byte : goal.invariant-loop-byte
invariant-loop-byte l = l.text.items ≡ spaced (take l.byte-index l.said)
