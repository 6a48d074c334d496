-- What is left of the bytes has a control character if all have one.
use Rattle.std.proofs.Common.{◌≡◌, drop}
use Rattle.mrc_wide_policy.specs.Quotes.{has_control}
use Rattle.mrc_wide_policy.proofs.quotes.has_control.Given as goal

abbrev pub invariant-loop-byte : goal.invariant-loop-byte
invariant-loop-byte l = has_control 0 l.bytes ≡ has_control l.before (drop l.byte-index l.bytes)
