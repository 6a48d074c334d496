use Rattle.std.proofs.Common.{◌≡◌, ◌≤◌, take}
use Rattle.mrc_mig_forms.specs.Marks.{line_feeds}
use Rattle.mrc_mig_forms.proofs.marks.line_feeds.Given as goal

abbrev pub invariant-loop-byte : goal.invariant-loop-byte
invariant-loop-byte l =
    (l.count ≡ line_feeds (take l.byte-index l.bytes)) × (l.count ≤ l.byte-index)
