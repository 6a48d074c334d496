-- The routines so far, with those of the files that are left, are all.
use Rattle.std.proofs.Common.{◌≡◌, ◌++◌, drop, map, string_bytes}
use Rattle.mrc_answer.specs.Notices.{left_out}
use Rattle.mrc_answer.proofs.gathering.left_out.Given as goal

abbrev pub invariant-loop-bytes : goal.invariant-loop-bytes
invariant-loop-bytes l =
    map (λ names. map string_bytes names.items) l.left.items
    ++ left_out (map (λ text. text.items) (drop l.bytes-index l.defs))
    ≡ left_out (map (λ text. text.items) l.defs)
