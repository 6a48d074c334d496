-- if nothing is printed so far, nothing is dropped so far
use Rattle.std.specs.Prelude.{◌≡◌, [], All, map, string_bytes}
use Rattle.std.proofs.Common.{take}
use Rattle.mrc_print.specs.Silence.{HasNoNames}
use Rattle.mrc_print.proofs.notices.dropped_lines.Given as goal

abbrev pub invariant-loop-number : goal.invariant-loop-number
invariant-loop-number l =
    string_bytes l.text ≡ []
    → All HasNoNames (map (λ names. map string_bytes names.items) (take l.number l.left_out))
