use Rattle.std.proofs.Common.{◌≡◌, ◌++◌, drop, Ok}
use Rattle.mrc_base.specs.Reading.{◌>>=◌}
use Rattle.mrc_wiring.specs.Claims.{forbidden_lines}
use Rattle.mrc_wiring.proofs.claim.forbidden_lines.Given as goal

-- the lines so far and what is left forbid what all lines do
abbrev pub invariant-loop-line : goal.invariant-loop-line
invariant-loop-line l =
    forbidden_lines l.wired l.lines ≡ (forbidden_lines l.wired (drop l.line-index l.lines)
    >>= λ others. Ok (l.forbidden_so_far.items ++ others))
