-- The line is among those that are left.
use Rattle.std.proofs.Common.{◌≡◌, ◌-◌, length, slice_get}
use denote.Text.{Utf8}
use denote.Shadow.{shadow}
use Rattle.mrc_wiring_text.specs.Lexis.{lines}
use Rattle.mrc_place.proofs.lines.line_of.Given as goal

abbrev pub invariant-loop-rest : goal.invariant-loop-rest
invariant-loop-rest l =
    shadow (Utf8 l.rest)
    × (slice_get (lines l.rest) l.left ≡ slice_get (lines l.text) (l.number - 1))

abbrev pub decreases-loop-rest : goal.decreases-loop-rest
decreases-loop-rest l = length l.rest
