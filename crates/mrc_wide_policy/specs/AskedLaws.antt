-- Law. A policy of an older version asks for what its lines forbid, over a wiring none of whose wired
-- ports is births.
use Rattle.std.specs.Prelude.{◌≡◌, List, [], map}
use Rattle.mrc_wiring_text.specs.declared.policy.Forbid.{Forbid}
use Rattle.mrc_wiring_text.specs.declared.reading.Line.{Line}
use Rattle.mrc_stand_for.specs.declared.known.Known.{Known}
use Rattle.mrc_wide_policy.specs.declared.asked.Asked.{Asked}
use Rattle.mrc_wide_policy.specs.declared.asked.Stance.TheVariants.{Forbidden}
use Rattle.mrc_wide_policy.specs.Asked.{asked_by, older_stands}

-- a line that forbids
abbrev pub forbidden_line : Line Forbid → Asked
forbidden_line line = record { line = line; stance = Forbidden }

-- with no such ports an older policy asks for its own lines
abbrev pub OlderPoliciesAskForTheirLines : Type 0
OlderPoliciesAskForTheirLines =
    (known : Known) (lines : List (Line Forbid))
    → known.members ≡ []
    → asked_by (older_stands known lines) ≡ map forbidden_line lines
