-- Believe. What a policy of whichever version stands for over what is known of a wiring. This
-- profile's own choice.
use Rattle.std.specs.Prelude.{◌≡◌, ℕ, ◌⊎◌, List, Result, Ok, Err}
use Rattle.mrc_wiring_text.specs.declared.faults.TextFault.{TextFault}
use Rattle.mrc_wiring_text.specs.declared.faults.TextFault.TheVariants.{Version}
use Rattle.mrc_wiring_text.specs.declared.policy.Forbid.{Forbid}
use Rattle.mrc_wiring_text.specs.declared.reading.Line.{Line}
use Rattle.mrc_wiring_text.specs.Policy.{policy_of}
use Rattle.mrc_wiring_text.specs.Texts.{IsPolicy}
use Rattle.mrc_stand_for.specs.declared.faults.StandFault.{StandFault}
use Rattle.mrc_stand_for.specs.declared.known.Known.{Known}
use Rattle.mrc_wide_policy.specs.declared.facts.PolicyStands.{PolicyStands}
use Rattle.mrc_wide_policy.specs.declared.policies.PolicyRefusal.{PolicyRefusal}
use Rattle.mrc_wide_policy.specs.declared.policies.PolicyRefusal.TheVariants.{Text, Stands}
use Rattle.mrc_wide_policy.specs.declared.says.PolicySays.{PolicySays}
use Rattle.mrc_wide_policy.specs.Asked.{older_stands}
use Rattle.mrc_wide_policy.specs.PolicyReading.{wide_policy_of}
use Rattle.mrc_wide_policy.specs.PolicyStanding.{policy_stands}
use Rattle.mrc_wide_policy.specs.PolicyTexts.{IsWidePolicy}

-- what lines of version 3 stand for, or why one is refused
abbrev pub wide_or : Result PolicyStands StandFault → Result PolicyStands PolicyRefusal
wide_or (Ok stands) = Ok stands
wide_or (Err fault) = Err (Stands fault)

-- what lines of an older version stand for, or the fault of the text
abbrev pub older_or : Known → Result (List (Line Forbid)) TextFault
    → Result PolicyStands PolicyRefusal
older_or known (Ok lines) = Ok (older_stands known lines)
older_or known (Err fault) = Err (Text fault)

-- the same of what is read as a policy of version 3, or of an older one if it is of no later version
abbrev pub or_older : Known → List ℕ → Result (List (Line PolicySays)) TextFault
    → Result PolicyStands PolicyRefusal
or_older known policy (Ok lines) = wide_or (policy_stands known lines)
or_older known policy (Err Version) = older_or known (policy_of policy)
or_older known policy (Err fault) = Err (Text fault)

-- what a policy stands for, or its first fault
abbrev pub stands_of : Known → List ℕ → Result PolicyStands PolicyRefusal
stands_of known policy = or_older known policy (wide_policy_of policy)

-- bytes that are a policy of an older version, or one of version 3, and what it stands for
abbrev pub StandFor : Known → List ℕ → PolicyStands → Type 0
StandFor known policy stands =
    ((lines : List (Line Forbid)) × IsPolicy policy lines × (stands ≡ older_stands known lines))
    ⊎ ((lines : List (Line PolicySays)) × IsWidePolicy policy lines
    × (policy_stands known lines ≡ Ok stands))
