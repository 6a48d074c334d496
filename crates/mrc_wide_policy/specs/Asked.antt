-- Believe. What a policy asks: each holding that a line names is forbidden, or waived, or expected.
-- A policy of an older version forbids alone. This profile's own choice.
use Rattle.std.specs.Prelude.{ℕ, false, List, [], map, find, option_map, Option, Some, None}
use Rattle.std.specs.Prelude.{if◌then◌else◌}
use Rattle.std.specs.List.{flat_map}
use Rattle.mrc_wiring_text.specs.declared.policy.ClassName.{ClassName}
use Rattle.mrc_wiring_text.specs.declared.policy.Forbid.{Forbid}
use Rattle.mrc_wiring_text.specs.declared.reading.Line.{Line}
use Rattle.mrc_stand_for.specs.declared.known.Known.{Known}
use Rattle.mrc_stand_for.specs.Policies.{classes_forbidden}
use Rattle.mrc_wide_policy.specs.declared.asked.Asked.{Asked}
use Rattle.mrc_wide_policy.specs.declared.asked.Stance.{Stance}
use Rattle.mrc_wide_policy.specs.declared.asked.Stance.TheVariants.{Forbidden, Waived, Expected}
use Rattle.mrc_wide_policy.specs.declared.facts.FactLine.{FactLine}
use Rattle.mrc_wide_policy.specs.declared.facts.NamedFact.{NamedFact}
use Rattle.mrc_wide_policy.specs.declared.facts.PolicyStands.{PolicyStands}
use Rattle.mrc_wide_policy.specs.declared.facts.WaivedLine.{WaivedLine}
use Rattle.mrc_wide_policy.specs.Facts.{fact, is_of_waiver}

-- the number of a line that waives
abbrev pub waiver_number : WaivedLine → ℕ
waiver_number line = line.number

-- the number of the first line that waives the fact
abbrev pub waiver_of : List WaivedLine → NamedFact → Option ℕ
waiver_of waived fact = option_map waiver_number (find (is_of_waiver fact) waived)

-- a fact that a line forbids is forbidden, unless a line waives it
abbrev pub unless_waived : Option ℕ → Stance
unless_waived None = Forbidden
unless_waived (Some n) = Waived n

-- what is asked of a fact of a line
abbrev pub stance_of : List WaivedLine → FactLine → NamedFact → Stance
stance_of waived line fact =
    if line.expects then Expected else unless_waived (waiver_of waived fact)

-- the fact as a line by itself, with the number of its line
abbrev pub own_line : FactLine → NamedFact → Line Forbid
own_line line fact = record {
  number = line.number;
  says = record { task = fact.task; right = fact.right; class = fact.class };
}

-- a fact of a line, and what is asked of it
unfoldable pub asked_fact : List WaivedLine → FactLine → NamedFact → Asked
asked_fact waived line fact =
    record { line = own_line line fact; stance = stance_of waived line fact }

-- the facts of a line
abbrev pub line_asks : List WaivedLine → FactLine → List Asked
line_asks waived line = map (asked_fact waived line) line.facts

-- what a policy asks, in the order of its lines, and of each in that of its product
abbrev pub asked_by : PolicyStands → List Asked
asked_by stands = flat_map (line_asks stands.waived) stands.lines

-- what a line of an older version stands for: births, and then each wired port that is such births
abbrev pub older_line : Known → Line Forbid → FactLine
older_line known line = record {
  number = line.number;
  name = None;
  expects = false;
  facts = map (fact line.says.task line.says.right) (classes_forbidden known line.says.class);
}

-- what the lines of a policy of an older version stand for
abbrev pub older_stands : Known → List (Line Forbid) → PolicyStands
older_stands known lines =
    record { is_wide = false; lines = map (older_line known) lines; waived = [] }
