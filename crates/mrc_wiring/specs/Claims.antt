-- Believe. What the lines of a policy mean over a wiring: the forbidden holdings, or the first
-- fault. This profile's own choice.
use Rattle.std.specs.Prelude.{◌≡◌, ℕ, List, [], ◌∷◌, map, Option, Result, Ok, Err, option_and_then}
use Rattle.std.specs.Option.{ok_or}
use Rattle.mrc_base.specs.declared.memory.OrMemory.{OrMemory}
use Rattle.mrc_base.specs.Reading.{◌>>=◌, Refuses}
use Rattle.mrc_model.specs.Breach.{Forbid}
use Rattle.mrc_wiring_text.specs.declared.reading.Line.{Line}
use Rattle.mrc_wiring_text.specs.declared.policy.Forbid.{Forbid as ForbidText}
use Rattle.mrc_wiring_text.specs.declared.policy.ClassName.{ClassName}
use Rattle.mrc_wiring.specs.declared.claim.ForbiddenLine.{ForbiddenLine}
use Rattle.mrc_wiring.specs.declared.faults.ClaimFault.{ClaimFault}
use Rattle.mrc_wiring.specs.declared.faults.ClaimFault.TheVariants.{UnknownName}
use Rattle.mrc_wiring.specs.Table.{Table, class_of}
use Rattle.mrc_wiring.specs.Names.{number_of, class_said}

-- a wiring, and what a policy forbids in it
pub record Claimed : Type 0 where
  pub table : Table
  pub lines : List ForbiddenLine

-- the class of a name
abbrev pub class_number : Table → ClassName → Option ℕ
class_number table name =
    option_and_then (class_of table) (class_said table.names table.ports table.births name)

-- what a line forbids
unfoldable pub forbidden : Table → ℕ → ForbidText → Result ForbiddenLine ClaimFault
forbidden table n says = do
  t ← ok_or (number_of table.names says.task) (UnknownName n)
  c ← ok_or (class_number table says.class) (UnknownName n)
  Ok (record { line = n; task = t; right = says.right; class = c })

-- what the lines forbid, in order
abbrev pub forbidden_lines : Table → List (Line ForbidText)
    → Result (List ForbiddenLine) ClaimFault
forbidden_lines table [] = Ok []
forbidden_lines table (line ∷ lines) = do
  first ← forbidden table line.number line.says
  others ← forbidden_lines table lines
  Ok (first ∷ others)

-- the claim has the wiring and the lines that are said, or the wiring comes back with the fault
-- that is said
abbrev pub ClaimTold : Table → Result Claimed (Table × OrMemory ClaimFault)
    → Result (List ForbiddenLine) ClaimFault → Type 0
ClaimTold table (Ok claim) said = (said ≡ Ok claim.lines) × (claim.table ≡ table)
ClaimTold table (Err e) said = Refuses e.1 said × (e.0 ≡ table)

-- what a line forbids, in the model's words
abbrev pub holding_of : ForbiddenLine → Forbid
holding_of line = record { task = line.task; right = line.right; class = line.class }

-- the policy of a claim
abbrev pub policy_of : Claimed → List Forbid
policy_of claim = map holding_of claim.lines
