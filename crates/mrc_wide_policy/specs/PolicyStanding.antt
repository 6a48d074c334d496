-- Believe. What the lines of a policy of version 3 stand for over a wiring after whose lines this
-- is known, one line after the other, up to the first that is refused. This profile's own choice.
use Rattle.std.specs.Prelude.{ℕ, ◌+◌, ◌&&◌, Bool, true, false, nat_lt, bytes_eq, List, []}
use Rattle.std.specs.Prelude.{◌∷◌, ◌++◌, length, filter, Option, Some, None, Result, Ok, Err}
use Rattle.std.specs.Prelude.{if◌then◌else◌}
use Rattle.std.specs.List.{list_any}
use Rattle.mrc_base.specs.Reading.{◌>>=◌}
use Rattle.mrc_base.specs.declared.PortRight.{PortRight}
use Rattle.mrc_wiring_text.specs.declared.policy.ClassName.{ClassName}
use Rattle.mrc_wiring_text.specs.declared.reading.Line.{Line}
use Rattle.mrc_stand_for.specs.declared.faults.StandFault.{StandFault}
use Rattle.mrc_stand_for.specs.declared.faults.StandFault.TheVariants.{UnknownName, TooMany}
use Rattle.mrc_stand_for.specs.declared.known.Known.{Known}
use Rattle.mrc_stand_for.specs.declared.wide.Tasks.{Tasks}
use Rattle.mrc_stand_for.specs.declared.wide.WideClass.{WideClass}
use Rattle.mrc_stand_for.specs.Once.{with_each, same_right}
use Rattle.mrc_stand_for.specs.Expected.{expected_classes}
use Rattle.mrc_stand_for.specs.Lists.{tasks_of, classes_of}
use Rattle.mrc_stand_for.specs.Standing.{group_stands, set_stands}
use Rattle.mrc_stand_for.specs.Steps.{each, filled}
use Rattle.mrc_wide_policy.specs.declared.facts.NamedFact.{NamedFact}
use Rattle.mrc_wide_policy.specs.declared.facts.Row.{Row}
use Rattle.mrc_wide_policy.specs.declared.facts.FactLine.{FactLine}
use Rattle.mrc_wide_policy.specs.declared.facts.PolicyStands.{PolicyStands}
use Rattle.mrc_wide_policy.specs.declared.standing.Demands.{Demands}
use Rattle.mrc_wide_policy.specs.declared.says.Product.{Product}
use Rattle.mrc_wide_policy.specs.declared.says.PolicySays.{PolicySays}
use Rattle.mrc_wide_policy.specs.declared.says.PolicySays.TheVariants as says
use Rattle.mrc_wide_policy.specs.Facts.{facts_in, facts_of, forbids, is_in, new_facts}

-- facts of a policy, at most
abbrev pub limit_of_facts : ℕ
limit_of_facts = 1048576

-- ---- TASKS RIGHTS CLASSES

-- CLASSES for a holder, in a line that expects or in another
abbrev pub held_classes : Bool → Known → ℕ → List ℕ → List WideClass
    → Result (List ClassName) StandFault
held_classes true known n holder classes = expected_classes known n (Some holder) classes
held_classes false known n holder classes =
    classes_of known n (Some holder) classes >>= λ found. Ok found.classes

-- a task more, with its classes
abbrev pub add_row : Bool → Known → ℕ → List WideClass → List Row → List ℕ
    → Result (List Row) StandFault
add_row expects known n classes rows task =
    held_classes expects known n task classes
    >>= λ found. Ok (rows ++ record { task = task; classes = found } ∷ [])

-- the tasks of a product, each with its classes
abbrev pub rows_of : Bool → Known → ℕ → Product → Result (List Row) StandFault
rows_of expects known n product =
    tasks_of known n product.tasks
    >>= λ tasks. each (add_row expects known n product.classes) [] tasks

-- the rights of a product, each once
abbrev pub rights_in : Product → List PortRight
rights_in product = with_each same_right [] product.rights

-- the facts of a product
abbrev pub product_facts : Bool → Known → ℕ → Product
    → Result (List NamedFact) StandFault
product_facts expects known n product =
    rows_of expects known n product >>= λ rows. Ok (facts_in (rights_in product) rows)

-- ---- what a waiver waives

-- the name is this one
abbrev pub is_this : List ℕ → Option (List ℕ) → Bool
is_this name (Some other) = bytes_eq name other
is_this name None = false

-- the line forbids, and has this name
abbrev pub has_name : List ℕ → FactLine → Bool
has_name name line = forbids line && is_this name line.name

-- the facts that lines of the name forbid, if there is one
abbrev pub named_facts : ℕ → List ℕ → List FactLine → Result (List NamedFact) StandFault
named_facts n name lines =
    if list_any (has_name name) lines then Ok (facts_of (filter (has_name name) lines))
    else Err (UnknownName n)

-- those of facts that are in the product, if the line has one
abbrev pub waived_of : Demands → ℕ → Option Product → List NamedFact
    → Result (List NamedFact) StandFault
waived_of so_far n None facts = Ok facts
waived_of so_far n (Some product) facts =
    rows_of false so_far.known n product
    >>= λ rows. Ok (filter (is_in (rights_in product) rows) facts)

-- ---- lines

-- facts more, if there are not too many
abbrev pub counted : ℕ → ℕ → List NamedFact → Result ℕ StandFault
counted n count facts =
    if nat_lt limit_of_facts (count + length facts) then Err (TooMany n)
    else Ok (count + length facts)

-- `group G TASKS`
abbrev pub add_group : Demands → ℕ → List ℕ → Tasks → Result Demands StandFault
add_group so_far n group tasks =
    group_stands so_far.known n group tasks
    >>= λ stands. Ok (record so_far { known = stands.known })

-- `set S CLASSES`
abbrev pub add_set : Demands → ℕ → List ℕ → List WideClass → Result Demands StandFault
add_set so_far n set classes = do
  stands ← set_stands so_far.known n set classes
  Ok (record so_far { known = stands.known })

-- `forbid TASKS RIGHTS CLASSES`, or the same that expects
abbrev pub add_facts : Bool → Demands → ℕ → Option (List ℕ) → Product → Result Demands StandFault
add_facts expects so_far n name product = do
  facts ← product_facts expects so_far.known n product
  count ← counted n so_far.count facts
  Ok (record so_far {
    count = count;
    lines = so_far.lines
        ++ record { number = n; name = name; expects = expects; facts = facts } ∷ [];
  })

-- `waive "NAME" "WORDS"` and `waive "NAME" TASKS RIGHTS CLASSES "WORDS"`
abbrev pub add_waive : Demands → ℕ → List ℕ → Option Product → List ℕ → Result Demands StandFault
add_waive so_far n name product because = do
  named ← named_facts n name so_far.lines
  those ← waived_of so_far n product named
  some ← filled n those
  count ← counted n so_far.count (new_facts so_far.waived some)
  Ok (record so_far {
    count = count;
    waived = so_far.waived ++ record {
      number = n;
      name = name;
      because = because;
      facts = new_facts so_far.waived some;
    } ∷ [];
  })

-- one line more, one case for each
abbrev pub says_more : Demands → ℕ → PolicySays → Result Demands StandFault
says_more so_far n (says.Group group tasks) = add_group so_far n group tasks
says_more so_far n (says.Set set classes) = add_set so_far n set classes
says_more so_far n (says.Forbid name product) = add_facts false so_far n name product
says_more so_far n (says.Expect name product) = add_facts true so_far n name product
says_more so_far n (says.Waive name product because) = add_waive so_far n name product because

abbrev pub add_line : Demands → Line PolicySays → Result Demands StandFault
add_line so_far line = says_more so_far line.number line.says

-- no line yet
abbrev pub nothing_demanded : Known → Demands
nothing_demanded known = record {
  known = known;
  count = 0;
  lines = [];
  waived = [];
}

-- what the lines of a policy demand and what they waive
abbrev pub policy_stands : Known → List (Line PolicySays) → Result PolicyStands StandFault
policy_stands known lines =
    each add_line (nothing_demanded known) lines
    >>= λ all. Ok (record { is_wide = true; lines = all.lines; waived = all.waived })
