-- Believe. The facts that a line of a policy names: each right of each task on each class. This
-- profile's own choice.
use Rattle.std.specs.Prelude.{ℕ, Bool, ◌&&◌, ◌||◌, not, bytes_eq, List, [], ◌∷◌, ◌++◌, map}
use Rattle.std.specs.Prelude.{filter, fold, if◌then◌else◌}
use Rattle.std.specs.List.{list_any, flat_map}
use Rattle.mrc_base.specs.declared.PortRight.{PortRight}
use Rattle.mrc_wiring_text.specs.declared.policy.ClassName.{ClassName}
use Rattle.mrc_stand_for.specs.Once.{same_class, same_right}
use Rattle.mrc_wide_policy.specs.declared.facts.NamedFact.{NamedFact}
use Rattle.mrc_wide_policy.specs.declared.facts.Row.{Row}
use Rattle.mrc_wide_policy.specs.declared.facts.FactLine.{FactLine}
use Rattle.mrc_wide_policy.specs.declared.facts.WaivedLine.{WaivedLine}

-- a right of a task on a class
abbrev pub fact : List ℕ → PortRight → ClassName → NamedFact
fact task right class = record { task = task; right = right; class = class }

-- a right of a task on each of its classes
abbrev pub right_facts : Row → PortRight → List NamedFact
right_facts row right = map (fact row.task right) row.classes

-- each right of a task on each of its classes
abbrev pub row_facts : List PortRight → Row → List NamedFact
row_facts rights row = flat_map (right_facts row) rights

-- the same of each task
abbrev pub facts_in : List PortRight → List Row → List NamedFact
facts_in rights rows = flat_map (row_facts rights) rows

-- two facts are one
abbrev pub same_fact : NamedFact → NamedFact → Bool
same_fact a b = bytes_eq a.task b.task && (same_right a.right b.right && same_class a.class b.class)

-- the fact is of that task, on one of its classes
abbrev pub is_of_row : NamedFact → Row → Bool
is_of_row fact row = bytes_eq fact.task row.task && list_any (same_class fact.class) row.classes

-- the fact is of one of the rights, of one of the tasks and on one of its classes
abbrev pub is_in : List PortRight → List Row → NamedFact → Bool
is_in rights rows fact =
    list_any (same_right fact.right) rights && list_any (is_of_row fact) rows

-- the facts of lines
abbrev pub facts_of : List FactLine → List NamedFact
facts_of lines = flat_map (λ line. line.facts) lines

-- the line forbids; else it expects
abbrev pub forbids : FactLine → Bool
forbids line = not line.expects

-- those of lines that forbid
abbrev pub forbidding : List FactLine → List FactLine
forbidding lines = filter forbids lines

-- the fact is one of the line's
abbrev pub is_of_waiver : NamedFact → WaivedLine → Bool
is_of_waiver fact line = list_any (same_fact fact) line.facts

-- the fact is waived
abbrev pub is_waived : List WaivedLine → NamedFact → Bool
is_waived waived fact = list_any (is_of_waiver fact) waived

-- a fact more, unless it is waived or is there
abbrev pub with_new : List WaivedLine → List NamedFact → NamedFact → List NamedFact
with_new waived so_far fact =
    if is_waived waived fact || list_any (same_fact fact) so_far then so_far
    else so_far ++ fact ∷ []

-- those of facts that are not waived yet, each once
abbrev pub new_facts : List WaivedLine → List NamedFact → List NamedFact
new_facts waived facts = fold (with_new waived) [] facts
