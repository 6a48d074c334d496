-- Believe. Which facts are asked for. This profile's own choice.
use Rattle.std.specs.Prelude.{ℕ, ◌==◌, Bool, true, false, not, ◌&&◌, ◌||◌, List}
use Rattle.std.specs.Prelude.{Option, Some, None, Result, Ok, Err}
use Rattle.mrc_base.specs.declared.PortRight.{PortRight}
use Rattle.mrc_base.specs.declared.Fact.{Fact}
use Rattle.mrc_base.specs.declared.Fact.TheVariants.{Hold, Carry, Backup}
use Rattle.mrc_base.specs.Reading.{◌>>=◌}
use Rattle.mrc_facts.specs.Order.{right_number}
use Rattle.mrc_wiring.specs.Names.{number_of, class_named}
use Rattle.mrc_wiring.specs.Table.{Table}
use Rattle.mrc_words.specs.Reading.{right_named}
use Rattle.mrc_draw.specs.declared.filter.Filter.{Filter}
use Rattle.mrc_draw.specs.declared.filter.FilterFault.{FilterFault}
use Rattle.mrc_draw.specs.declared.filter.FilterFault.TheVariants as faults

-- the two are one right
abbrev pub is_right : PortRight → PortRight → Bool
is_right r q = right_number r == right_number q

-- a hold of the task; any fact where none is asked for
abbrev pub matches_task : Option ℕ → Fact → Bool
matches_task None f = true
matches_task (Some t) (Hold u c r) = u == t
matches_task (Some t) (Carry d c r) = false
matches_task (Some t) (Backup c d) = false

-- a fact in which the class stands, at any place; any fact where none is asked for
abbrev pub matches_class : Option ℕ → Fact → Bool
matches_class None f = true
matches_class (Some e) (Hold t c r) = c == e
matches_class (Some e) (Carry d c r) = d == e || c == e
matches_class (Some e) (Backup c d) = c == e || d == e

-- a hold or a carry of the right; any fact where none is asked for
abbrev pub matches_right : Option PortRight → Fact → Bool
matches_right None f = true
matches_right (Some q) (Hold t c r) = is_right r q
matches_right (Some q) (Carry d c r) = is_right r q
matches_right (Some q) (Backup c d) = false

-- the fact is one of those that are asked for
abbrev pub matches : Filter → Fact → Bool
matches asked f =
    matches_task asked.task f && (matches_class asked.class f && matches_right asked.right f)

-- the fact is a hold
abbrev pub is_hold : Fact → Bool
is_hold (Hold t c r) = true
is_hold (Carry d c r) = false
is_hold (Backup c d) = false

-- the fact is drawn: it is one of those that are asked for, and a hold if only holds are drawn
abbrev pub is_drawn : Filter → Bool → Fact → Bool
is_drawn asked holds f = (not holds || is_hold f) && matches asked f

-- what was found, or the fault
abbrev pub found_or : {A : Type 0} → FilterFault → Option A → Result (Option A) FilterFault
found_or fault None = Err fault
found_or fault (Some x) = Ok (Some x)

-- what a word names, or the fault; nothing is asked for where there is no word
abbrev pub asked_by : {A : Type 0} → FilterFault → (List ℕ → Option A) → Option (List ℕ)
    → Result (Option A) FilterFault
asked_by fault named None = Ok None
asked_by fault named (Some word) = found_or fault (named word)

-- what the words ask for: a task by its name, a class and a right as they are printed; or the first
-- of them that names none
abbrev pub filter_of : Table → Option (List ℕ) → Option (List ℕ) → Option (List ℕ)
    → Result Filter FilterFault
filter_of table task class right = do
  t ← asked_by faults.Task (number_of table.names) task
  c ← asked_by faults.Class (class_named table) class
  r ← asked_by faults.Right right_named right
  Ok (record { task = t; class = c; right = r })
