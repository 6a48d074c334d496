-- Believe. What a certificate claims, and which claims are drafts. The profile's own choice.
use Rattle.std.specs.Prelude.{ℕ, ◌^◌, ◌<◌, ◌≤◌, Bool, ◌&&◌, List, length, IsTrue, nat_lt}
use Rattle.std.specs.List.{list_all}
use Rattle.mrc_base.specs.declared.Fact.{Fact}
use Rattle.mrc_base.specs.declared.Fact.TheVariants.{Hold, Carry, Backup}
use Rattle.mrc_facts.specs.Sets.{IsAscending}

-- whether the fact's task, where it has one, and its classes are of so many
abbrev pub is_within : ℕ → ℕ → Fact → Bool
is_within tasks classes (Hold task class right) = nat_lt task tasks && nat_lt class classes
is_within tasks classes (Carry destination class right) =
    nat_lt destination classes && nat_lt class classes
is_within tasks classes (Backup class notify) = nat_lt class classes && nat_lt notify classes

-- each of the facts is one
abbrev pub AreWithin : ℕ → ℕ → List Fact → Type 0
AreWithin tasks classes facts = IsTrue (list_all (is_within tasks classes) facts)

-- how many tasks, how many classes, how many of these are of births, and which facts
pub record Content : Type 0 where
  pub tasks : ℕ
  pub classes : ℕ
  pub births : ℕ
  pub facts : List Fact

-- its numbers fit their fields, there is a class of births at least for each task, and its facts
-- are a set within its counts
pub record IsDraft (d : Content) : Type 0 where
  pub tasks : d.tasks < 2 ^ 16
  pub classes : d.classes < 2 ^ 16
  pub births : d.births < 2 ^ 16
  pub enough : d.tasks ≤ d.births
  pub ascending : IsAscending d.facts
  pub within : AreWithin d.tasks d.classes d.facts
  pub few : length d.facts < 2 ^ 32
