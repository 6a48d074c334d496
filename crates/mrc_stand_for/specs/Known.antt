-- Believe. What is known of the lines above. This profile's own choice.
use Rattle.std.specs.Prelude.{ℕ, Bool, false, ◌&&◌, ◌||◌, nat_eq, bytes_eq, List, [], ◌∷◌}
use Rattle.std.specs.Prelude.{map, filter, find, Option, if◌then◌else◌}
use Rattle.std.specs.List.{list_any, flat_map, range_with_len}
use Rattle.mrc_base.specs.Limits.{limit_of_kinds}
use Rattle.mrc_wiring_text.specs.declared.policy.ClassName.{ClassName}
use Rattle.mrc_wiring_text.specs.declared.policy.ClassName.TheVariants.{Port, Births}
use Rattle.mrc_stand_for.specs.declared.known.Group.{Group}
use Rattle.mrc_stand_for.specs.declared.known.ClassSet.{ClassSet}
use Rattle.mrc_stand_for.specs.declared.known.KnownBirths.{KnownBirths}
use Rattle.mrc_stand_for.specs.declared.known.Member.{Member}
use Rattle.mrc_stand_for.specs.declared.known.Known.{Known}
use Rattle.mrc_stand_for.specs.Once.{same_class}

-- nothing is known
abbrev pub no_lines : Known
no_lines = record {
  tasks = [];
  groups = [];
  sets = [];
  ports = [];
  births = [];
  members = [];
  closed = false;
  closed_kinds = [];
  named = [];
}

-- the group has this name
abbrev pub is_group_name : List ℕ → Group → Bool
is_group_name name group = bytes_eq name group.name

-- the group of a name
abbrev pub group_named : Known → List ℕ → Option Group
group_named known name = find (is_group_name name) known.groups

-- there is a group of the name
abbrev pub has_group : Known → List ℕ → Bool
has_group known name = list_any (is_group_name name) known.groups

-- the set has this name
abbrev pub is_set_name : List ℕ → ClassSet → Bool
is_set_name name set = bytes_eq name set.name

-- the set of a name
abbrev pub set_named : Known → List ℕ → Option ClassSet
set_named known name = find (is_set_name name) known.sets

-- there is a set of the name
abbrev pub has_set : Known → List ℕ → Bool
has_set known name = list_any (is_set_name name) known.sets

-- they are the births of the task by their kind
abbrev pub is_births_of : List ℕ → ℕ → KnownBirths → Bool
is_births_of task kind births = bytes_eq task births.task && nat_eq kind births.kind

-- the births that a line names
abbrev pub births_said : Known → List ℕ → ℕ → Option KnownBirths
births_said known task kind = find (is_births_of task kind) known.births

-- a task has births of the kind: of kind 0 each has, of another those that a line names
abbrev pub has_kind : Known → List ℕ → ℕ → Bool
has_kind known task kind = nat_eq kind 0 || list_any (is_births_of task kind) known.births

-- the port is of the births
abbrev pub is_member : List ℕ → ℕ → Member → Bool
is_member task kind member = bytes_eq task member.task && nat_eq kind member.kind

-- a wired port is of the births
abbrev pub has_member : Known → List ℕ → ℕ → Bool
has_member known task kind = list_any (is_member task kind) known.members

-- a line has named the class
abbrev pub has_named : Known → ClassName → Bool
has_named known class = list_any (same_class class) known.named

-- the class of a port that is births
abbrev pub member_class : Member → ClassName
member_class member = Port member.port

-- what the births of a task by their kind are: that class, and the wired ports that are such births
abbrev pub births_classes : Known → List ℕ → ℕ → List ClassName
births_classes known task kind =
    Births task kind ∷ map member_class (filter (is_member task kind) known.members)

-- what the births of a task by a kind are, if it has that kind
abbrev pub kind_classes : Known → List ℕ → ℕ → List ClassName
kind_classes known task kind =
    if has_kind known task kind then births_classes known task kind else []

-- what all births of a task are, by ascending kinds
abbrev pub all_births : Known → List ℕ → List ClassName
all_births known task = flat_map (kind_classes known task) (range_with_len 0 limit_of_kinds)
