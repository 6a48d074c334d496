-- Believe. The names of tasks, wired ports and classes. The printed form of a class is this
-- profile's own choice.
use Rattle.std.specs.Prelude.{◌≡◌, ℕ, ◌+◌, ◌-◌, ◌==◌, Bool, bytes_eq, nat_lt, codes, List, [], ◌∷◌}
use Rattle.std.specs.Prelude.{length, Option, Some, None, IsTrue, if◌then◌else◌}
use Rattle.std.specs.Prelude.{slice_get}
use Rattle.std.specs.Prelude.{drop, nat_eq, option_and_then, find, unwrap_or}
use Rattle.std.specs.List.{starts_with, position_or_len, before_first, after_first}
use Rattle.std.specs.Option.{option_map}
pub use Rattle.mrc_name_table.specs.Names.{number_of}
use Rattle.mrc_wiring_text.specs.Names.{is_name}
use Rattle.mrc_wiring_text.specs.declared.policy.ClassName.{ClassName}
use Rattle.mrc_wiring_text.specs.declared.policy.ClassName.TheVariants as said
use Rattle.mrc_wiring.specs.declared.names.ClassKind.{ClassKind}
use Rattle.mrc_wiring.specs.declared.names.ClassLabel.{ClassLabel}
use Rattle.mrc_wiring.specs.declared.names.NumberedClass.{NumberedClass}
use Rattle.mrc_wiring.specs.declared.names.ClassKind.TheVariants.{Port, Task, Births}
use Rattle.mrc_wiring.specs.declared.births.BirthRow.{BirthRow}
use Rattle.mrc_wiring.specs.Births.{has_row}
use Rattle.mrc_wiring.specs.Table.{Table, kind_class}

-- each has a name, and no two have the same
pub record AreNames (names : List (List ℕ)) : Type 0 where
  pub each : (t : ℕ) (name : List ℕ) → slice_get names t ≡ Some name → IsTrue (is_name name)
  pub distinct : (t u : ℕ) (name : List ℕ)
      → slice_get names t ≡ Some name
      → slice_get names u ≡ Some name
      → t ≡ u

-- the kind of a class, and the name of its port or task
abbrev pub label_of : ClassKind → List ℕ → ClassKind × List ℕ
label_of kind name = (kind, name)

-- the kind and the name of births
abbrev pub row_label : List (List ℕ) → BirthRow → Option (ClassKind × List ℕ)
row_label names row = option_map (label_of (Births row.kind)) (slice_get names row.task)

-- the kind of a class, and the name of its port or task: wired ports come first, then kernel ports,
-- then births
abbrev pub class_label : Table → ℕ → Option (ClassKind × List ℕ)
class_label table c =
    if nat_lt c (length table.ports) then option_map (label_of Port) (slice_get table.ports c)
    else if nat_lt c (length table.ports + length table.names)
    then option_map (label_of Task) (slice_get table.names (c - length table.ports))
    else option_and_then (row_label table.names)
    (slice_get table.births (c - (length table.ports + length table.names)))

-- the class of this kind and number
abbrev pub class_numbered : Table → ClassKind → ℕ → Option ℕ
class_numbered table kind n =
    kind_class (length table.ports) (length table.names) table.births kind n

-- a colon
abbrev pub is_colon : ℕ → Bool
is_colon b = b == 58

-- the words of the kinds of births, from 0 on
abbrev pub kind_words : List (List ℕ)
kind_words =
    codes "0" ∷ codes "1" ∷ codes "2" ∷ codes "3" ∷ codes "4" ∷ codes "5" ∷ codes "6" ∷ codes "7"
    ∷ codes "8" ∷ codes "9" ∷ codes "10" ∷ codes "11" ∷ codes "12" ∷ codes "13" ∷ codes "14"
    ∷ codes "15" ∷ []

-- the word of a kind of births
abbrev pub kind_word : ℕ → List ℕ
kind_word kind = unwrap_or (slice_get kind_words kind) []

-- the kinds that are printed: all but 0
abbrev pub printed_kinds : List ℕ
printed_kinds =
    1 ∷ 2 ∷ 3 ∷ 4 ∷ 5 ∷ 6 ∷ 7 ∷ 8 ∷ 9 ∷ 10 ∷ 11 ∷ 12 ∷ 13 ∷ 14 ∷ 15 ∷ []

-- the kind of births that is printed so
unfoldable pub kind_named : List ℕ → Option ℕ
kind_named text = find (λ kind. bytes_eq text (kind_word kind)) printed_kinds

-- the class of the births of the task of a name, by their kind, if there is one
abbrev pub births_class_named : Table → List ℕ → Option ℕ → Option ℕ
births_class_named table name None = None
births_class_named table name (Some kind) =
    option_and_then (class_numbered table (Births kind)) (number_of table.names name)

-- the class of births that a text names: `U`, which is kind 0, or `U:K`
abbrev pub births_named : Table → List ℕ → Option ℕ
births_named table text =
    if nat_lt (position_or_len is_colon text) (length text)
    then births_class_named table (before_first is_colon text)
    (kind_named (after_first is_colon text))
    else births_class_named table text (Some 0)

-- the class that a text names: `port:P` is the wired port P, `task:U` the kernel port of U,
-- `births:U` what U, or a task that is made like it, is the first to hold of kind 0, and
-- `births:U:K` of kind K
unfoldable pub class_named : Table → List ℕ → Option ℕ
class_named table text =
    if starts_with nat_eq text (codes "port:")
    then option_and_then (class_numbered table Port) (number_of table.ports (drop 5 text))
    else if starts_with nat_eq text (codes "task:")
    then option_and_then (class_numbered table Task) (number_of table.names (drop 5 text))
    else if starts_with nat_eq text (codes "births:")
    then births_named table (drop 7 text)
    else None

-- the class of this kind and this number
abbrev pub numbered : ClassKind → ℕ → NumberedClass
numbered kind n = record { kind = kind; number = n }

-- the births of task t of this kind, if there are any
abbrev pub births_said : List BirthRow → ℕ → ℕ → Option NumberedClass
births_said births kind t =
    if has_row births t kind then Some (numbered (Births kind) t) else None

-- the class that a line names, by the names of tasks and wired ports and by the births that are
-- there
abbrev pub class_said : List (List ℕ) → List (List ℕ) → List BirthRow → ClassName
    → Option NumberedClass
class_said tasks ports births (said.Port name) = option_map (numbered Port) (number_of ports name)
class_said tasks ports births (said.Task name) = option_map (numbered Task) (number_of tasks name)
class_said tasks ports births (said.Births name kind) =
    option_and_then (births_said births kind) (number_of tasks name)

-- what a label shows
abbrev pub shown_label : ClassLabel → ClassKind × List ℕ
shown_label label = (label.kind, label.name.now)
