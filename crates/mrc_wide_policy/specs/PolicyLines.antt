-- Believe. What a line of a policy of version 3 says: one case a line, by its first word. This
-- profile's own choice.
use Rattle.std.specs.Prelude.{ℕ, ◌-◌, Bool, true, false, bytes_eq, codes, List, [], ◌∷◌, length}
use Rattle.std.specs.Prelude.{take, drop, Option, Some, None, if◌then◌else◌}
use Rattle.std.specs.List.{slice_index_or}
use Rattle.std.specs.Option.{option_map}
use Rattle.mrc_base.specs.declared.PortRight.{PortRight}
use Rattle.mrc_wiring_text.specs.Policy.{right_of}
use Rattle.mrc_stand_for.specs.declared.wide.Kinds.TheVariants as kinds
use Rattle.mrc_stand_for.specs.declared.wide.Tasks.{Tasks}
use Rattle.mrc_stand_for.specs.declared.wide.WideClass.{WideClass}
use Rattle.mrc_stand_for.specs.declared.wide.WideClass.TheVariants as class
use Rattle.mrc_wide_text.specs.WideWords.{free_name, one, separated, in_front, behind}
use Rattle.mrc_wide_text.specs.WideWords.{tasks_in_front, tasks_behind, tasks_of, class_of}
use Rattle.mrc_wide_text.specs.WideWords.{fixed_class, rights_of}
use Rattle.mrc_wide_policy.specs.declared.says.Product.{Product}
use Rattle.mrc_wide_policy.specs.declared.says.PolicySays.{PolicySays}
use Rattle.mrc_wide_policy.specs.declared.says.PolicySays.TheVariants.{Group, Set, Forbid, Expect}
use Rattle.mrc_wide_policy.specs.declared.says.PolicySays.TheVariants.{Waive}
use Rattle.mrc_wide_policy.specs.Quotes.{quoted_of}

-- ---- TASKS RIGHTS CLASSES

-- a product, if its tasks, its rights and its classes are there
abbrev pub product_named : Option Tasks → Option (List PortRight) → Option (List WideClass)
    → Option Product
product_named (Some tasks) (Some rights) (Some classes) =
    Some (record { tasks = tasks; rights = rights; classes = classes })
product_named _ _ _ = None

-- RIGHTS CLASSES behind TASKS
abbrev pub rights_and_classes : Option Tasks → List (List ℕ) → Option Product
rights_and_classes tasks words =
    product_named tasks (rights_of (in_front words)) (separated class_of (behind words))

-- TASKS RIGHTS CLASSES
abbrev pub product_of : List (List ℕ) → Option Product
product_of words = rights_and_classes (tasks_of (tasks_in_front words)) (tasks_behind words)

-- the class has `any` kind
abbrev pub has_any : WideClass → Bool
has_any (class.Births whom kinds.Any) = true
has_any _ = false

-- a class without `any`, which reads as 'one of these'
abbrev pub unless_any : Option WideClass → Option WideClass
unless_any (Some class) = if has_any class then None else Some class
unless_any None = None

-- CLASS in a line that expects
abbrev pub expected_class : List (List ℕ) → Option WideClass
expected_class words = unless_any (class_of words)

-- RIGHTS CLASSES behind TASKS, in a line that expects: no `any` of rights or of kinds
abbrev pub expected_rights : Option Tasks → List (List ℕ) → Option Product
expected_rights tasks words =
    product_named tasks (separated (one right_of) (in_front words))
    (separated expected_class (behind words))

-- TASKS RIGHTS CLASSES in a line that expects
abbrev pub expected_of : List (List ℕ) → Option Product
expected_of words = expected_rights (tasks_of (tasks_in_front words)) (tasks_behind words)

-- ---- "NAME"

-- the NAME with which words begin, if they do
unfoldable pub name_in_front : List (List ℕ) → Option (List ℕ)
name_in_front [] = None
name_in_front (word ∷ words) = quoted_of word

-- the words behind a NAME, if it is there
abbrev pub behind_name : Option (List ℕ) → List (List ℕ) → List (List ℕ)
behind_name (Some name) words = drop 1 words
behind_name None words = words

-- ---- lines

-- a group, if its name and its tasks are there
abbrev pub group_named : Option (List ℕ) → Option Tasks → Option PolicySays
group_named (Some group) (Some tasks) = Some (Group group tasks)
group_named _ _ = None

-- the words after `group` in `group G TASKS`
unfoldable pub group_says : List (List ℕ) → Option PolicySays
group_says (group ∷ tasks) = group_named (free_name group) (tasks_of tasks)
group_says [] = None

-- a set, if its name and its classes are there
abbrev pub set_named : Option (List ℕ) → Option (List WideClass) → Option PolicySays
set_named (Some set) (Some classes) = Some (Set set classes)
set_named _ _ = None

-- the words after `set` in `set S CLASSES`
unfoldable pub set_says : List (List ℕ) → Option PolicySays
set_says (set ∷ classes) = set_named (free_name set) (separated fixed_class classes)
set_says [] = None

-- the words after `forbid` in `forbid TASKS RIGHTS CLASSES` and the same behind "NAME"
abbrev pub forbid_says : List (List ℕ) → Option PolicySays
forbid_says words =
    option_map (Forbid (name_in_front words)) (product_of (behind_name (name_in_front words) words))

-- the words after `expect` in `expect TASKS RIGHTS CLASSES` and the same behind "NAME"
abbrev pub expect_says : List (List ℕ) → Option PolicySays
expect_says words =
    option_map (Expect (name_in_front words))
    (expected_of (behind_name (name_in_front words) words))

-- a waiver, if its name, its product if it has one, and its reason are there
abbrev pub waive_named : Option (List ℕ) → Option (Option Product) → Option (List ℕ)
    → Option PolicySays
waive_named (Some name) (Some product) (Some because) = Some (Waive name product because)
waive_named _ _ _ = None

-- the last of the words
abbrev pub last_word : List (List ℕ) → List ℕ
last_word words = slice_index_or words (length words - 1) []

-- the words in front of the last
abbrev pub but_last : List (List ℕ) → List (List ℕ)
but_last words = take (length words - 1) words

-- the product of a waiver whose words it is: none of no words
unfoldable pub waived_product : List (List ℕ) → Option (Option Product)
waived_product [] = Some None
waived_product words = option_map Some (product_of words)

-- the words after `waive` in `waive "NAME" "WORDS"` and `waive "NAME" TASKS RIGHTS CLASSES "WORDS"`
unfoldable pub waive_says : List (List ℕ) → Option PolicySays
waive_says [] = None
waive_says (name ∷ words) =
    waive_named (quoted_of name) (waived_product (but_last words)) (quoted_of (last_word words))

-- what the words of a line say, by the first of them
unfoldable pub policy_says : List (List ℕ) → Option PolicySays
policy_says [] = None
policy_says (key ∷ words) =
    if bytes_eq key (codes "group") then group_says words
    else (if bytes_eq key (codes "set") then set_says words
    else (if bytes_eq key (codes "forbid") then forbid_says words
    else (if bytes_eq key (codes "expect") then expect_says words
    else (if bytes_eq key (codes "waive") then waive_says words else None))))
