-- Law. TASKS are read as they are spelled: the words in front of a line's other words.
use Rattle.std.specs.Prelude.{◌≡◌, ◌<◌, ⊤, ℕ, false, bytes_eq, codes, List, [], ◌∷◌, ◌++◌, length}
use Rattle.std.specs.Prelude.{Some}
use Rattle.std.specs.List.{AllByRecursion}
use Rattle.mrc_wiring_text.specs.Lexis.{is_comma}
use Rattle.mrc_stand_for.specs.declared.wide.Tasks.{Tasks}
use Rattle.mrc_stand_for.specs.declared.wide.Tasks.TheVariants.{All, AllBut, Listed}
use Rattle.mrc_wide_text.specs.WideWords.{free_name, tasks_in_front, tasks_behind}
use Rattle.mrc_wide_text.specs.WideWords.{tasks_of}

-- names with a comma between each two
abbrev pub listed : List (List ℕ) → List (List ℕ)
listed [] = []
listed (name ∷ []) = name ∷ []
listed (name ∷ next ∷ names) = name ∷ codes "," ∷ listed (next ∷ names)

-- the words of TASKS
abbrev pub tasks_words : Tasks → List (List ℕ)
tasks_words All = codes "all" ∷ []
tasks_words (AllBut names) = codes "all" ∷ codes "but" ∷ listed names
tasks_words (Listed names) = listed names

-- a name that a task or a group can have
abbrev pub IsFree : List ℕ → Type 0
IsFree name = free_name name ≡ Some name

-- one such name or several
abbrev pub AreNames : List (List ℕ) → Type 0
AreNames names = (0 < length names) × AllByRecursion IsFree names

-- the names in TASKS are such
abbrev pub HasNames : Tasks → Type 0
HasNames All = ⊤
HasNames (AllBut names) = AreNames names
HasNames (Listed names) = AreNames names

-- TASKS are read up to a word that goes with none: all of them, and the other words are left
abbrev pub TasksAreRead : Type 0
TasksAreRead =
    (tasks : Tasks) (next : List ℕ) (rest : List (List ℕ))
    → HasNames tasks
    → is_comma next ≡ false
    → bytes_eq next (codes "but") ≡ false
    → (tasks_of (tasks_in_front (tasks_words tasks ++ next ∷ rest)) ≡ Some tasks)
    × (tasks_behind (tasks_words tasks ++ next ∷ rest) ≡ next ∷ rest)
