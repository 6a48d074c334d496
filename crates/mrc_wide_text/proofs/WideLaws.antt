-- TASKS are read as they are spelled.
use Rattle.std.proofs.Common.{◌≡◌, ◌<◌, ℕ, ◌+◌, false, List, [], ◌∷◌, ◌++◌}
use Rattle.std.proofs.Common.{length, take, drop, map, Some, None, refl, sym, ap, ◌∙◌, subst}
use Rattle.std.proofs.Common.{inl, inr, arith}
use Rattle.std.specs.Prelude.{bytes_eq, codes}
use Rattle.std.specs.List.{AllByRecursion, slice_split}
use Rattle.std.proofs.lemmas.Bool.{cases_Bool}
use Rattle.std.proofs.lemmas.Option.{none-some}
use Rattle.std.proofs.Math.Seq.{take-append_seam, drop-append_seam}
use Rattle.mrc_wiring_text.specs.Items.{all_of}
use Rattle.mrc_wiring_text.specs.Lexis.{is_comma}
use Rattle.mrc_wiring_text.specs.Names.{is_name}
use Rattle.mrc_wiring_text.proofs.ItemLaws.{word_is}
use Rattle.mrc_stand_for.specs.declared.wide.Tasks.{Tasks}
use Rattle.mrc_stand_for.specs.declared.wide.Tasks.TheVariants.{All, AllBut, Listed}
use Rattle.mrc_wide_text.specs.WideWords.{is_reserved, free_name, one, is_alone, names_of, list_len}
use Rattle.mrc_wide_text.specs.WideWords.{begins_with_comma, is_all_but, tasks_len}
use Rattle.mrc_wide_text.specs.WideWords.{separated, tasks_in_front, tasks_behind, tasks_of}
use Rattle.mrc_wide_text.specs.WideLaws.{listed, tasks_words, IsFree, AreNames, HasNames}
use Rattle.mrc_wide_text.specs.WideLaws.{TasksAreRead}

-- ---- what no name is

free_is_no : (word name : List ℕ)
    → free_name word ≡ None
    → IsFree name
    → bytes_eq name word ≡ false
free_is_no word name none some =
    elim (cases_Bool (bytes_eq name word)) [
      | inl e ↦ absurd (none-some name (sym none
          ∙ subst (λ w. free_name w ≡ Some name) (word_is name word e) some))
      | inr e ↦ e
    ]

comma_is_no_name : free_name (codes ",") ≡ None
unfolding free_name is_reserved is_name
comma_is_no_name = refl

all_is_no_name : free_name (codes "all") ≡ None
unfolding free_name is_reserved
all_is_no_name = refl

no_comma : (name : List ℕ) → IsFree name → is_comma name ≡ false
no_comma name some = free_is_no (codes ",") name comma_is_no_name some

no_all : (name : List ℕ) → IsFree name → bytes_eq name (codes "all") ≡ false
no_all name some = free_is_no (codes "all") name all_is_no_name some

-- ---- names with commas

listed_len : (names rest : List (List ℕ))
    → 0 < length names
    → AllByRecursion IsFree names
    → begins_with_comma rest ≡ false
    → list_len (listed names ++ rest) ≡ length (listed names)
unfolding list_len
listed_len [] rest some free none = absurd (omega arith)
listed_len (name ∷ []) rest some free none = rw (no_comma name free.0, none) refl
listed_len (name ∷ next ∷ names) rest some free none =
    let later = listed_len (next ∷ names) rest (omega arith) free.1 none in
    rw (no_comma name free.0) (omega (arith, later))

parted : (names : List (List ℕ))
    → 0 < length names
    → AllByRecursion IsFree names
    → slice_split is_comma (listed names) ≡ map (λ name. name ∷ []) names
parted [] some free = absurd (omega arith)
parted (name ∷ []) some free = rw (no_comma name free.0) refl
parted (name ∷ next ∷ names) some free =
    rw (no_comma name free.0)
    (ap (λ parts. (name ∷ []) ∷ parts) (parted (next ∷ names) (omega arith) free.1))

each_read : (names : List (List ℕ))
    → AllByRecursion IsFree names
    → all_of (one free_name) (map (λ name. name ∷ []) names) ≡ Some names
each_read [] free = refl
each_read (name ∷ names) free = rw (free.0, each_read names free.1) refl

names_read : (names : List (List ℕ)) → AreNames names → names_of (listed names) ≡ Some names
unfolding separated
names_read names are =
    ap (all_of (one free_name)) (parted names are.0 are.1) ∙ each_read names are.1

-- ---- TASKS

first_is_no_all : (names rest : List (List ℕ)) → AreNames names
    → is_all_but (listed names ++ rest) ≡ false
first_is_no_all [] rest are = absurd (omega (arith, are.0))
first_is_no_all (name ∷ []) [] are = refl
first_is_no_all (name ∷ []) (next ∷ rest) are = rw (no_all name are.1.0) refl
first_is_no_all (name ∷ next ∷ names) rest are = rw (no_all name are.1.0) refl

not_all : (names : List (List ℕ)) → AreNames names
    → is_alone (codes "all") (listed names) ≡ false
not_all [] are = refl
not_all (name ∷ []) are = no_all name are.1.0
not_all (name ∷ next ∷ names) are = refl

not_all_but : (names : List (List ℕ)) → AreNames names → is_all_but (listed names) ≡ false
not_all_but [] are = refl
not_all_but (name ∷ []) are = refl
not_all_but (name ∷ next ∷ names) are = rw (no_all name are.1.0) refl

counted_all : (next : List ℕ) (rest : List (List ℕ))
    → is_comma next ≡ false
    → bytes_eq next (codes "but") ≡ false
    → tasks_len (codes "all" ∷ next ∷ rest) ≡ 1
unfolding tasks_len list_len
counted_all next rest none differs = rw (none, differs) refl

counted_but : (names : List (List ℕ)) (next : List ℕ) (rest : List (List ℕ))
    → AreNames names
    → is_comma next ≡ false
    → tasks_len (codes "all" ∷ codes "but" ∷ (listed names ++ next ∷ rest))
    ≡ length (codes "all" ∷ codes "but" ∷ listed names)
unfolding tasks_len
counted_but names next rest are none =
    let len = listed_len names (next ∷ rest) are.0 are.1 none in
    omega (arith, len)

counted_listed : (names : List (List ℕ)) (next : List ℕ) (rest : List (List ℕ))
    → AreNames names
    → is_comma next ≡ false
    → tasks_len (listed names ++ next ∷ rest) ≡ length (listed names)
unfolding tasks_len
counted_listed names next rest are none =
    rw (first_is_no_all names (next ∷ rest) are)
    (listed_len names (next ∷ rest) are.0 are.1 none)

counted : (tasks : Tasks) (next : List ℕ) (rest : List (List ℕ))
    → HasNames tasks
    → is_comma next ≡ false
    → bytes_eq next (codes "but") ≡ false
    → tasks_len (tasks_words tasks ++ next ∷ rest) ≡ length (tasks_words tasks)
counted All next rest has none differs = counted_all next rest none differs
counted (AllBut names) next rest has none differs = counted_but names next rest has none
counted (Listed names) next rest has none differs = counted_listed names next rest has none

said : (tasks : Tasks) → HasNames tasks → tasks_of (tasks_words tasks) ≡ Some tasks
unfolding tasks_of
said All has = refl
said (AllBut names) has = rw (names_read names has) refl
said (Listed names) has =
    rw (not_all names has, not_all_but names has, names_read names has) refl

pub tasks_are_read : TasksAreRead
unfolding tasks_in_front tasks_behind
tasks_are_read tasks next rest has none differs =
    let words : List (List ℕ) = tasks_words tasks ++ next ∷ rest in
    let count = counted tasks next rest has none differs in (
      ap (λ (n : ℕ). tasks_of (take n words)) count
          ∙ ap tasks_of (take-append_seam (tasks_words tasks) (next ∷ rest)) ∙ said tasks has,
      ap (λ (n : ℕ). drop n words) count ∙ drop-append_seam (tasks_words tasks) (next ∷ rest),
    )
