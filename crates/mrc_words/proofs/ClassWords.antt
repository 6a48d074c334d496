-- A class's word is read as the class, and no other word is.
use Rattle.std.proofs.Common.{◌≡◌, ℕ, zero, suc, ◌+◌, ◌-◌, ◌<◌, ◌≤◌, true, false, List}
use Rattle.std.proofs.Common.{[], ◌∷◌, ◌++◌, length, take, drop, ◌&&◌, append_assoc, length-append}
use Rattle.std.proofs.Common.{Option, Some, None, refl, sym, subst, ap, ap₂, ◌∙◌, arith, get_or}
use Rattle.std.proofs.Common.{nat_lt, if◌then◌else◌, codes, nat_eq, option_map, Bool, cond, ◌==◌}
use Rattle.std.proofs.lemmas.List.{take-append-drop, append-nil, length-map, take_at, drop_at}
use Rattle.std.specs.List.{starts_with, position_or_len, before_first, after_first, list_all}
use Rattle.std.specs.Prelude.{slice_get, option_and_then, find, bytes_eq}
use Rattle.std.proofs.lemmas.Bool.{ltb-true, ltb-false, lt-ltb, le-ltb, eqb-true, and_parts, ne_eqb}
use Rattle.std.proofs.lemmas.Option.{slice_get_within}
use Rattle.std.proofs.lemmas.List.Sums.{split_at_first, passes_at_first}
use Rattle.std.proofs.lemmas.Slice.Eq.{bytes_eq-Decides}
use Rattle.mrc_base.proofs.Lists.{element_there, then_is}
use Rattle.mrc_model.specs.Wiring.{classes}
use Rattle.mrc_wiring_text.specs.Names.{is_name, is_letter, is_name_byte}
use Rattle.mrc_wiring.specs.declared.births.BirthRow.{BirthRow}
use Rattle.mrc_wiring.specs.Births.{AreBirths, AreKinds, pair_of}
use Rattle.mrc_wiring.specs.Table.{Table, wiring_of}
use Rattle.mrc_wiring.specs.declared.names.ClassKind.TheVariants.{Port, Task, Births}
use Rattle.mrc_wiring.specs.Names.{AreNames, number_of, class_label, class_named, label_of}
use Rattle.mrc_wiring.specs.Names.{row_label, class_numbered, is_colon, kind_word, kind_named}
use Rattle.mrc_wiring.specs.Names.{births_class_named, births_named, printed_kinds}
use Rattle.mrc_wiring.proofs.BirthLaws.{births_are, births_found, each_get}
use Rattle.mrc_wiring.proofs.NameLemmas.{number_at, named_at, read_within}
use Rattle.mrc_words.specs.Words.{class_word, class_text, behind_name}
use Rattle.mrc_words.proofs.Cuts.{HasNoBlank, no_blanks, no_blank-append, no_blank_name}

-- tasks and wired ports have names of their own, and births are those of the tasks
abbrev pub AreNamed : Table → Type 0
AreNamed table =
    AreNames table.names × AreNames table.ports × AreBirths (length table.names) table.births
    × AreKinds table.births

-- the wired ports, the kernel ports and the births
pub classes_are : (table : Table)
    → classes (wiring_of table) ≡ length table.ports + length table.names + length table.births
classes_are table = omega (arith, length-map table.births pair_of)

-- the label of a wired port's class
port_label : (table : Table) (t : ℕ) (name : List ℕ)
    → slice_get table.ports t ≡ Some name
    → class_label table t ≡ Some (Port, name)
port_label table t name e =
    let low : nat_lt t (length table.ports) ≡ true =
    lt-ltb _ _ (read_within table.ports t name e) in
    rw low (ap (option_map (label_of Port)) e)

-- the label of a kernel port's class
task_label : (table : Table) (t : ℕ) (name : List ℕ)
    → slice_get table.names t ≡ Some name
    → class_label table (length table.ports + t) ≡ Some (Task, name)
task_label table t name e =
    let within = read_within table.names t name e in
    let past : nat_lt (length table.ports + t) (length table.ports) ≡ false =
    le-ltb _ _ (omega arith) in
    let low : nat_lt (length table.ports + t) (length table.ports + length table.names) ≡ true =
    lt-ltb _ _ (omega arith) in
    let back : length table.ports + t - length table.ports ≡ t = omega arith in
    rw past (rw low (ap (option_map (label_of Task)) (ap (slice_get table.names) back ∙ e)))

-- the label of births
births_label : (table : Table) (k : ℕ) (row : BirthRow) (name : List ℕ)
    → slice_get table.births k ≡ Some row
    → slice_get table.names row.task ≡ Some name
    → class_label table (length table.ports + length table.names + k)
    ≡ Some (Births row.kind, name)
births_label table k row name e f =
    let past : nat_lt (length table.ports + length table.names + k) (length table.ports) ≡ false =
    le-ltb _ _ (omega arith) in
    let high : nat_lt (length table.ports + length table.names + k)
    (length table.ports + length table.names) ≡ false =
    le-ltb _ _ (omega arith) in
    let back : length table.ports + length table.names + k
    - (length table.ports + length table.names) ≡ k = omega arith in
    rw past (rw high (ap (option_and_then (row_label table.names))
    (ap (slice_get table.births) back ∙ e) ∙ ap (option_map (label_of (Births row.kind))) f))

-- a class of the wiring is a wired port, or the kernel port or the births of a task
data IsClassOf (table : Table) : ℕ → Type 0 where
  is_port : (t : ℕ) (name : List ℕ) → slice_get table.ports t ≡ Some name → IsClassOf table t
  is_task : (t : ℕ) (name : List ℕ) → slice_get table.names t ≡ Some name
      → IsClassOf table (length table.ports + t)
  is_births : (k : ℕ) (row : BirthRow) (name : List ℕ) → slice_get table.births k ≡ Some row
      → slice_get table.names row.task ≡ Some name
      → IsClassOf table (length table.ports + length table.names + k)

-- a class behind the wired ports
is_task_class : (table : Table) (c : ℕ)
    → AreNamed table
    → length table.ports ≤ c
    → c < length table.ports + length table.names + length table.births
    → IsClassOf table c
is_task_class table c are high h =
    elim (nat_lt c (length table.ports + length table.names))
    as (λ b. nat_lt c (length table.ports + length table.names) ≡ b → IsClassOf table c) [
      | true ↦ λ e.
          let low = ltb-true _ _ e in
          let found = element_there table.names (c - length table.ports) (omega arith) in
          subst (IsClassOf table) (omega arith) (is_task (c - length table.ports) found.0 found.1)
      | false ↦ λ e.
          let past = ltb-false _ _ e in
          let k = c - (length table.ports + length table.names) in
          let found = element_there table.births k (omega arith) in
          let low = each_get (λ (r : BirthRow). r.task < length table.names) table.births k found.0
          are.2.each found.1 in
          let name = element_there table.names found.0.task low in
          subst (IsClassOf table) (omega arith) (is_births k found.0 name.0 found.1 name.1)
    ] refl

is_class : (table : Table) (c : ℕ)
    → AreNamed table
    → c < length table.ports + length table.names + length table.births
    → IsClassOf table c
is_class table c are h =
    elim (nat_lt c (length table.ports))
    as (λ b. nat_lt c (length table.ports) ≡ b → IsClassOf table c) [
      | true ↦ λ e.
          let found = element_there table.ports c (ltb-true _ _ e) in is_port c found.0 found.1
      | false ↦ λ e. is_task_class table c are (ltb-false _ _ e) h
    ] refl

named_port : (table : Table) (name : List ℕ)
    → class_named table (codes "port:" ++ name)
    ≡ option_and_then (class_numbered table Port) (number_of table.ports name)
unfolding class_named
named_port table name = refl

named_task : (table : Table) (name : List ℕ)
    → class_named table (codes "task:" ++ name)
    ≡ option_and_then (class_numbered table Task) (number_of table.names name)
unfolding class_named
named_task table name = refl

named_births : (table : Table) (text : List ℕ)
    → class_named table (codes "births:" ++ text) ≡ births_named table text
unfolding class_named
named_births table text = refl

-- a kind is read as its word says
kind_again : (kind : ℕ) → 0 < kind → kind < 16 → kind_named (kind_word kind) ≡ Some kind
unfolding kind_named
kind_again zero some low = absurd (omega arith)
kind_again (suc zero) some low = refl
kind_again (suc (suc zero)) some low = refl
kind_again (suc (suc (suc zero))) some low = refl
kind_again (suc (suc (suc (suc zero)))) some low = refl
kind_again (suc (suc (suc (suc (suc zero))))) some low = refl
kind_again (suc (suc (suc (suc (suc (suc zero)))))) some low = refl
kind_again (suc (suc (suc (suc (suc (suc (suc zero))))))) some low = refl
kind_again (suc (suc (suc (suc (suc (suc (suc (suc zero)))))))) some low = refl
kind_again (suc (suc (suc (suc (suc (suc (suc (suc (suc zero))))))))) some low = refl
kind_again (suc (suc (suc (suc (suc (suc (suc (suc (suc (suc zero)))))))))) some low = refl
kind_again (suc (suc (suc (suc (suc (suc (suc (suc (suc (suc (suc zero))))))))))) some low = refl
kind_again (suc (suc (suc (suc (suc (suc (suc (suc (suc (suc (suc (suc zero)))))))))))) some low =
    refl
kind_again (suc (suc (suc (suc (suc (suc (suc (suc
    (suc (suc (suc (suc (suc zero))))))))))))) some low = refl
kind_again (suc (suc (suc (suc (suc (suc (suc (suc
    (suc (suc (suc (suc (suc (suc zero)))))))))))))) some low = refl
kind_again (suc (suc (suc (suc (suc (suc (suc (suc
    (suc (suc (suc (suc (suc (suc (suc zero))))))))))))))) some low = refl
kind_again (suc (suc (suc (suc (suc (suc (suc (suc
    (suc (suc (suc (suc (suc (suc (suc (suc kind)))))))))))))))) some low = absurd (omega arith)

-- and the word has no blank
no_blank_kind : (kind : ℕ) → kind < 16 → HasNoBlank (behind_name kind)
no_blank_kind zero low = no_blanks (behind_name 0) refl
no_blank_kind (suc zero) low = no_blanks (behind_name 1) refl
no_blank_kind (suc (suc zero)) low = no_blanks (behind_name 2) refl
no_blank_kind (suc (suc (suc zero))) low = no_blanks (behind_name 3) refl
no_blank_kind (suc (suc (suc (suc zero)))) low = no_blanks (behind_name 4) refl
no_blank_kind (suc (suc (suc (suc (suc zero))))) low = no_blanks (behind_name 5) refl
no_blank_kind (suc (suc (suc (suc (suc (suc zero)))))) low = no_blanks (behind_name 6) refl
no_blank_kind (suc (suc (suc (suc (suc (suc (suc zero))))))) low = no_blanks (behind_name 7) refl
no_blank_kind (suc (suc (suc (suc (suc (suc (suc (suc zero)))))))) low = no_blanks (behind_name 8)
    refl
no_blank_kind (suc (suc (suc (suc (suc (suc (suc (suc (suc zero))))))))) low =
    no_blanks (behind_name 9) refl
no_blank_kind (suc (suc (suc (suc (suc (suc (suc (suc (suc (suc zero)))))))))) low =
    no_blanks (behind_name 10) refl
no_blank_kind (suc (suc (suc (suc (suc (suc (suc (suc (suc (suc (suc zero))))))))))) low =
    no_blanks (behind_name 11) refl
no_blank_kind (suc (suc (suc (suc (suc (suc (suc (suc (suc (suc (suc (suc zero)))))))))))) low =
    no_blanks (behind_name 12) refl
no_blank_kind (suc (suc (suc (suc (suc (suc (suc
    (suc (suc (suc (suc (suc (suc zero))))))))))))) low = no_blanks (behind_name 13) refl
no_blank_kind (suc (suc (suc (suc (suc (suc (suc
    (suc (suc (suc (suc (suc (suc (suc zero)))))))))))))) low = no_blanks (behind_name 14) refl
no_blank_kind (suc (suc (suc (suc (suc (suc (suc
    (suc (suc (suc (suc (suc (suc (suc (suc zero))))))))))))))) low = no_blanks (behind_name 15)
    refl
no_blank_kind (suc (suc (suc (suc (suc (suc (suc
    (suc (suc (suc (suc (suc (suc (suc (suc (suc kind)))))))))))))))) low = absurd (omega arith)

-- a byte of a name is no colon
no_colon_byte : (b : ℕ) → is_name_byte b ≡ true → is_colon b ≡ false
no_colon_byte b is =
    elim (is_colon b) as (λ v. is_colon b ≡ v → v ≡ false) [
      | true ↦ λ e.
          let bad : is_name_byte 58 ≡ true = subst (λ n. is_name_byte n ≡ true) (eqb-true b 58 e) is
          in
          sym bad
      | false ↦ λ e. refl
    ] refl

no_colon_letter : (b : ℕ) → is_letter b ≡ true → is_colon b ≡ false
no_colon_letter b is =
    elim (is_colon b) as (λ v. is_colon b ≡ v → v ≡ false) [
      | true ↦ λ e.
          let bad : is_letter 58 ≡ true = subst (λ n. is_letter n ≡ true) (eqb-true b 58 e) is in
          sym bad
      | false ↦ λ e. refl
    ] refl

-- the first colon stands behind a name
colon_bytes : (bs rest : List ℕ)
    → list_all is_name_byte bs ≡ true
    → position_or_len is_colon (bs ++ 58 ∷ rest) ≡ length bs
colon_bytes [] rest is = refl
colon_bytes (b ∷ bs) rest is =
    let parts = and_parts (is_name_byte b) (list_all is_name_byte bs) is in
    let more = colon_bytes bs rest parts.1 in
    rw (no_colon_byte b parts.0) omega arith

no_colon_bytes : (bs : List ℕ)
    → list_all is_name_byte bs ≡ true
    → position_or_len is_colon bs ≡ length bs
no_colon_bytes [] is = refl
no_colon_bytes (b ∷ bs) is =
    let parts = and_parts (is_name_byte b) (list_all is_name_byte bs) is in
    let more = no_colon_bytes bs parts.1 in
    rw (no_colon_byte b parts.0) omega arith

colon_name : (name rest : List ℕ)
    → is_name name ≡ true
    → position_or_len is_colon (name ++ 58 ∷ rest) ≡ length name
unfolding is_name
colon_name [] rest is = absurd cc
colon_name (b ∷ bs) rest is =
    let front = and_parts (is_letter b && nat_lt (length bs) 64) (list_all is_name_byte bs) is in
    let letter = (and_parts (is_letter b) (nat_lt (length bs) 64) front.0).0 in
    let more = colon_bytes bs rest front.1 in
    rw (no_colon_letter b letter) omega arith

no_colon_name : (name : List ℕ)
    → is_name name ≡ true
    → position_or_len is_colon name ≡ length name
unfolding is_name
no_colon_name [] is = absurd cc
no_colon_name (b ∷ bs) is =
    let front = and_parts (is_letter b && nat_lt (length bs) 64) (list_all is_name_byte bs) is in
    let letter = (and_parts (is_letter b) (nat_lt (length bs) 64) front.0).0 in
    let more = no_colon_bytes bs front.1 in
    rw (no_colon_letter b letter) omega arith

-- births of kind 0 are read by the name alone
plain_read : (table : Table) (name : List ℕ)
    → is_name name ≡ true
    → births_named table name ≡ births_class_named table name (Some 0)
plain_read table name is =
    let at = no_colon_name name is in
    let none : nat_lt (position_or_len is_colon name) (length name) ≡ false =
    le-ltb _ _ (omega arith) in
    rw none refl

-- others by the name and the kind
kind_read : (table : Table) (name : List ℕ) (kind : ℕ)
    → is_name name ≡ true
    → 0 < kind
    → kind < 16
    → births_named table (name ++ 58 ∷ kind_word kind)
    ≡ births_class_named table name (Some kind)
kind_read table name kind is some low =
    let word = kind_word kind in
    let text : List ℕ = name ++ 58 ∷ word in
    let at : position_or_len is_colon text ≡ length name = colon_name name word is in
    let inside : nat_lt (position_or_len is_colon text) (length text) ≡ true =
    lt-ltb _ _ (omega (arith, at, length-append name (58 ∷ word))) in
    let before : before_first is_colon text ≡ name = take_at name (58 ∷ word) _ (sym at) in
    let one : name ++ 58 ∷ word ≡ (name ++ 58 ∷ []) ++ word =
    sym (append_assoc name (58 ∷ []) word) in
    let after : after_first is_colon text ≡ word =
    ap (λ t. drop (position_or_len is_colon text + 1) t) one
    ∙ drop_at (name ++ 58 ∷ []) word _ (omega (arith, at, length-append name (58 ∷ []))) in
    rw inside (ap₂ (λ (a b : List ℕ). births_class_named table a (kind_named b)) before after
    ∙ ap (births_class_named table name) (kind_again kind some low))

births_read : (table : Table) (name : List ℕ) (kind : ℕ)
    → is_name name ≡ true
    → kind < 16
    → births_named table (name ++ behind_name kind) ≡ births_class_named table name (Some kind)
births_read table name zero is low =
    ap (births_named table) (append-nil name) ∙ plain_read table name is
births_read table name (suc kind) is low =
    let other : (suc kind == 0) ≡ false = ne_eqb (suc kind) 0 (λ z. absurd (omega arith)) in
    ap (λ b. births_named table (name ++ cond b [] (58 ∷ kind_word (suc kind)))) other
    ∙ kind_read table name (suc kind) is (omega arith) low

-- a name behind a prefix has no blank
no_blank_behind : (prefix : List ℕ) (names : List (List ℕ)) (t : ℕ) (name : List ℕ)
    → AreNames names
    → slice_get names t ≡ Some name
    → HasNoBlank prefix
    → HasNoBlank (prefix ++ name)
no_blank_behind prefix names t name are e h =
    no_blank-append prefix name h (no_blank_name name (are.each t name e))

class_read : (table : Table) (c : ℕ) → AreNamed table → IsClassOf table c
    → (class_named table (class_text c (class_label table c)) ≡ Some c)
    × HasNoBlank (class_text c (class_label table c))
class_read table _ are (is_port t name e) =
    rw (port_label table t name e) (
      named_port table name ∙ ap (option_and_then (class_numbered table Port))
          (number_at table.ports name t are.1 e),
      no_blank_behind (codes "port:") table.ports t name are.1 e (no_blanks (codes "port:") refl),
    )
class_read table _ are (is_task t name e) =
    rw (task_label table t name e) (
      named_task table name ∙ ap (option_and_then (class_numbered table Task))
          (number_at table.names name t are.0 e),
      no_blank_behind (codes "task:") table.names t name are.0 e (no_blanks (codes "task:") refl),
    )
class_read table _ are (is_births k row name e f) =
    let named = are.0.each row.task name f in
    let low = each_get (λ (r : BirthRow). r.kind < 16) table.births k row are.3 e in
    rw (births_label table k row name e f) (
      named_births table (name ++ behind_name row.kind)
          ∙ births_read table name row.kind named low
          ∙ ap (option_and_then (class_numbered table (Births row.kind)))
          (number_at table.names name row.task are.0 f)
          ∙ births_found (length table.ports + length table.names) table.births k row
          are.2.ascending e,
      no_blank-append (codes "births:") (name ++ behind_name row.kind)
          (no_blanks (codes "births:") refl)
          (no_blank-append name (behind_name row.kind) (no_blank_name name named)
          (no_blank_kind row.kind low)),
    )

-- the word of a class of the wiring is read as the class
pub class_word_read : (table : Table) (c : ℕ) → AreNamed table → c < classes (wiring_of table)
    → class_named table (class_word table c) ≡ Some c
class_word_read table c are h =
    (class_read table c are (is_class table c are (omega (arith, h, classes_are table)))).0

-- and has no blank
pub class_word_no_blank : (table : Table) (c : ℕ) → AreNamed table
    → c < classes (wiring_of table) → HasNoBlank (class_word table c)
class_word_no_blank table c are h =
    (class_read table c are (is_class table c are (omega (arith, h, classes_are table)))).1

-- what starts with p is p and the rest
started : (text p : List ℕ) (n : ℕ) → n ≡ length p → starts_with nat_eq text p ≡ true
    → p ++ drop n text ≡ text
started text p n e is =
    let same : p ≡ take (length p) text = (bytes_eq-Decides p (take (length p) text)).0 is in
    ap₂ (λ (a b : List ℕ). a ++ b) same (ap (λ k. drop k text) e) ∙ take-append-drop (length p) text

-- a class of the wiring that prints as the text
abbrev pub IsWordOf : Table → ℕ → List ℕ → Type 0
IsWordOf table c text = (c < classes (wiring_of table)) × (class_word table c ≡ text)

port_back : (table : Table) (rest : List ℕ) (o : Option ℕ) (c : ℕ)
    → number_of table.ports rest ≡ o
    → option_and_then (class_numbered table Port) o ≡ Some c
    → IsWordOf table c (codes "port:" ++ rest)
port_back table rest None c at e = cc
port_back table rest (Some u) c at e =
    let is : u ≡ c = cc in
    let here = named_at table.ports rest u at in
    let low = read_within table.ports u rest here in (
      omega (arith, classes_are table),
      ap (class_word table) (sym is) ∙ ap (class_text u) (port_label table u rest here),
    )

task_back : (table : Table) (rest : List ℕ) (o : Option ℕ) (c : ℕ)
    → number_of table.names rest ≡ o
    → option_and_then (class_numbered table Task) o ≡ Some c
    → IsWordOf table c (codes "task:" ++ rest)
task_back table rest None c at e = cc
task_back table rest (Some u) c at e =
    let is : length table.ports + u ≡ c = cc in
    let here = named_at table.names rest u at in
    let low = read_within table.names u rest here in (
      omega (arith, classes_are table),
      ap (class_word table) (sym is)
          ∙ ap (class_text (length table.ports + u)) (task_label table u rest here),
    )

-- what is found among numbers above 0 passes, and is above 0
found_passes : (p : ℕ → Bool) (ks : List ℕ) (k : ℕ)
    → list_all (nat_lt 0) ks ≡ true
    → find p ks ≡ Some k
    → (p k ≡ true) × (0 < k)
found_passes p [] k each e = cc
found_passes p (x ∷ xs) k each e =
    let parts = and_parts (nat_lt 0 x) (list_all (nat_lt 0) xs) each in
    elim (p x) as (λ b. p x ≡ b → cond b (Some x) (find p xs) ≡ Some k → (p k ≡ true) × (0 < k)) [
      | true ↦ λ is found.
          let same : x ≡ k = cc in
          (subst (λ n. p n ≡ true) same is, subst (λ n. 0 < n) same (ltb-true 0 x parts.0))
      | false ↦ λ is found. found_passes p xs k parts.1 found
    ] refl e

-- the kind of a text, behind a name
kind_back : (text : List ℕ) (kind : ℕ)
    → kind_named text ≡ Some kind
    → behind_name kind ≡ 58 ∷ text
unfolding kind_named
kind_back text kind e =
    let found = found_passes (λ k. bytes_eq text (kind_word k)) printed_kinds kind refl e in
    let same = (bytes_eq-Decides text (kind_word kind)).0 found.0 in
    let other : (kind == 0) ≡ false = ne_eqb kind 0 (λ z. absurd (omega (arith, found.1, z))) in
    ap (λ b. cond b [] (58 ∷ kind_word kind)) other ∙ ap (λ w. 58 ∷ w) (sym same)

-- the name of the births' task, and their kind, of a class that both were read as
births_found_back : (table : Table) (name : List ℕ) (kind c : ℕ)
    → births_class_named table name (Some kind) ≡ Some c
    → IsWordOf table c (codes "births:" ++ (name ++ behind_name kind))
births_found_back table name kind c e =
    let number = then_is (class_numbered table (Births kind)) (number_of table.names name) c e in
    let u = number.0 in
    let here = named_at table.names name u number.1 in
    let is = births_are (length table.ports + length table.names) u kind table.births c number.2 in
    let at = is.1 in
    let row = is.2.row in
    let low = slice_get_within table.births is.0 row is.2.there in
    let named : slice_get table.names row.task ≡ Some name =
    ap (slice_get table.names) is.2.task ∙ here in
    let class_is : length table.ports + length table.names + is.0 ≡ c = omega arith in (
      omega (arith, classes_are table),
      ap (class_word table) (sym class_is)
          ∙ ap (class_text (length table.ports + length table.names + is.0))
          (births_label table is.0 row name is.2.there named)
          ∙ ap (λ (k : ℕ). codes "births:" ++ (name ++ behind_name k)) is.2.kind_is,
    )

kind_word_back : (table : Table) (name word : List ℕ) (o : Option ℕ) (rest : List ℕ) (c : ℕ)
    → kind_named word ≡ o
    → rest ≡ name ++ 58 ∷ word
    → births_class_named table name o ≡ Some c
    → IsWordOf table c (codes "births:" ++ rest)
kind_word_back table name word None rest c is parts e = cc
kind_word_back table name word (Some kind) rest c is parts e =
    let back = births_found_back table name kind c e in (
      back.0,
      back.1 ∙ ap (λ bs. codes "births:" ++ (name ++ bs)) (kind_back word kind is)
          ∙ ap (λ bs. codes "births:" ++ bs) (sym parts),
    )

births_back : (table : Table) (rest : List ℕ) (c : ℕ)
    → births_named table rest ≡ Some c
    → IsWordOf table c (codes "births:" ++ rest)
births_back table rest c e =
    elim (nat_lt (position_or_len is_colon rest) (length rest))
    as (λ b. nat_lt (position_or_len is_colon rest) (length rest) ≡ b
    → (if b then births_class_named table (before_first is_colon rest)
    (kind_named (after_first is_colon rest)) else births_class_named table rest (Some 0)) ≡ Some c
    → IsWordOf table c (codes "births:" ++ rest)) [
      | true ↦ λ inside found.
          let low = ltb-true _ _ inside in
          let colon : get_or rest (position_or_len is_colon rest) 0 ≡ 58 =
          eqb-true _ _ (passes_at_first is_colon rest 0 low) in
          kind_word_back table (before_first is_colon rest) (after_first is_colon rest)
          (kind_named (after_first is_colon rest)) rest c refl
          (split_at_first is_colon rest 0 low
          ∙ ap (λ (x : ℕ). before_first is_colon rest ++ x ∷ after_first is_colon rest) colon) found
      | false ↦ λ inside found.
          let back = births_found_back table rest 0 c found in
          (back.0, back.1 ∙ ap (λ bs. codes "births:" ++ bs) (append-nil rest))
    ] refl e

-- the class of a text that starts with none of the words before
abbrev births_text : Table → List ℕ → Option ℕ
births_text table text =
    if starts_with nat_eq text (codes "births:") then births_named table (drop 7 text) else None

abbrev task_named : Table → List ℕ → Option ℕ
task_named table text =
    if starts_with nat_eq text (codes "task:")
    then option_and_then (class_numbered table Task) (number_of table.names (drop 5 text)) else
    births_text table text

births_word_back : (table : Table) (text : List ℕ) (c : ℕ)
    → births_text table text ≡ Some c
    → IsWordOf table c text
births_word_back table text c e =
    elim (starts_with nat_eq text (codes "births:"))
    as (λ b. starts_with nat_eq text (codes "births:") ≡ b
    → (if b then births_named table (drop 7 text) else None) ≡ Some c
    → IsWordOf table c text) [
      | true ↦ λ begins found.
          let back = births_back table (drop 7 text) c found in
          (back.0, back.1 ∙ started text (codes "births:") 7 refl begins)
      | false ↦ λ begins found. cc
    ] refl e

task_word_back : (table : Table) (text : List ℕ) (c : ℕ)
    → task_named table text ≡ Some c
    → IsWordOf table c text
task_word_back table text c e =
    elim (starts_with nat_eq text (codes "task:"))
    as (λ b. starts_with nat_eq text (codes "task:") ≡ b
    → (if b then option_and_then (class_numbered table Task) (number_of table.names (drop 5 text))
    else births_text table text) ≡ Some c
    → IsWordOf table c text) [
      | true ↦ λ begins found.
          let back = task_back table (drop 5 text) _ c refl found in
          (back.0, back.1 ∙ started text (codes "task:") 5 refl begins)
      | false ↦ λ begins found. births_word_back table text c found
    ] refl e

-- a word that is read as a class is the class's word
pub class_word_back : (table : Table) (text : List ℕ) (c : ℕ)
    → class_named table text ≡ Some c
    → (c < classes (wiring_of table)) × (class_word table c ≡ text)
unfolding class_named
class_word_back table text c e =
    elim (starts_with nat_eq text (codes "port:"))
    as (λ b. starts_with nat_eq text (codes "port:") ≡ b
    → (if b then option_and_then (class_numbered table Port) (number_of table.ports (drop 5 text))
    else task_named table text) ≡ Some c
    → IsWordOf table c text) [
      | true ↦ λ begins found.
          let back = port_back table (drop 5 text) _ c refl found in
          (back.0, back.1 ∙ started text (codes "port:") 5 refl begins)
      | false ↦ λ begins found. task_word_back table text c found
    ] refl e
