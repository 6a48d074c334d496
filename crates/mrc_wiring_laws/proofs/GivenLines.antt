-- The table has the births and the admit lines that lines say: line by line.
use Rattle.std.proofs.Common.{◌≡◌, ◌⊎◌, inl, inr, ℕ, true, false, cond, List, []}
use Rattle.std.proofs.Common.{◌∷◌, ◌++◌, length, Option, Some, None, Ok, refl, ap, sym, subst, ◌∙◌}
use Rattle.std.proofs.Common.{arith}
use Rattle.std.specs.Prelude.{slice_get, position, option_and_then}
use Rattle.std.specs.Option.{option_map}
use Rattle.std.proofs.lemmas.Bool.{false≢true}
use Rattle.std.proofs.lemmas.List.{length-append}
use Rattle.std.proofs.lemmas.Option.{same_Some, cond_some, slice_get_within}
use Rattle.mrc_base.proofs.Lists.{filter_push, filter_skip, map_is, then_is}
use Rattle.mrc_model.specs.IsIn.{IsIn, here}
use Rattle.mrc_model.specs.declared.LabelItem.{LabelItem}
use Rattle.mrc_model.proofs.FirstHeld.{in_one}
use Rattle.mrc_model.proofs.Members.{in_left, in_right, in_append, in_get}
use Rattle.mrc_forms.specs.Tables.{Table as Interface}
use Rattle.mrc_wiring_text.specs.declared.reading.Line.{Line}
use Rattle.mrc_wiring_text.specs.declared.policy.ClassName.{ClassName}
use Rattle.mrc_wiring_text.specs.declared.policy.ClassName.TheVariants as said
use Rattle.mrc_wiring_text.specs.declared.items.Item.{Item}
use Rattle.mrc_wiring_text.specs.declared.wiring.WiringSays.{WiringSays}
use Rattle.mrc_wiring_text.specs.declared.wiring.WiringSays.TheVariants.{Births}
use Rattle.mrc_wiring.specs.declared.names.ClassKind.TheVariants as kinds
use Rattle.mrc_wiring.specs.declared.names.NumberedClass.{NumberedClass}
use Rattle.mrc_wiring.specs.declared.table.AdmitLine.{AdmitLine}
use Rattle.mrc_wiring.specs.declared.births.BirthRow.{BirthRow}
use Rattle.mrc_wiring.specs.Births.{is_row, has_row, has_said, said_row}
use Rattle.mrc_wiring.specs.Sorts.{is_sort, sorts_of}
use Rattle.mrc_wiring.specs.Table.{Table}
use Rattle.mrc_wiring.specs.Names.{number_of, class_said, numbered, births_said}
use Rattle.mrc_wiring.specs.Labels.{interface_number, label_said}
use Rattle.mrc_wiring.specs.Resolving.{with_births}
use Rattle.mrc_wiring.specs.Resolving.{with_admit}
use Rattle.mrc_wiring_laws.specs.GivenLines.{is_admit}
use Rattle.mrc_wiring_laws.specs.GivenLines.{admit_lines, HasBirthsLine, IsClassOf, IsAdmitOf}
use Rattle.mrc_wiring_laws.specs.GivenLines.{AreAdmitsOf}
use Rattle.mrc_wiring_laws.proofs.GivenRows.{snoc_get}
use Rattle.mrc_wiring_laws.proofs.GivenRows.{put_own}
use Rattle.mrc_wiring_laws.proofs.GivenRows.{put_other, put_from, not_said, has_put}
use Rattle.mrc_wiring_laws.proofs.GivenRows.{row_is}

-- ---- what a line keeps

-- names keep their numbers, and births their rows
pub record IsGrown (table u : Table) : Type 0 where
  pub interfaces_same : table.interfaces ≡ u.interfaces
  pub names_kept : (name : List ℕ) (t : ℕ) → number_of table.names name ≡ Some t
      → number_of u.names name ≡ Some t
  pub ports_kept : (name : List ℕ) (p : ℕ) → number_of table.ports name ≡ Some p
      → number_of u.ports name ≡ Some p
  pub rows_kept : (t kind : ℕ) → has_row table.births t kind ≡ true
      → has_row u.births t kind ≡ true

-- they do where they are the same
pub same_grown : (table u : Table)
    → table.interfaces ≡ u.interfaces
    → table.names ≡ u.names
    → table.ports ≡ u.ports
    → table.births ≡ u.births
    → IsGrown table u
same_grown table u faces names ports births = record {
  interfaces_same = faces;
  names_kept = λ name t e. subst (λ (ns : List (List ℕ)). number_of ns name ≡ Some t) names e;
  ports_kept = λ name p e. subst (λ (ns : List (List ℕ)). number_of ns name ≡ Some p) ports e;
  rows_kept = λ t kind has. subst (λ (rows : List BirthRow). has_row rows t kind ≡ true) births has;
}

said_kept : (table u : Table) (lines : List (Line WiringSays)) (line : Line WiringSays)
    (t kind : ℕ) (label : List LabelItem)
    → IsGrown table u
    → HasBirthsLine table lines t kind label
    → HasBirthsLine u (lines ++ line ∷ []) t kind label
said_kept table u lines line t kind label grown is = record {
  line = is.line;
  task = is.task;
  items = is.items;
  among = in_left is.line lines (line ∷ []) is.among;
  says = is.says;
  numbered = grown.names_kept is.task t is.numbered;
  means = subst (λ (faces : List Interface). label_said faces is.line.number is.items ≡ Ok label)
      grown.interfaces_same is.means;
}

-- ---- births

-- no line before says what the births of this task and kind accept
abbrev IsNew : List (Line WiringSays) → List ℕ → ℕ → Type 0
IsNew lines task kind =
    (line : Line WiringSays) (items : List Item)
    → IsIn line lines
    → line.says ≡ Births task kind items
    → ⊥

-- a row is that of a line, or of kind 0
abbrev pub IsRowOf : Table → List (Line WiringSays) → BirthRow → Type 0
IsRowOf table lines row =
    ((label : List LabelItem)
    × (row.accepts ≡ Some label)
    × HasBirthsLine table lines row.task row.kind label)
    ⊎ ((row.accepts ≡ None) × (row.kind ≡ 0))

-- the task and the label of a line, and its row
pub record HasLineRow (table : Table) (line : Line WiringSays) (task : List ℕ) (kind : ℕ)
    (items : List Item) : Type 0 where
  pub t : ℕ
  pub label : List LabelItem
  pub number : number_of table.names task ≡ Some t
  pub means : label_said table.interfaces line.number items ≡ Ok label
  pub row : IsIn (said_row t kind label) table.births

-- the rows and the lines that they are of
pub record AreRows (table : Table) (lines : List (Line WiringSays)) : Type 0 where
  pub row : (line : Line WiringSays) (task : List ℕ) (kind : ℕ) (items : List Item)
      → IsIn line lines
      → line.says ≡ Births task kind items
      → HasLineRow table line task kind items
  pub line : (row : BirthRow) → IsIn row table.births → IsRowOf table lines row
  pub once : (i j : ℕ) (one other : Line WiringSays) (task : List ℕ) (kind : ℕ)
      (items others : List Item)
      → slice_get lines i ≡ Some one
      → slice_get lines j ≡ Some other
      → one.says ≡ Births task kind items
      → other.says ≡ Births task kind others
      → i ≡ j

-- of one task and kind there is still one line
once_more : (table : Table) (lines : List (Line WiringSays)) (line : Line WiringSays)
    → AreRows table lines
    → ((task : List ℕ) (kind : ℕ) (items : List Item) → line.says ≡ Births task kind items
    → IsNew lines task kind)
    → (i j : ℕ) (one other : Line WiringSays) (task : List ℕ) (kind : ℕ)
    (items others : List Item)
    → slice_get (lines ++ line ∷ []) i ≡ Some one
    → slice_get (lines ++ line ∷ []) j ≡ Some other
    → one.says ≡ Births task kind items
    → other.says ≡ Births task kind others
    → i ≡ j
once_more table lines line are new i j one other task kind items others first second says also =
    elim (snoc_get lines line i one first) [
      | inl early ↦ elim (snoc_get lines line j other second) [
        | inl before ↦ are.once i j one other task kind items others early before says also
        | inr end ↦ absurd (new task kind others (ap (λ (l : Line WiringSays). l.says) end.1
            ∙ also) one items (in_get lines i one early) says)
      ]
      | inr last ↦ elim (snoc_get lines line j other second) [
        | inl before ↦ absurd (new task kind items (ap (λ (l : Line WiringSays). l.says) last.1
            ∙ says) other others (in_get lines j other before) also)
        | inr end ↦ last.0 ∙ sym end.0
      ]
    ]

row_kept : (table u : Table) (line : Line WiringSays) (task : List ℕ) (kind : ℕ)
    (items : List Item)
    → IsGrown table u
    → (is : HasLineRow table line task kind items)
    → IsIn (said_row is.t kind is.label) u.births
    → HasLineRow u line task kind items
row_kept table u line task kind items grown is at = record {
  t = is.t;
  label = is.label;
  number = grown.names_kept task is.t is.number;
  means = subst (λ (faces : List Interface). label_said faces line.number items ≡ Ok is.label)
      grown.interfaces_same is.means;
  row = at;
}

line_kept : (table u : Table) (lines : List (Line WiringSays)) (line : Line WiringSays)
    (row : BirthRow)
    → IsGrown table u
    → IsRowOf table lines row
    → IsRowOf u (lines ++ line ∷ []) row
line_kept table u lines line row grown (inl is) =
    inl (is.0, is.1, said_kept table u lines line row.task row.kind is.0 grown is.2)
line_kept table u lines line row grown (inr is) = inr is

-- a line of another verb says nothing of births
abbrev pub IsOther : WiringSays → Type 0
IsOther says = (task : List ℕ) (kind : ℕ) (items : List Item) → says ≡ Births task kind items → ⊥

pub rows_quiet : (table u : Table) (lines : List (Line WiringSays)) (line : Line WiringSays)
    → IsGrown table u
    → IsOther line.says
    → ((row : BirthRow) → IsIn row table.births → IsIn row u.births)
    → ((row : BirthRow) → IsIn row u.births
    → IsIn row table.births ⊎ ((row.accepts ≡ None) × (row.kind ≡ 0)))
    → AreRows table lines
    → AreRows u (lines ++ line ∷ [])
rows_quiet table u lines line grown other to from are = record {
  row = λ one task kind items among says. elim (in_append one lines (line ∷ []) among) [
    | inl early ↦
        let is = are.row one task kind items early says in
        row_kept table u one task kind items grown is (to (said_row is.t kind is.label) is.row)
    | inr last ↦ absurd (other task kind items (sym (ap (λ (l : Line WiringSays). l.says)
        (in_one one line last)) ∙ says))
  ];
  line = λ row at. elim (from row at) [
    | inl early ↦ line_kept table u lines line row grown (are.line row early)
    | inr zero ↦ inr zero
  ];
  once = once_more table lines line are (λ task kind items says.
      absurd (other task kind items says));
}

-- one more row of a line
pub births_grown : (table : Table) (t kind : ℕ) (label : List LabelItem)
    → IsGrown table (with_births table t kind label)
births_grown table t kind label = record {
  interfaces_same = refl;
  names_kept = λ name n e. e;
  ports_kept = λ name n e. e;
  rows_kept = λ u k has. has_put table.births t kind label u k has;
}

-- the row of a line that came before stays
early_row : (table : Table) (t kind : ℕ) (label : List LabelItem) (line : Line WiringSays)
    (task : List ℕ) (other : ℕ) (items : List Item)
    → has_said table.births t kind ≡ false
    → HasLineRow table line task other items
    → HasLineRow (with_births table t kind label) line task other items
early_row table t kind label line task other items none is =
    row_kept table (with_births table t kind label) line task other items
    (births_grown table t kind label) is
    (put_other table.births t kind label (said_row is.t other is.label) is.row
    (not_said table.births t kind (said_row is.t other is.label) is.label none is.row refl))

-- no line before is of the task and the kind of which no row says anything
new_births : (table : Table) (lines : List (Line WiringSays)) (task : List ℕ) (t kind : ℕ)
    → AreRows table lines
    → number_of table.names task ≡ Some t
    → has_said table.births t kind ≡ false
    → IsNew lines task kind
new_births table lines task t kind are number none line items among says =
    let is = are.row line task kind items among says in
    let same : is.t ≡ t = same_Some _ _ (sym is.number ∙ number) in
    let differs = not_said table.births t kind (said_row is.t kind is.label) is.label none is.row
    refl in
    false≢true (sym differs ∙ own is.t same)
  where
    own : (n : ℕ) → n ≡ t → is_row t kind (said_row n kind []) ≡ true
    own n same = row_is t kind (said_row n kind []) same refl

pub rows_said : (table : Table) (lines : List (Line WiringSays)) (line : Line WiringSays)
    (task : List ℕ) (kind : ℕ) (items : List Item) (t : ℕ) (label : List LabelItem)
    → line.says ≡ Births task kind items
    → number_of table.names task ≡ Some t
    → label_said table.interfaces line.number items ≡ Ok label
    → has_said table.births t kind ≡ false
    → AreRows table lines
    → AreRows (with_births table t kind label) (lines ++ line ∷ [])
rows_said table lines line task kind items t label says number means none are = record {
  row = λ one other k others among also. elim (in_append one lines (line ∷ []) among) [
    | inl early ↦ early_row table t kind label one other k others none
        (are.row one other k others early also)
    | inr last ↦ own_row one other k others (in_one one line last) also
  ];
  line = λ row at. elim (put_from table.births t kind label row at) [
    | inl put ↦ subst (IsRowOf u (lines ++ line ∷ [])) (sym put) (inl (label, refl, own))
    | inr early ↦ line_kept table u lines line row (births_grown table t kind label)
        (are.line row early)
  ];
  once = once_more table lines line are (λ other k others also.
      subst (λ (s : WiringSays). IsNew lines (task_of s) (kind_of s)) (sym says ∙ also)
      (new_births table lines task t kind are number none));
}
  where
    u : Table
    u = with_births table t kind label

    own : HasBirthsLine u (lines ++ line ∷ []) t kind label
    own = record {
      line = line;
      task = task;
      items = items;
      among = in_right line lines (line ∷ []) here;
      says = says;
      numbered = number;
      means = means;
    }

    task_of : WiringSays → List ℕ
    task_of (Births one k others) = one
    task_of other = []

    kind_of : WiringSays → ℕ
    kind_of (Births one k others) = k
    kind_of other = 0

    items_of : WiringSays → List Item
    items_of (Births one k others) = others
    items_of other = []

    own_row : (one : Line WiringSays) (other : List ℕ) (k : ℕ) (others : List Item)
        → one ≡ line
        → one.says ≡ Births other k others
        → HasLineRow u one other k others
    own_row one other k others same also =
        subst (λ (l : Line WiringSays). HasLineRow u l other k others) (sym same)
        (subst (λ (s : WiringSays). HasLineRow u line (task_of s) (kind_of s) (items_of s))
        (sym says ∙ sym (ap (λ (l : Line WiringSays). l.says) same) ∙ also) record {
          t = t;
          label = label;
          number = number;
          means = means;
          row = put_own table.births t kind label;
        })

-- ---- admit lines

pub class_said_kept : (table u : Table) (name : ClassName) (class : NumberedClass)
    → IsGrown table u
    → class_said table.names table.ports table.births name ≡ Some class
    → class_said u.names u.ports u.births name ≡ Some class
class_said_kept table u (said.Port name) class grown e =
    let is = map_is (numbered kinds.Port) (number_of table.ports name) class e in
    ap (option_map (numbered kinds.Port)) (grown.ports_kept name is.0 is.1)
    ∙ ap (λ (c : NumberedClass). Some c) is.2
class_said_kept table u (said.Task name) class grown e =
    let is = map_is (numbered kinds.Task) (number_of table.names name) class e in
    ap (option_map (numbered kinds.Task)) (grown.names_kept name is.0 is.1)
    ∙ ap (λ (c : NumberedClass). Some c) is.2
class_said_kept table u (said.Births name kind) class grown e =
    let is = then_is (births_said table.births kind) (number_of table.names name) class e in
    let there = cond_some (has_row table.births is.0 kind) (numbered (kinds.Births kind) is.0) class
    is.2 in
    ap (option_and_then (births_said u.births kind)) (grown.names_kept name is.0 is.1)
    ∙ ap (λ b. cond b (Some (numbered (kinds.Births kind) is.0)) None)
    (grown.rows_kept is.0 kind there.0)
    ∙ ap (λ (c : NumberedClass). Some c) there.1

class_kept : (table u : Table) (said : Option ClassName) (class : Option NumberedClass)
    → IsGrown table u
    → IsClassOf table said class
    → IsClassOf u said class
class_kept table u None class grown is = is
class_kept table u (Some name) class grown is =
    (is.0, is.1, class_said_kept table u name is.0 grown is.2)

admit_kept : (table u : Table) (line : Line WiringSays) (admit : AdmitLine)
    → IsGrown table u
    → IsAdmitOf table line admit
    → IsAdmitOf u line admit
admit_kept table u line admit grown is = record {
  subsystem = is.subsystem;
  type_name = is.type_name;
  class = is.class;
  interface = is.interface;
  says = is.says;
  interface_is = subst (λ (faces : List Interface). interface_number faces is.subsystem
      ≡ Some is.interface) grown.interfaces_same is.interface_is;
  sort_is = subst (λ (faces : List Interface). position (is_sort is.interface is.type_name)
      (sorts_of faces) ≡ Some admit.sort) grown.interfaces_same is.sort_is;
  class_is = class_kept table u is.class admit.class grown is.class_is;
}

pub admits_quiet : (table u : Table) (lines : List (Line WiringSays)) (line : Line WiringSays)
    → IsGrown table u
    → is_admit line.says ≡ false
    → table.admits ≡ u.admits
    → AreAdmitsOf table lines
    → AreAdmitsOf u (lines ++ line ∷ [])
admits_quiet table u lines line grown quiet same are =
    let no_more : admit_lines (lines ++ line ∷ []) ≡ admit_lines lines =
    filter_skip (λ (l : Line WiringSays). is_admit l.says) lines line quiet in
    record {
      many = ap (λ (xs : List AdmitLine). length xs) (sym same) ∙ are.many
          ∙ ap (λ (xs : List (Line WiringSays)). length xs) (sym no_more);
      each = λ i one admit first second. admit_kept table u one admit grown
          (are.each i one admit
          (ap (λ (xs : List (Line WiringSays)). slice_get xs i) (sym no_more) ∙ first)
          (ap (λ (xs : List AdmitLine). slice_get xs i) same ∙ second));
    }

pub admits_more : (table : Table) (lines : List (Line WiringSays)) (line : Line WiringSays)
    (admit : AdmitLine)
    → is_admit line.says ≡ true
    → IsAdmitOf table line admit
    → AreAdmitsOf table lines
    → AreAdmitsOf (with_admit table admit) (lines ++ line ∷ [])
admits_more table lines line admit verb is are =
    let more : admit_lines (lines ++ line ∷ []) ≡ admit_lines lines ++ line ∷ [] =
    filter_push (λ (l : Line WiringSays). is_admit l.says) lines line verb in
    let one_line = length-append (admit_lines lines) (line ∷ []) in
    let one_admit = length-append table.admits (admit ∷ []) in
    let before = are.many in
    let long = ap (λ (xs : List (Line WiringSays)). length xs) more in
    record {
      many = omega (arith, one_line, one_admit, before, long);
      each = λ i one new first second. each_more i one new
          (ap (λ (xs : List (Line WiringSays)). slice_get xs i) (sym more) ∙ first) second;
    }
  where
    u : Table
    u = with_admit table admit

    grown : IsGrown table u
    grown = same_grown table u refl refl refl refl

    each_more : (i : ℕ) (one : Line WiringSays) (new : AdmitLine)
        → slice_get (admit_lines lines ++ line ∷ []) i ≡ Some one
        → slice_get (table.admits ++ admit ∷ []) i ≡ Some new
        → IsAdmitOf u one new
    each_more i one new first second =
        elim (snoc_get (admit_lines lines) line i one first) [
          | inl early ↦ elim (snoc_get table.admits admit i new second) [
            | inl before ↦ admit_kept table u one new grown (are.each i one new early before)
            | inr end ↦
                let low = slice_get_within (admit_lines lines) i one early in
                let at = end.0 in
                absurd (omega (arith, are.many))
          ]
          | inr last ↦ elim (snoc_get table.admits admit i new second) [
            | inl before ↦
                let low = slice_get_within table.admits i new before in
                let at = last.0 in
                absurd (omega (arith, are.many))
            | inr end ↦ subst (λ (l : Line WiringSays). IsAdmitOf u l new) last.1
                (subst (λ (a : AdmitLine). IsAdmitOf u line a) end.1
                (admit_kept table u line admit grown is))
          ]
        ]
