-- Two tables that are of the same lines have the same births and the same admit lines.
use Rattle.std.proofs.Common.{◌≡◌, ◌⊎◌, inl, inr, ℕ, suc, ◌<◌, List, [], ◌∷◌, length}
use Rattle.std.proofs.Common.{Option, Some, None, Ok, refl, ap, sym, subst, ◌∙◌, arith}
use Rattle.std.specs.Prelude.{position, slice_get}
use Rattle.std.proofs.lemmas.Option.{same_Some, slice_get_within}
use Rattle.mrc_base.proofs.Lists.{element_there}
use Rattle.mrc_model.specs.IsIn.{IsIn, here, later}
use Rattle.mrc_model.specs.declared.LabelItem.{LabelItem}
use Rattle.mrc_model.proofs.FirstHeld.{in_cons}
use Rattle.mrc_forms.specs.Tables.{Table as Interface}
use Rattle.mrc_wiring_text.specs.declared.reading.Line.{Line}
use Rattle.mrc_wiring_text.specs.declared.policy.ClassName.{ClassName}
use Rattle.mrc_wiring_text.specs.declared.wiring.WiringSays.{WiringSays}
use Rattle.mrc_wiring_text.specs.declared.wiring.WiringSays.TheVariants.{Admit}
use Rattle.mrc_wiring.specs.declared.names.NumberedClass.{NumberedClass}
use Rattle.mrc_wiring.specs.declared.table.AdmitLine.{AdmitLine}
use Rattle.mrc_wiring.specs.declared.births.BirthRow.{BirthRow}
use Rattle.mrc_wiring.specs.Births.{AreAscending}
use Rattle.mrc_wiring.specs.Sorts.{is_sort, sorts_of}
use Rattle.mrc_wiring.specs.Table.{Table}
use Rattle.mrc_wiring.specs.Names.{number_of, class_said}
use Rattle.mrc_wiring.specs.Labels.{interface_number, label_said}
use Rattle.mrc_wiring_laws.specs.GivenLines.{admit_lines, HasRow, HasBirthsLine, AreBirthsOf}
use Rattle.mrc_wiring_laws.specs.GivenLines.{IsClassOf, IsAdmitOf, TablesOfLinesAreOne}
use Rattle.mrc_wiring.proofs.BirthLaws.{IsBefore, before_is, before_then}
use Rattle.mrc_wiring_laws.proofs.GivenRows.{each_in}

-- ---- lists

-- lists of one length with the same elements at their places are one
pub same_by_places : {X : Type 0} (xs ys : List X)
    → length xs ≡ length ys
    → ((i : ℕ) (x y : X) → slice_get xs i ≡ Some x → slice_get ys i ≡ Some y → x ≡ y)
    → xs ≡ ys
same_by_places [] [] long same = refl
same_by_places [] (y ∷ ys) long same = absurd (omega arith)
same_by_places (x ∷ xs) [] long same = absurd (omega arith)
same_by_places {X = X} (x ∷ xs) (y ∷ ys) long same =
    ap (λ (z : X). z ∷ xs) (same 0 x y refl refl)
    ∙ ap (λ (zs : List X). y ∷ zs) (same_by_places xs ys (omega arith)
    (λ i one other first second. same (suc i) one other first second))

-- ---- rows

not_itself : (row : BirthRow) → IsBefore row row → ⊥
not_itself row before =
    elim (before_is row row before) [
      | inl less ↦ omega arith
      | inr both ↦ let low = both.1 in omega arith
    ]

-- rows that ascend are the same if they have the same members
abbrev AreWithin : List BirthRow → List BirthRow → Type 0
AreWithin xs ys = (row : BirthRow) → IsIn row xs → IsIn row ys

first_same : (x y : BirthRow) (xs ys : List BirthRow)
    → AreAscending (x ∷ xs)
    → AreAscending (y ∷ ys)
    → AreWithin (x ∷ xs) (y ∷ ys)
    → AreWithin (y ∷ ys) (x ∷ xs)
    → x ≡ y
first_same x y xs ys up also there back =
    elim (in_cons x y ys (there x here)) [
      | inl same ↦ same
      | inr behind ↦ elim (in_cons y x xs (back y here)) [
        | inl same ↦ sym same
        | inr later_one ↦
            let before : IsBefore y x = each_in (IsBefore y) x ys also.0 behind in
            let after : IsBefore x y = each_in (IsBefore x) y xs up.0 later_one in
            absurd (not_itself x (before_then x y x after before))
      ]
    ]

rest_within : (x y : BirthRow) (xs ys : List BirthRow)
    → AreAscending (x ∷ xs)
    → x ≡ y
    → AreWithin (x ∷ xs) (y ∷ ys)
    → AreWithin xs ys
rest_within x y xs ys up same there row at =
    elim (in_cons row y ys (there row (later at))) [
      | inr behind ↦ behind
      | inl first ↦
          let before : IsBefore x row = each_in (IsBefore x) row xs up.0 at in
          absurd (not_itself x (subst (λ (r : BirthRow). IsBefore x r) (first ∙ sym same) before))
    ]

rows_same : (xs ys : List BirthRow)
    → AreAscending xs
    → AreAscending ys
    → AreWithin xs ys
    → AreWithin ys xs
    → xs ≡ ys
rows_same [] [] up also there back = refl
rows_same [] (y ∷ ys) up also there back = elim (back y here) [ ]
rows_same (x ∷ xs) [] up also there back = elim (there x here) [ ]
rows_same (x ∷ xs) (y ∷ ys) up also there back =
    let same = first_same x y xs ys up also there back in
    ap (λ (r : BirthRow). r ∷ xs) same
    ∙ ap (λ (rs : List BirthRow). y ∷ rs) (rows_same xs ys up.1 also.1
    (rest_within x y xs ys up same there) (rest_within y x ys xs also (sym same) back))

line_also : (lines : List (Line WiringSays)) (one other : Table) (t kind : ℕ)
    (label : List LabelItem)
    → one.interfaces ≡ other.interfaces
    → one.names ≡ other.names
    → HasBirthsLine one lines t kind label
    → HasBirthsLine other lines t kind label
line_also lines one other t kind label faces names is = record {
  line = is.line;
  task = is.task;
  items = is.items;
  among = is.among;
  says = is.says;
  numbered = subst (λ (ns : List (List ℕ)). number_of ns is.task ≡ Some t) names is.numbered;
  means = subst (λ (fs : List Interface). label_said fs is.line.number is.items ≡ Ok label) faces
      is.means;
}

there_also : (lines : List (Line WiringSays)) (one other : Table) (t kind : ℕ)
    → one.interfaces ≡ other.interfaces
    → one.names ≡ other.names
    → ((t < length one.names) × (kind ≡ 0))
    ⊎ ((label : List LabelItem) × HasBirthsLine one lines t kind label)
    → ((t < length other.names) × (kind ≡ 0))
    ⊎ ((label : List LabelItem) × HasBirthsLine other lines t kind label)
there_also lines one other t kind faces names (inl zeroth) =
    inl (subst (λ (ns : List (List ℕ)). t < length ns) names zeroth.0, zeroth.1)
there_also lines one other t kind faces names (inr line) =
    inr (line.0, line_also lines one other t kind line.0 faces names line.1)

-- values that are the same whenever there is one
options_same : {X : Type 0} (o p : Option X)
    → ((x : X) → o ≡ Some x → p ≡ Some x)
    → ((x : X) → p ≡ Some x → o ≡ Some x)
    → o ≡ p
options_same None None there back = refl
options_same None (Some x) there back = back x refl
options_same (Some x) p there back = sym (there x refl)

abbrev row_with : ℕ → ℕ → Option (List LabelItem) → BirthRow
row_with t kind accepts = record { task = t; kind = kind; accepts = accepts }

row_also : (lines : List (Line WiringSays)) (one other : Table) (row : BirthRow)
    → one.interfaces ≡ other.interfaces
    → one.names ≡ other.names
    → AreBirthsOf one lines
    → AreBirthsOf other lines
    → IsIn row one.births
    → IsIn row other.births
row_also lines one other row faces names is also at =
    let there : HasRow other.births row.task row.kind = (also.there row.task row.kind).1
    (there_also lines one other row.task row.kind faces names
    ((is.there row.task row.kind).0 (row, at, refl, refl))) in
    let twin = there.0 in
    let of_twin = also.accepts twin in
    let forth : (label : List LabelItem) → row.accepts ≡ Some label → twin.accepts ≡ Some label =
    λ label e. (of_twin label there.1).1 (moved twin there.2 there.3 label
    (line_also lines one other row.task row.kind label faces names ((is.accepts row label at).0 e)))
    in
    let back : (label : List LabelItem) → twin.accepts ≡ Some label → row.accepts ≡ Some label =
    λ label e. (is.accepts row label at).1 (line_also lines other one row.task row.kind label
    (sym faces) (sym names) (moved_back twin there.2 there.3 label ((of_twin label there.1).0 e)))
    in
    let accepts : row.accepts ≡ twin.accepts = options_same row.accepts twin.accepts forth back in
    let same : twin ≡ row = ap (λ (t : ℕ). row_with t twin.kind twin.accepts) there.2
    ∙ ap (λ (k : ℕ). row_with row.task k twin.accepts) there.3
    ∙ ap (row_with row.task row.kind) (sym accepts) in
    subst (λ (r : BirthRow). IsIn r other.births) same there.1
  where
    moved : (twin : BirthRow)
        → twin.task ≡ row.task
        → twin.kind ≡ row.kind
        → (label : List LabelItem)
        → HasBirthsLine other lines row.task row.kind label
        → HasBirthsLine other lines twin.task twin.kind label
    moved twin task kind_is label line =
        subst (λ (t : ℕ). HasBirthsLine other lines t twin.kind label) (sym task)
        (subst (λ (k : ℕ). HasBirthsLine other lines row.task k label) (sym kind_is) line)

    moved_back : (twin : BirthRow)
        → twin.task ≡ row.task
        → twin.kind ≡ row.kind
        → (label : List LabelItem)
        → HasBirthsLine other lines twin.task twin.kind label
        → HasBirthsLine other lines row.task row.kind label
    moved_back twin task kind_is label line =
        subst (λ (t : ℕ). HasBirthsLine other lines t row.kind label) task
        (subst (λ (k : ℕ). HasBirthsLine other lines twin.task k label) kind_is line)

births_same : (lines : List (Line WiringSays)) (one other : Table)
    → one.interfaces ≡ other.interfaces
    → one.names ≡ other.names
    → AreBirthsOf one lines
    → AreBirthsOf other lines
    → one.births ≡ other.births
births_same lines one other faces names is also =
    rows_same one.births other.births is.ascending also.ascending
    (λ row at. row_also lines one other row faces names is also at)
    (λ row at. row_also lines other one row (sym faces) (sym names) also is at)

-- ---- admit lines

class_same : (one other : Table) (said : Option ClassName) (class twin : Option NumberedClass)
    → one.names ≡ other.names
    → one.ports ≡ other.ports
    → one.births ≡ other.births
    → IsClassOf one said class
    → IsClassOf other said twin
    → class ≡ twin
class_same one other None class twin names ports births is also = is ∙ sym also
class_same one other (Some name) class twin names ports births is also =
    is.1
    ∙ sym is.2
    ∙ ap (λ (ns : List (List ℕ)). class_said ns one.ports one.births name) names
    ∙ ap (λ (ps : List (List ℕ)). class_said other.names ps one.births name) ports
    ∙ ap (λ (rows : List BirthRow). class_said other.names other.ports rows name) births
    ∙ also.2
    ∙ sym also.1

abbrev admit_with : ℕ → Option NumberedClass → AdmitLine
admit_with sort class = record { sort = sort; class = class }

abbrev subsystem_of : WiringSays → List ℕ
subsystem_of (Admit subsystem type_name class) = subsystem
subsystem_of other = []

abbrev type_of : WiringSays → List ℕ
type_of (Admit subsystem type_name class) = type_name
type_of other = []

abbrev class_of : WiringSays → Option ClassName
class_of (Admit subsystem type_name class) = class
class_of other = None

admit_same : (one other : Table) (line : Line WiringSays) (admit twin : AdmitLine)
    → one.interfaces ≡ other.interfaces
    → one.names ≡ other.names
    → one.ports ≡ other.ports
    → one.births ≡ other.births
    → IsAdmitOf one line admit
    → IsAdmitOf other line twin
    → admit ≡ twin
admit_same one other line admit twin faces names ports births is also =
    let says = sym is.says ∙ also.says in
    let system : is.subsystem ≡ also.subsystem = ap subsystem_of says in
    let type : is.type_name ≡ also.type_name = ap type_of says in
    let class : is.class ≡ also.class = ap class_of says in
    let face : is.interface ≡ also.interface = same_Some _ _ (sym is.interface_is
    ∙ ap (λ (s : List ℕ). interface_number one.interfaces s) system
    ∙ ap (λ (fs : List Interface). interface_number fs also.subsystem) faces
    ∙ also.interface_is) in
    let sort : admit.sort ≡ twin.sort = same_Some _ _ (sym is.sort_is
    ∙ ap (λ (s : ℕ). position (is_sort s is.type_name) (sorts_of one.interfaces)) face
    ∙ ap (λ (t : List ℕ). position (is_sort also.interface t) (sorts_of one.interfaces)) type
    ∙ ap (λ (fs : List Interface). position (is_sort also.interface also.type_name)
    (sorts_of fs)) faces
    ∙ also.sort_is) in
    let named = class_same one other also.class admit.class twin.class names ports births
    (subst (λ (c : Option ClassName). IsClassOf one c admit.class) class is.class_is)
    also.class_is in
    ap (λ (n : ℕ). admit_with n admit.class) sort ∙ ap (admit_with twin.sort) named

pub tables_one : TablesOfLinesAreOne
tables_one interfaces lines one other is also =
    let faces = is.interfaces_are ∙ sym also.interfaces_are in
    let names = is.tasks ∙ sym also.tasks in
    let ports = is.ports ∙ sym also.ports in
    let births = births_same lines one other faces names is.births also.births in
    let many = is.admits.many in (
      births,
      same_by_places one.admits other.admits (many ∙ sym also.admits.many)
          (λ i admit twin first second.
          let line = element_there (admit_lines lines) i
          (subst (λ (n : ℕ). i < n) many (slice_get_within one.admits i admit first)) in
          admit_same one other line.0 admit twin faces names ports births
          (is.admits.each i line.0 admit line.1 first)
          (also.admits.each i line.0 twin line.1 second)),
    )
