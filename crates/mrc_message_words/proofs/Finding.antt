-- Forms that are found by names, and by ids.
use Rattle.std.proofs.Common.{◌≡◌, ℕ, zero, suc, ◌+◌, ◌-◌, ◌<◌, ◌≤◌, Bool, true, false, cond, List, []}
use Rattle.std.proofs.Common.{◌∷◌, length, refl, sym, ap, ◌∙◌, arith, subst, leb, inl, inr, Option, Some, None}
use Rattle.std.proofs.Common.{Result, Ok, Err, IfOk, get_or}
use Rattle.std.specs.List.{slice_get, find, filter_map, cons_option}
use Rattle.std.specs.Option.{option_and_then, MatchOption}
use Rattle.std.specs.Str.{bytes_eq}
use Rattle.std.proofs.lemmas.Bool.{le-leb, cases_lt}
use Rattle.std.proofs.lemmas.Option.{slice_get-get_or}
use Rattle.std.proofs.lemmas.Slice.Eq.{bytes_eq-Decides}
use Rattle.mrc_model.specs.Message.{Message}
use Rattle.mrc_forms.specs.declared.form.MessageKind.{MessageKind}
use Rattle.mrc_forms.specs.Forms.{Form}
use Rattle.mrc_forms.specs.Tables.{Table, AreForms, form_in, form_at, form_of, form_named}
use Rattle.mrc_forms.specs.Tables.{forms_by, first_id}
use Rattle.mrc_message_words.specs.Spoken.{NoneBefore, IsFirstSpoken}
use Rattle.mrc_message_words.specs.Spoken.{Said, IsSaidOver, IsSpoken, form_by, table_named}
use Rattle.mrc_message_words.specs.Fitting.{IsHeard}

-- what is found passes the test, and has a place
found_by : {X : Type 0} (test : X → Bool) (xs : List X) (x : X) → find test xs ≡ Some x
    → (test x ≡ true) × ((place : ℕ) × (slice_get xs place ≡ Some x))
found_by test [] x e = let no : ⊥ = cc in absurd no
found_by {X = X} test (y ∷ ys) x e = by (test y) refl (found_by test ys x) e
  where
    by : (b : Bool) → test y ≡ b
        → (find test ys ≡ Some x
        → (test x ≡ true) × ((place : ℕ) × (slice_get ys place ≡ Some x)))
        → cond b (Some y) (find test ys) ≡ Some x
        → (test x ≡ true) × ((place : ℕ) × (slice_get (y ∷ ys) place ≡ Some x))
    by true is rest e = let p : y ≡ x = cc in (ap test (sym p) ∙ is, (0, e))
    by false is rest e = let h = rest e in (h.0, (suc h.1.0, h.1.1))

-- what a map leaves is of a place
mapped_from : {X Y : Type 0} (h : X → Option Y) (xs : List X) (place : ℕ) (y : Y)
    → slice_get (filter_map h xs) place ≡ Some y
    → (at : ℕ) × (option_and_then h (slice_get xs at) ≡ Some y)
mapped_from h [] place y e = let no : ⊥ = cc in absurd no
mapped_from {X = X} {Y = Y} h (x ∷ xs) place y e =
    by (h x) refl (λ n. mapped_from h xs n y) place e
  where
    by : (o : Option Y) → h x ≡ o
        → ((n : ℕ) → slice_get (filter_map h xs) n ≡ Some y
        → (at : ℕ) × (option_and_then h (slice_get xs at) ≡ Some y))
        → (place : ℕ)
        → slice_get (cons_option o (filter_map h xs)) place ≡ Some y
        → (at : ℕ) × (option_and_then h (slice_get (x ∷ xs) at) ≡ Some y)
    by None is rest place e = let m = rest place e in (suc m.0, m.1)
    by (Some z) is rest zero e = (0, is ∙ e)
    by (Some z) is rest (suc place) e = let m = rest place e in (suc m.0, m.1)

-- the form at a place has its id
form_of_place : (kind : MessageKind) (table : Table) (place : ℕ) (form : Form) (id : ℕ)
    → id ≡ first_id kind table + place → form_at kind table place ≡ Some form
    → form_of kind table id ≡ Some form
form_of_place kind table place form id is e =
    let low : leb (first_id kind table) id ≡ true = le-leb _ _ (omega arith) in
    let at : id - first_id kind table ≡ place = omega arith in
    ap (λ (b : Bool). option_and_then (form_at kind table)
    (cond b (Some (id - first_id kind table)) None)) low
    ∙ ap (form_at kind table) at ∙ e

-- a form that is found by its name is found by its id, and by its own name
pub record IsFound (tables : List Table) (kind : MessageKind) (table : Table) (id : ℕ)
    (form : Form) : Type 0 where
  pub of_id : form_of kind table id ≡ Some form
  pub by_name : form_by tables kind table.name form.name ≡ Some form

pub named_is_found : (tables : List Table) (said : Said) (table : Table) (m : Message)
    → table_named tables said.interface ≡ Some table
    → AreForms table
    → (h : IsSpoken tables said m)
    → IsFound tables said.kind table m.id h.form
named_is_found tables said table m first formed h =
    let named : form_named said.kind table said.routine ≡ Some h.form =
    ap (λ (t : Option Table).
    option_and_then (λ (x : Table). form_named said.kind x said.routine) t) (sym first) ∙ h.named in
    let f = found_by (λ (form : Form). bytes_eq said.routine form.name) (forms_by said.kind table)
    h.form named in
    let t = found_by (λ (x : Table). bytes_eq said.interface x.name) tables table first in
    let routine : said.routine ≡ h.form.name =
    (bytes_eq-Decides said.routine h.form.name).0 f.0 in
    let interface : said.interface ≡ table.name =
    (bytes_eq-Decides said.interface table.name).0 t.0 in
    let p = mapped_from (form_in said.kind) table.rows f.1.0 h.form f.1.1 in
    let id = (formed said.kind p.0 h.form p.1).1 in
    record {
      of_id = form_of_place said.kind table p.0 h.form m.id (h.over.id ∙ id) p.1;
      by_name =
          ap (λ (x : List ℕ). form_by tables said.kind x h.form.name) (sym interface)
          ∙ ap (λ (x : List ℕ). form_by tables said.kind said.interface x) (sym routine) ∙ h.named;
    }

-- no form of the interface has the id
pub none_of_id : (tables : List Table) (kind : MessageKind) (table : Table) (m : Message) (id : ℕ)
    → AreForms table → id ≡ m.id → form_of kind table id ≡ None
    → (said : Said) → said.kind ≡ kind → table_named tables said.interface ≡ Some table
    → ¬ IsSpoken tables said m
none_of_id tables kind table m id formed same none said k first h =
    let f = named_is_found tables said table m first formed h in
    let e : form_of kind table id ≡ form_of said.kind table m.id =
    ap (λ (x : MessageKind). form_of x table id) (sym k)
    ∙ ap (λ (n : ℕ). form_of said.kind table n) same in
    let g = f.of_id in
    let no : ⊥ = cc (e, none, g) in no

-- the one that has it is the one that is spoken of
pub same_form : (tables : List Table) (kind : MessageKind) (table : Table) (m : Message) (id : ℕ)
    (form : Form)
    → AreForms table → id ≡ m.id → form_of kind table id ≡ Some form
    → (said : Said) → said.kind ≡ kind → table_named tables said.interface ≡ Some table
    → (h : IsSpoken tables said m)
    → (h.form ≡ form) × (form_by tables kind table.name form.name ≡ Some form)
same_form tables kind table m id form formed same is said k first h =
    let f = named_is_found tables said table m first formed h in
    let e : form_of kind table id ≡ form_of said.kind table m.id =
    ap (λ (x : MessageKind). form_of x table id) (sym k)
    ∙ ap (λ (n : ℕ). form_of said.kind table n) same in
    let g = f.of_id in
    let p : h.form ≡ form = cc (e, is, g) in (
      p,
      subst (λ (x : Form). form_by tables kind table.name x.name ≡ Some x) p
          (subst (λ (x : MessageKind). form_by tables x table.name h.form.name ≡ Some h.form) k f.by_name),
    )

-- the names find no form
pub none_by_name : (tables : List Table) (kind : MessageKind) (table : Table) (m : Message) (id : ℕ)
    (form : Form)
    → AreForms table → id ≡ m.id → form_of kind table id ≡ Some form
    → form_by tables kind table.name form.name ≡ None
    → (said : Said) → said.kind ≡ kind → table_named tables said.interface ≡ Some table
    → ¬ IsSpoken tables said m
none_by_name tables kind table m id form formed same is none said k first h =
    let s = same_form tables kind table m id form formed same is said k first h in
    let e = s.1 in
    let no : ⊥ = cc (e, none) in no

-- they find one of another id
pub other_id : (tables : List Table) (kind : MessageKind) (table : Table) (m : Message) (id : ℕ)
    (form named : Form)
    → AreForms table → id ≡ m.id → form_of kind table id ≡ Some form
    → form_by tables kind table.name form.name ≡ Some named
    → (named.id ≡ id → ⊥)
    → (said : Said) → said.kind ≡ kind → table_named tables said.interface ≡ Some table
    → ¬ IsSpoken tables said m
other_id tables kind table m id form named formed same is by other said k first h =
    let s = same_form tables kind table m id form formed same is said k first h in
    let e = s.1 in
    let p : named ≡ form = cc (e, by) in
    other (ap (λ (x : Form). x.id) (p ∙ sym s.0) ∙ sym h.over.id ∙ sym same)

-- what is said over the form that they find
pub heard_by : (tables : List Table) (kind : MessageKind) (table : Table) (m : Message) (id : ℕ)
    (form named : Form) (answer : Option Said)
    → AreForms table → id ≡ m.id → form_of kind table id ≡ Some form
    → form_by tables kind table.name form.name ≡ Some named
    → MatchOption answer ((said : Said) → said.kind ≡ kind → ¬ IsSaidOver named said m)
    (λ said. IsHeard kind table.name form.name said × IsSaidOver named said m)
    → MatchOption answer
    ((said : Said) → said.kind ≡ kind → table_named tables said.interface ≡ Some table
    → ¬ IsSpoken tables said m)
    (λ said. (said.interface ≡ table.name) × IsSpoken tables said m)
heard_by tables kind table m id form named None formed same is by none =
    λ said k first h.
    let s = same_form tables kind table m id form formed same is said k first h in
    let e = s.1 in
    let p : named ≡ form = cc (e, by) in
    none said k (subst (λ (x : Form). IsSaidOver x said m) (s.0 ∙ sym p) h.over)
heard_by tables kind table m id form named (Some said) formed same is by heard =
    let h = heard.0 in (
      h.same_interface,
      record {
        form = named;
        named =
            ap (λ (x : MessageKind). form_by tables x said.interface said.routine) h.same_kind
            ∙ ap (λ (x : List ℕ). form_by tables kind x said.routine) h.same_interface
            ∙ ap (λ (x : List ℕ). form_by tables kind table.name x) h.same_routine ∙ by;
        over = heard.1;
      },
    )

pub heard_ok : {E : Type 0} (tables : List Table) (kind : MessageKind) (table : Table) (m : Message)
    (id : ℕ) (form named : Form) (answer : Result (Option Said) E)
    → AreForms table → id ≡ m.id → form_of kind table id ≡ Some form
    → form_by tables kind table.name form.name ≡ Some named
    → IfOk answer (λ (o : Option Said).
    MatchOption o ((said : Said) → said.kind ≡ kind → ¬ IsSaidOver named said m)
    (λ said. IsHeard kind table.name form.name said × IsSaidOver named said m))
    → IfOk answer (λ (o : Option Said).
    MatchOption o
    ((said : Said) → said.kind ≡ kind → table_named tables said.interface ≡ Some table
    → ¬ IsSpoken tables said m)
    (λ said. (said.interface ≡ table.name) × IsSpoken tables said m))
heard_ok tables kind table m id form named (Ok o) formed same is by h =
    heard_by tables kind table m id form named o formed same is by h
heard_ok tables kind table m id form named (Err e) formed same is by h = tt

-- no interface has words
pub none_at_all : (tables : List Table) (m : Message) (i : ℕ) → length tables ≤ i
    → NoneBefore tables m i → (said : Said) → ¬ IsSpoken tables said m
unfolding NoneBefore
none_at_all tables m i all none said h = by (table_named tables said.interface) refl h.named
  where
    short : (tables : List Table) (place : ℕ) (table : Table) → slice_get tables place ≡ Some table
        → place < length tables
    short [] place table e = let no : ⊥ = cc in absurd no
    short (t ∷ tables) zero table e = omega arith
    short (t ∷ tables) (suc place) table e = let s = short tables place table e in omega arith

    by : (o : Option Table) → table_named tables said.interface ≡ o
        → option_and_then (λ (x : Table). form_named said.kind x said.routine) o ≡ Some h.form → ⊥
    by None is e = let no : ⊥ = cc in no
    by (Some table) is e =
        let t = found_by (λ (x : Table). bytes_eq said.interface x.name) tables table is in
        let s = short tables t.1.0 table t.1.1 in
        none t.1.0 (omega arith) table t.1.1 said is h

pub none_first : (tables : List Table) (m : Message) → NoneBefore tables m 0
unfolding NoneBefore
none_first tables m place below table e said first h = omega arith

pub none_next : (tables : List Table) (m : Message) (i : ℕ) (table : Table)
    → i < length tables → table ≡ get_or tables i table
    → NoneBefore tables m i
    → ((said : Said) → table_named tables said.interface ≡ Some table → ¬ IsSpoken tables said m)
    → NoneBefore tables m (i + 1)
unfolding NoneBefore
none_next tables m i table l e before here place below t at =
    elim (cases_lt place i) [
      | inl lt ↦ before place lt t at
      | inr ge ↦
          let same : place ≡ i = omega arith in
          let p : Some t ≡ Some table =
          sym at ∙ ap (λ (n : ℕ). slice_get tables n) same
          ∙ slice_get-get_or tables i table l ∙ ap (λ (x : Table). Some x) (sym e) in
          let q : table ≡ t = cc (p) in
          subst (λ (x : Table).
          (said : Said) → table_named tables said.interface ≡ Some x → ¬ IsSpoken tables said m) q here
    ]

-- what is found does not stand behind another that passes
find_place : {X : Type 0} (test : X → Bool) (xs : List X) (x : X) → find test xs ≡ Some x
    → (i : ℕ) (y : X) → slice_get xs i ≡ Some y → test y ≡ true
    → (place : ℕ) × ((slice_get xs place ≡ Some x) × (place ≤ i))
find_place test [] x e i y at passes = let no : ⊥ = cc in absurd no
find_place {X = X} test (z ∷ zs) x e i y at passes =
    by (test z) refl (find_place test zs x) e i at
  where
    by : (b : Bool) → test z ≡ b
        → (find test zs ≡ Some x → (i : ℕ) (y : X) → slice_get zs i ≡ Some y → test y ≡ true
        → (place : ℕ) × ((slice_get zs place ≡ Some x) × (place ≤ i)))
        → cond b (Some z) (find test zs) ≡ Some x
        → (i : ℕ) → slice_get (z ∷ zs) i ≡ Some y
        → (place : ℕ) × ((slice_get (z ∷ zs) place ≡ Some x) × (place ≤ i))
    by true is rest e i at = (0, (e, omega arith))
    by false is rest e zero at =
        let p : z ≡ y = cc in
        let q : test z ≡ true = ap test p ∙ passes in
        let no : ⊥ = cc in absurd no
    by false is rest e (suc i) at =
        let f = rest e i y at passes in
        let low = f.1.1 in
        (suc f.0, (f.1.0, omega arith))

pub first_spoken : (tables : List Table) (said : Said) (m : Message) (i : ℕ) (table : Table)
    → i < length tables → table ≡ get_or tables i table
    → said.interface ≡ table.name
    → IsSpoken tables said m → NoneBefore tables m i → IsFirstSpoken tables said m
unfolding NoneBefore
first_spoken tables said m i table l e name h none =
    by (table_named tables said.interface) refl h.named
  where
    by : (o : Option Table) → table_named tables said.interface ≡ o
        → option_and_then (λ (x : Table). form_named said.kind x said.routine) o ≡ Some h.form
        → IsFirstSpoken tables said m
    by None is e = let no : ⊥ = cc in absurd no
    by (Some t) is o =
        let at : slice_get tables i ≡ Some table =
        slice_get-get_or tables i table l ∙ ap (λ (x : Table). Some x) (sym e) in
        let passes = (bytes_eq-Decides said.interface table.name).1 name in
        let f = find_place (λ (x : Table). bytes_eq said.interface x.name) tables t is i table at
        passes in
        let low = f.1.1 in
        record {
          place = f.0;
          here = f.1.0 ∙ sym is;
          none_before = λ earlier below. none earlier (omega arith);
        }
