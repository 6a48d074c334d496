-- The rows of a table, and the statements that they are of.
use Rattle.std.proofs.Common.{◌≡◌, ℕ, zero, suc, ◌+◌, ◌-◌, true, List, [], ◌∷◌}
use Rattle.std.proofs.Common.{Some, None, Ok, refl, sym, ap, ◌∙◌, subst, arith, nat_le}
use Rattle.std.specs.Prelude.{slice_get, ◌↔◌}
use Rattle.std.specs.Option.{option_map}
use Rattle.std.proofs.lemmas.Bool.{leb-true, le-leb}
use Rattle.mrc_base.specs.Limits.{limit_of_number}
use Rattle.mrc_base.specs.Reading.{◌>>=◌}
use Rattle.mrc_base.proofs.Steps.{bind_ok, passed, ok_is}
use Rattle.mrc_base.proofs.Lists.{map_is}
use Rattle.mrc_model.proofs.Maps.{same_Some, not_None}
use Rattle.mrc_model.specs.IsIn.{IsIn, here, later}
use Rattle.mrc_mig_parse.proofs.PhraseLemmas.{in_two, where_true}
use Rattle.mrc_mig_parse.specs.Files.{Meaning, Row as Statement, Routine, SimpleRoutine, Skip}
use Rattle.mrc_interface.specs.declared.fault.InterfaceFault.TheVariants.{IdRange}
use Rattle.mrc_forms.specs.declared.form.MessageKind.{MessageKind}
use Rattle.mrc_forms.specs.declared.form.MessageKind.TheVariants as messages
use Rattle.mrc_forms.specs.Forms.{Form}
use Rattle.mrc_forms.specs.Tables.{Row, Table, form_in, form_at, form_of, first_id, place_of}
use Rattle.mrc_forms.specs.Tables.{message_of, AreForms}
use Rattle.mrc_interface.specs.Subsystems.{row_of, last_id, row_at, rows_at, table_of}
use Rattle.mrc_interface.specs.Laws.{forms_at, HasForm}

-- the first row and those behind it
at_place : (id : ℕ) (s : Statement) (ss : List Statement) (row : Row) (more : List Row)
    → row_of id s ≡ row
    → ((i : ℕ) → slice_get more i ≡ option_map (row_of (id + 1 + i)) (slice_get ss i))
    → (i : ℕ) → slice_get (row ∷ more) i ≡ option_map (row_of (id + i)) (slice_get (s ∷ ss) i)
at_place id s ss row more is others zero = let e : id + 0 ≡ id = omega arith in rw (e, is) refl
at_place id s ss row more is others (suc i) = let e : id + suc i ≡ id + 1 + i = omega arith in
    rw e (others i)

-- row i is that of statement i, which takes the id i behind the first
pub row_of_statement : (id : ℕ) (statements : List Statement) (rows : List Row)
    → rows_at id statements ≡ Ok rows → (i : ℕ)
    → slice_get rows i ≡ option_map (row_of (id + i)) (slice_get statements i)
row_of_statement id [] rows e i = subst (λ (r : List Row). slice_get r i ≡ None) (ok_is [] rows e)
    refl
row_of_statement id (s ∷ ss) rows e i =
    let first = bind_ok (row_at id s) (λ row. rows_at (id + 1) ss >>= λ more. Ok (row ∷ more)) rows
    e in
    let rest = bind_ok (rows_at (id + 1) ss) (λ more. Ok (first.0 ∷ more)) rows first.2 in
    let fits = passed (nat_le (last_id id s) limit_of_number) IdRange (Ok (row_of id s)) first.0
    first.1 in
    let row : row_of id s ≡ first.0 = ok_is (row_of id s) first.0 fits.1 in
    subst (λ (r : List Row). slice_get r i ≡ option_map (row_of (id + i)) (slice_get (s ∷ ss) i))
    (ok_is (first.0 ∷ rest.0) rows rest.2)
    (at_place id s ss first.0 rest.0 row (row_of_statement (id + 1) ss rest.0 rest.1) i)

-- the id of this message of a statement that takes this id
abbrev pub id_of : MessageKind → ℕ → ℕ
id_of messages.Request n = n
id_of messages.Reply n = n + 100

-- the form is the one of this message that a statement has which takes this id
abbrev pub IsOf : MessageKind → ℕ → Statement → Form → Type 0
IsOf kind n s form = IsIn form (forms_at n s) × (message_of form.kind ≡ kind)
    × (form.id ≡ id_of kind n)

-- what stands in the row of a statement is such a form
form_of_statement : (kind : MessageKind) (n : ℕ) (s : Statement) (form : Form)
    → form_in kind (row_of n s) ≡ Some form → IsOf kind n s form
form_of_statement messages.Request n (Routine name items) form e =
    subst (IsOf messages.Request n (Routine name items)) (same_Some _ _ e) (here, refl, refl)
form_of_statement messages.Reply n (Routine name items) form e =
    subst (IsOf messages.Reply n (Routine name items)) (same_Some _ _ e) (later here, refl, refl)
form_of_statement messages.Request n (SimpleRoutine name items) form e =
    subst (IsOf messages.Request n (SimpleRoutine name items)) (same_Some _ _ e) (here, refl, refl)
form_of_statement messages.Reply n (SimpleRoutine name items) form e =
    absurd (not_None form (sym e))
form_of_statement messages.Request n Skip form e = absurd (not_None form (sym e))
form_of_statement messages.Reply n Skip form e = absurd (not_None form (sym e))

-- and such a form stands there
statement_of_form : (kind : MessageKind) (n : ℕ) (s : Statement) (form : Form)
    → IsIn form (forms_at n s) → message_of form.kind ≡ kind
    → (form_in kind (row_of n s) ≡ Some form) × (form.id ≡ id_of kind n)
statement_of_form messages.Request n (Routine name items) form (here) is = (refl, refl)
statement_of_form messages.Reply n (Routine name items) form (here) is = absurd cc
statement_of_form messages.Request n (Routine name items) form (later (here)) is = absurd cc
statement_of_form messages.Reply n (Routine name items) form (later (here)) is = (refl, refl)
statement_of_form kind n (Routine name items) form (later (later h)) is = elim h [ ]
statement_of_form messages.Request n (SimpleRoutine name items) form (here) is = (refl, refl)
statement_of_form messages.Reply n (SimpleRoutine name items) form (here) is = absurd cc
statement_of_form kind n (SimpleRoutine name items) form (later h) is = elim h [ ]
statement_of_form kind n Skip form h is = elim h [ ]

-- the table of these rows
abbrev pub table_with : Meaning → List Row → Table
table_with m rows = record { name = m.name; base = m.base; rows = rows }

-- the ids of this message follow one another
behind : (kind : MessageKind) (m : Meaning) (rows : List Row) (i : ℕ)
    → id_of kind (m.base + i) ≡ first_id kind (table_with m rows) + i
behind messages.Request m rows i = refl
behind messages.Reply m rows i = omega arith

-- the form in this place is that of the statement there
pub statement_of_place : (m : Meaning) (rows : List Row) → rows_at m.base m.rows ≡ Ok rows
    → (kind : MessageKind) (i : ℕ) (form : Form) → form_at kind (table_with m rows) i ≡ Some form
    → (s : Statement) × (slice_get m.rows i ≡ Some s) × IsOf kind (m.base + i) s form
statement_of_place m rows all kind i form e =
    let (row, there, stands) = in_two (slice_get rows i) (form_in kind) form e in
    let (s, at, is) = map_is (row_of (m.base + i)) (slice_get m.rows i) row
    (sym (row_of_statement m.base m.rows rows all i) ∙ there) in
    (s, at, form_of_statement kind (m.base + i) s form (ap (form_in kind) is ∙ stands))

-- each form of the table is of its message and has the id of its place
pub are_forms : (m : Meaning) (rows : List Row) → rows_at m.base m.rows ≡ Ok rows
    → AreForms (table_with m rows)
are_forms m rows all kind place form e =
    let (s, at, (stands, of, takes)) = statement_of_place m rows all kind place form e in
    (of, takes ∙ behind kind m rows place)

-- the form that is found by its id is the one of its message that the subsystem has
pub form_found : (m : Meaning) (rows : List Row) → rows_at m.base m.rows ≡ Ok rows
    → (kind : MessageKind) (id : ℕ) (form : Form)
    → (form_of kind (table_with m rows) id ≡ Some form)
    ↔ (HasForm m form × (message_of form.kind ≡ kind) × (form.id ≡ id))
form_found m rows all kind id form =
    let table = table_with m rows in
    let first = first_id kind table in (
      λ e.
          let (i, placed, found) = in_two (place_of kind table id) (form_at kind table) form e in
          let (test, same) = where_true (nat_le first id) (Some (id - first)) i placed in
          let (s, at, (stands, of, takes)) = statement_of_place m rows all kind i form found in
          let le = leb-true first id test in
          let i_is = same_Some (id - first) i same in
          let place : first + i ≡ id = omega (arith, le, i_is) in
          ((i, s, at, stands), of, takes ∙ behind kind m rows i ∙ place),
      λ h.
          let ((i, s, at, stands), of, is) = h in
          let (there, takes) = statement_of_form kind (m.base + i) s form stands of in
          let place : id ≡ first + i = sym is ∙ takes ∙ behind kind m rows i in
          let le : nat_le first (first + i) ≡ true = le-leb first (first + i) (omega arith) in
          let k : first + i - first ≡ i = omega arith in
          rw (
            place,
            le,
            k,
            row_of_statement m.base m.rows rows all i ∙ ap (option_map (row_of (m.base + i))) at,
          ) there,
    )

-- the table of a subsystem has the rows of its statements
pub rows_of_table : (m : Meaning) (table : Table) → table_of m ≡ Ok table
    → (rows : List Row) × (rows_at m.base m.rows ≡ Ok rows) × (table_with m rows ≡ table)
rows_of_table m table e =
    let (rows, found, made) = bind_ok (rows_at m.base m.rows) (λ rows. Ok (table_with m rows)) table
    e in
    (rows, found, ok_is (table_with m rows) table made)
