-- Which form an id finds, and that each row has a form or is left out.
use Rattle.std.proofs.Common.{◌≡◌, ◌<◌, ◌⊎◌, ℕ, ◌+◌, ◌-◌, Bool, true, false, List, [], ◌∷◌, map}
use Rattle.std.proofs.Common.{Option, Some, None, refl, ap, sym, subst, ◌∙◌, arith, inl, inr}
use Rattle.std.proofs.Common.{nat_le}
use Rattle.std.proofs.Common.{if◌then◌else◌, ◌++◌, take, get_or, length}
use Rattle.std.specs.Prelude.{◌↔◌, slice_get}
use Rattle.std.specs.List.{filter_map, cons_option}
use Rattle.std.proofs.lemmas.Bool.{leb-true, le-leb}
use Rattle.std.proofs.lemmas.List.{map_more}
use Rattle.std.proofs.lemmas.List.Elements.{filter_map-append}
use Rattle.mrc_base.proofs.Lists.{then_is}
use Rattle.mrc_model.specs.IsIn.{IsIn, here, later}
use Rattle.mrc_model.proofs.FirstHeld.{in_cons}
use Rattle.mrc_model.proofs.Maps.{same_Some, not_None}
use Rattle.mrc_forms.specs.declared.form.MessageKind.{MessageKind}
use Rattle.mrc_forms.specs.declared.form.MessageKind.TheVariants as messages
use Rattle.mrc_forms.specs.Forms.{Form}
use Rattle.mrc_forms.specs.Tables.{Row, form_in, form_at, form_of, first_id, place_of}
use Rattle.mrc_forms.specs.Tables.{message_of, AreForms}
use Rattle.mrc_mig_bodies.specs.declared.kinds.Request.TheVariants as answers
use Rattle.mrc_mig_rows.specs.Files.{FileSays}
use Rattle.mrc_mig_rows.specs.Rows.{RowSays, Outcome, IsRead, IsLeftOut}
use Rattle.mrc_mig_forms.specs.Bounds.{OutcomeFits}
use Rattle.mrc_mig_forms.specs.Files.{forms_at, forms_by, forms_of_row, no_forms, name_of, takes}
use Rattle.mrc_mig_forms.specs.Files.{is_read, table_of, LeftOut, left_by, left_of}
use Rattle.mrc_mig_forms.specs.Laws.{messages_by, HasForm, HasRequest, IsLeft}
use Rattle.mrc_mig_forms.proofs.FileLemmas.{FileHolds}
use Rattle.mrc_mig_forms.proofs.TableLemmas.{at_place, place_at, stands_at, takes_is, own_place}

-- the id of this message of a row that takes this id
abbrev id_of : MessageKind → ℕ → ℕ
id_of messages.Request n = n
id_of messages.Reply n = n + 100

-- the form is the one of this message that a row has which takes this id
abbrev IsOf : MessageKind → List ℕ → ℕ → Outcome → Form → Type 0
IsOf kind name id outcome form =
    IsIn form (messages_by name id outcome) × (message_of form.kind ≡ kind)
    × (form.id ≡ id_of kind id)

-- what stands in the table for a row is such a form
form_of_row : (kind : MessageKind) (name : List ℕ) (id : ℕ) (outcome : Outcome) (form : Form)
    → form_in kind (forms_by name id outcome) ≡ Some form → IsOf kind name id outcome form
form_of_row messages.Request name id (IsRead answered request reply) form e =
    subst (IsOf messages.Request name id (IsRead answered request reply)) (same_Some _ _ e)
    (here, refl, refl)
form_of_row messages.Reply name id (IsRead answers.Routine request reply) form e =
    subst (IsOf messages.Reply name id (IsRead answers.Routine request reply)) (same_Some _ _ e)
    (later here, refl, refl)
form_of_row messages.Reply name id (IsRead answers.Simple request reply) form e =
    absurd (not_None form (sym e))
form_of_row messages.Reply name id (IsRead answers.Replied request reply) form e =
    absurd (not_None form (sym e))
form_of_row messages.Request name id (IsLeftOut told carried) form e =
    absurd (not_None form (sym e))
form_of_row messages.Reply name id (IsLeftOut told carried) form e =
    absurd (not_None form (sym e))

-- and such a form stands there, of a row that is read
row_of_form : (kind : MessageKind) (name : List ℕ) (id : ℕ) (outcome : Outcome) (form : Form)
    → IsIn form (messages_by name id outcome) → message_of form.kind ≡ kind
    → (form_in kind (forms_by name id outcome) ≡ Some form) × (form.id ≡ id_of kind id)
    × (is_read outcome ≡ true)
row_of_form messages.Request name id (IsRead answered request reply) form (here) is =
    (refl, refl, refl)
row_of_form messages.Reply name id (IsRead answered request reply) form (here) is = absurd cc
row_of_form messages.Request name id (IsRead answers.Routine request reply) form (later (here)) is =
    absurd cc
row_of_form messages.Reply name id (IsRead answers.Routine request reply) form (later (here)) is =
    (refl, refl, refl)
row_of_form kind name id (IsRead answers.Routine request reply) form (later (later h)) is =
    elim h [ ]
row_of_form kind name id (IsRead answers.Simple request reply) form (later h) is = elim h [ ]
row_of_form kind name id (IsRead answers.Replied request reply) form (later h) is = elim h [ ]
row_of_form kind name id (IsLeftOut told carried) form h is = elim h [ ]

-- the ids of this message follow one another
behind : (kind : MessageKind) (file : FileSays) (i id : ℕ) → id ≡ file.heading.base + i
    → id_of kind id ≡ first_id kind (table_of file) + i
behind messages.Request file i id e = e
behind messages.Reply file i id e = omega (arith, e)

-- nothing stands where no row takes the id
no_form : (kind : MessageKind) (form : Form) → form_in kind no_forms ≡ Some form → ⊥
no_form messages.Request form e = not_None form (sym e)
no_form messages.Reply form e = not_None form (sym e)

-- the form in this place is that of a row of the file
pub row_of_place : (file : FileSays) (kind : MessageKind) (i : ℕ) (form : Form)
    → form_at kind (table_of file) i ≡ Some form
    → (row : RowSays) × IsIn row file.rows × (row.id ≡ file.heading.base + i)
    × (is_read row.outcome ≡ true) × IsOf kind (name_of row.name) row.id row.outcome form
row_of_place file kind i form e =
    let (found, there, stands) = then_is (form_in kind) (slice_get (table_of file).rows i) form e in
    let (less, is) = at_place (λ id. forms_at id file.rows) file.heading.base file.ids i found there
    in
    let formed : form_in kind (forms_at (file.heading.base + i) file.rows) ≡ Some form =
    ap (form_in kind) is ∙ stands in
    elim (stands_at (file.heading.base + i) file.rows) [
      | inl none ↦ absurd (no_form kind form (sym (ap (form_in kind) none.0) ∙ formed))
      | inr found ↦ let (same, read) = takes_is (file.heading.base + i) found.0 found.2 in (
        found.0,
        found.1,
        same,
        read,
        form_of_row kind (name_of found.0.name) found.0.id found.0.outcome form
            (sym (ap (form_in kind) found.3) ∙ formed),
      )
    ]

-- each form of the table is of its message and has the id of its place
pub are_forms : (file : FileSays) → AreForms (table_of file)
are_forms file kind place form e =
    let (row, there, at, read, (stands, of, takes)) = row_of_place file kind place form e in
    (of, takes ∙ behind kind file place row.id at)

-- a row that is read takes one of the file's ids
placed : (base ids id : ℕ) (outcome : Outcome) → OutcomeFits base ids id outcome
    → is_read outcome ≡ true → (i : ℕ) × (i < ids) × (id ≡ base + i)
placed base ids id (IsRead answered request reply) fits is =
    let above = fits.above in
    let below = fits.below in
    (id - base, omega (arith, above, below), omega (arith, above))
placed base ids id (IsLeftOut told carried) fits is = absurd cc

-- what is read behind a test
where_true : {A : Type 0} (b : Bool) (o : Option A) (a : A) → (if b then o else None) ≡ Some a
    → (b ≡ true) × (o ≡ Some a)
where_true true o a e = (refl, e)
where_true false o a e = absurd cc

-- a form of a row is found by its id
found_by : (file : FileSays) → FileHolds file → (kind : MessageKind) (id : ℕ) (form : Form)
    → (row : RowSays) → IsIn row file.rows → is_read row.outcome ≡ true
    → form_in kind (forms_of_row row) ≡ Some form → id ≡ id_of kind row.id
    → form_of kind (table_of file) id ≡ Some form
found_by file holds kind id form row there is formed same =
    let table = table_of file in
    let first = first_id kind table in
    let (i, less, at) = placed file.heading.base file.ids row.id row.outcome (holds.fits row there)
    is in
    let place : id ≡ first + i = same ∙ behind kind file i row.id at in
    let le : nat_le first (first + i) ≡ true = le-leb first (first + i) (omega arith) in
    let k : first + i - first ≡ i = omega arith in
    let stands : forms_at (file.heading.base + i) file.rows ≡ forms_of_row row =
    ap (λ (n : ℕ). forms_at n file.rows) (sym at) ∙ own_place file holds row there is in
    rw (
      place,
      le,
      k,
      place_at (λ id. forms_at id file.rows) file.heading.base file.ids i less,
      stands,
    ) formed

-- the form that is found by its id is the one of its message that a row of the file has
pub form_found : (file : FileSays) → FileHolds file → (kind : MessageKind) (id : ℕ) (form : Form)
    → (form_of kind (table_of file) id ≡ Some form)
    ↔ (HasForm file form × (message_of form.kind ≡ kind) × (form.id ≡ id))
form_found file holds kind id form = (
  λ e.
      let table = table_of file in
      let first = first_id kind table in
      let (i, placed, found) = then_is (form_at kind table) (place_of kind table id) form e in
      let (test, same) = where_true (nat_le first id) (Some (id - first)) i placed in
      let (row, there, at, read, (stands, of, takes)) = row_of_place file kind i form found in
      let le = leb-true first id test in
      let i_is = same_Some (id - first) i same in
      let place : first + i ≡ id = omega (arith, le, i_is) in
      ((row, there, stands), of, takes ∙ behind kind file i row.id at ∙ place),
  λ h.
      let ((row, there, stands), of, is) = h in
      let (formed, takes, read) = row_of_form kind (name_of row.name) row.id row.outcome form stands
      of in
      found_by file holds kind id form row there read formed (sym is ∙ takes),
)

-- what is made of an element of a list
made_in : {X Y : Type 0} (f : X → Option Y) (x : X) (xs : List X) (y : Y) → IsIn x xs
    → f x ≡ Some y → IsIn y (filter_map f xs)
made_in f x [] y h e = elim h [ ]
made_in f x (z ∷ xs) y (here) e =
    subst (λ o. IsIn y (cons_option o (filter_map f xs))) (sym e) here
made_in {Y = Y} f x (z ∷ xs) y (later h) e = by (f z) (made_in f x xs y h e)
  where
    by : (o : Option Y) → IsIn y (filter_map f xs) → IsIn y (cons_option o (filter_map f xs))
    by None there = there
    by (Some w) there = later there

in_made : {X Y : Type 0} (f : X → Option Y) (xs : List X) (y : Y) → IsIn y (filter_map f xs)
    → (x : X) × IsIn x xs × (f x ≡ Some y)
in_made f [] y h = elim h [ ]
in_made {X = X} {Y = Y} f (x ∷ xs) y h = by (f x) refl (in_made f xs y) h
  where
    by : (o : Option Y) → f x ≡ o
        → (IsIn y (filter_map f xs) → (z : X) × IsIn z xs × (f z ≡ Some y))
        → IsIn y (cons_option o (filter_map f xs))
        → (z : X) × IsIn z (x ∷ xs) × (f z ≡ Some y)
    by None e on k = let (z, there, is) = on k in (z, later there, is)
    by (Some w) e on k = elim (in_cons y w (filter_map f xs) k) [
      | inl same ↦ (x, here, e ∙ ap Some (sym same))
      | inr there ↦ let (z, at, is) = on there in (z, later at, is)
    ]

-- a row that is read has a request, and one that is left out is in the list
once_by : (file : FileSays) → FileHolds file → (row : RowSays) → IsIn row file.rows
    → (outcome : Outcome) → row.outcome ≡ outcome
    → HasRequest file row.id ⊎ IsLeft file row.id
once_by file holds row there (IsRead answered request reply) e =
    let is : is_read row.outcome ≡ true = ap is_read e in
    let formed = ap (λ (o : Outcome).
    form_in messages.Request (forms_by (name_of row.name) row.id o)) e in
    inl (_, found_by file holds messages.Request row.id _ row there is formed refl)
once_by file holds row there (IsLeftOut told carried) e =
    inr (_, made_in left_of row file.rows _ there (ap (left_by row) e), refl)

-- a row that is left out is not read
left_is : (row : RowSays) (outcome : Outcome) (left : LeftOut) → left_by row outcome ≡ Some left
    → is_read outcome ≡ true → ⊥
left_is row (IsRead answered request reply) left e is = not_None left (sym e)
left_is row (IsLeftOut told carried) left e is = cc

left_id : (row : RowSays) (outcome : Outcome) (left : LeftOut) → left_by row outcome ≡ Some left
    → left.id ≡ row.id
left_id row (IsRead answered request reply) left e = absurd (not_None left (sym e))
left_id row (IsLeftOut told carried) left e =
    sym (ap (λ (l : LeftOut). l.id) (same_Some _ left e))

never_both : (file : FileSays) → FileHolds file → (id : ℕ) → HasRequest file id → IsLeft file id
    → ⊥
never_both file holds id (form, found) (left, there, same) =
    let ((row, row_in, stands), of, form_id) = (form_found file holds messages.Request id form).0
    found in
    let (formed, takes, read) = row_of_form messages.Request (name_of row.name) row.id row.outcome
    form stands of in
    let (other, other_in, made) = in_made left_of file.rows left there in
    let ids : row.id ≡ other.id =
    sym takes ∙ (form_id ∙ (sym same ∙ left_id other other.outcome left made)) in
    let one = holds.own row other row_in other_in read ids in
    left_is other other.outcome left made (sym (ap (λ (r : RowSays). is_read r.outcome) one) ∙ read)

pub each_once : (file : FileSays) → FileHolds file → (row : RowSays) → IsIn row file.rows
    → (HasRequest file row.id ⊎ IsLeft file row.id)
    × (HasRequest file row.id → IsLeft file row.id → ⊥)
each_once file holds row there =
    (once_by file holds row there row.outcome refl, never_both file holds row.id)

-- the rows that are left out so far, with the one in this place
pub left_more : {X : Type 0} (f : X → RowSays) (xs : List X) (i : ℕ) (d : X)
    (found new : List LeftOut) → i < length xs
    → found ≡ filter_map left_of (map f (take i xs))
    → new ≡ found ++ cons_option (left_of (f (get_or xs i d))) []
    → new ≡ filter_map left_of (map f (take (i + 1) xs))
left_more f xs i d found new less so_far is =
    is ∙ (ap (λ (ls : List LeftOut). ls ++ cons_option (left_of (f (get_or xs i d))) []) so_far
    ∙ (sym (filter_map-append left_of (map f (take i xs)) (f (get_or xs i d) ∷ []))
    ∙ ap (filter_map left_of) (sym (map_more f xs i d less))))

-- the parts of the table of a file are a table of forms
pub formed : (file : FileSays) (name : List ℕ) (rows : List Row) → name ≡ file.heading.name
    → rows ≡ (table_of file).rows
    → AreForms record { name = name; base = file.heading.base; rows = rows }
formed file name rows named are = rw (named, are) (are_forms file)
