-- Forms with the numbers of types are those of the definitions, and one is found by its id at its
-- place.
use Rattle.std.proofs.Common.{◌≡◌, ℕ, zero, suc, ◌+◌, ◌-◌, ◌<◌, ◌++◌, ◌||◌, Bool, true, false}
use Rattle.std.proofs.Common.{List, [], ◌∷◌, map, Option, Some, None, refl, ap, sym, ◌∙◌, arith}
use Rattle.std.specs.Prelude.{slice_get, flat_map, find, option_and_then, unwrap_or, nat_le}
use Rattle.std.specs.Prelude.{if◌then◌else◌}
use Rattle.std.specs.Option.{option_map, option_to_list, option_or}
use Rattle.std.specs.List.{filter_map, cons_option, list_any}
use Rattle.std.proofs.lemmas.Bool.{eq-eqb, ne_eqb, leb-true, leb-false}
use Rattle.std.proofs.lemmas.Simd.{map-map}
use Rattle.std.proofs.lemmas.Option.{cond_some}
use Rattle.mrc_base.proofs.Lists.{any_map}
use Rattle.mrc_model.specs.declared.LabelItem.{LabelItem}
use Rattle.mrc_model.specs.declared.LabelItem.TheVariants as label
use Rattle.mrc_model.specs.Wiring.{Wiring, Form, Interface, OfRequest, OfReply, ReplyForm, form_id}
use Rattle.mrc_model.specs.Wiring.{interface, item_forms, has_routine}
use Rattle.mrc_forms.specs.declared.form.MessageKind.{MessageKind}
use Rattle.mrc_forms.specs.declared.form.MessageKind.TheVariants.{Request, Reply}
use Rattle.mrc_forms.specs.Forms.{Form as TextForm}
use Rattle.mrc_forms.specs.Tables.{Row, Table as Text, AreForms, first_id, form_in, forms_by}
use Rattle.mrc_forms.specs.Tables.{place_of}
use Rattle.mrc_wiring.specs.Sorts.{Sort, sorts_of}
use Rattle.mrc_wiring.specs.ModelForms.{request_of, reply_of, model_form, typed_forms, typed_from}
use Rattle.mrc_wiring.specs.Table.{Table, wiring_of}
use Rattle.mrc_wiring.specs.Finding.{has_id, message_forms, typed_at, placed, is_of_routine}
use Rattle.mrc_wiring.proofs.Forms.{interface_there, interface_not}

-- ---- the forms of a message

-- what is made of those that are there
there : {A B C : Type 0} (f : B → C) (g : A → Option B) (xs : List A)
    → flat_map option_to_list (map (λ x. option_map f (g x)) xs) ≡ map f (filter_map g xs)
there f g [] = refl
there {A} {B} {C} f g (x ∷ xs) = by (g x) (there f g xs)
  where
    by : (o : Option B)
        → flat_map option_to_list (map (λ x. option_map f (g x)) xs) ≡ map f (filter_map g xs)
        → option_to_list (option_map f o)
        ++ flat_map option_to_list (map (λ x. option_map f (g x)) xs)
        ≡ map f (cons_option o (filter_map g xs))
    by None rest = rest
    by (Some y) rest = ap (λ ys. f y ∷ ys) rest

-- where the interface is there they are made of its forms, and else there are none
pub messages_there : (table : Table) (kind : MessageKind) (s : ℕ) (i : Text)
    → slice_get table.interfaces s ≡ Some i
    → message_forms kind (wiring_of table) s
    ≡ map (model_form kind (sorts_of table.interfaces) s) (forms_by kind i)
messages_there table Request s i e =
    ap (λ (i : Interface). map OfRequest i.requests) (interface_there table s i e)
    ∙ map-map OfRequest (request_of (sorts_of table.interfaces) s) (forms_by Request i)
messages_there table Reply s i e =
    ap (λ (i : Interface). map OfReply i.replies) (interface_there table s i e)
    ∙ map-map OfReply (reply_of (sorts_of table.interfaces) s) (forms_by Reply i)

pub messages_not : (table : Table) (kind : MessageKind) (s : ℕ)
    → slice_get table.interfaces s ≡ None
    → message_forms kind (wiring_of table) s ≡ []
messages_not table Request s e =
    ap (λ (i : Interface). map OfRequest i.requests) (interface_not table s e)
messages_not table Reply s e =
    ap (λ (i : Interface). map OfReply i.replies) (interface_not table s e)

-- ---- those of a wiring, by the number of the interface

typed_number : (kind : MessageKind) (sorts : List Sort) (k s n : ℕ) (is : List Text) (i : Text)
    → slice_get is s ≡ Some i
    → n ≡ k + s
    → slice_get (typed_from kind sorts k is) s ≡ Some (typed_forms kind sorts n i)
typed_number kind sorts k s n [] i e f = cc
typed_number kind sorts k zero n (t ∷ ts) i e f =
    let same : t ≡ i = cc in
    let number : k ≡ n = omega arith in
    ap (λ t. Some (typed_forms kind sorts k t)) same
    ∙ ap (λ m. Some (typed_forms kind sorts m i)) number
typed_number kind sorts k (suc s) n (t ∷ ts) i e f =
    typed_number kind sorts (k + 1) s n ts i e (omega arith)

typed_none : (kind : MessageKind) (sorts : List Sort) (k s : ℕ) (is : List Text)
    → slice_get is s ≡ None
    → slice_get (typed_from kind sorts k is) s ≡ None
typed_none kind sorts k s [] e = refl
typed_none kind sorts k zero (t ∷ ts) e = cc
typed_none kind sorts k (suc s) (t ∷ ts) e = typed_none kind sorts (k + 1) s ts e

-- of an interface that is there
pub typed_there : (table : Table) (kind : MessageKind) (s : ℕ) (i : Text)
    → slice_get table.interfaces s ≡ Some i
    → typed_at kind table.interfaces s ≡ typed_forms kind (sorts_of table.interfaces) s i
typed_there table kind s i e =
    ap (λ o. unwrap_or o [])
    (typed_number kind (sorts_of table.interfaces) 0 s s table.interfaces i e (omega arith))

-- those that are there are the forms of the message
pub typed_is : (table : Table) (kind : MessageKind) (s : ℕ)
    → flat_map option_to_list (typed_at kind table.interfaces s)
    ≡ message_forms kind (wiring_of table) s
typed_is table kind s = by (slice_get table.interfaces s) refl
  where
    by : (o : Option Text) → slice_get table.interfaces s ≡ o
        → flat_map option_to_list (typed_at kind table.interfaces s)
        ≡ message_forms kind (wiring_of table) s
    by (Some i) e =
        ap (flat_map option_to_list) (typed_there table kind s i e)
        ∙ there (model_form kind (sorts_of table.interfaces) s) (form_in kind) i.rows
        ∙ sym (messages_there table kind s i e)
    by None e =
        ap (λ o. flat_map option_to_list (unwrap_or o []))
        (typed_none kind (sorts_of table.interfaces) 0 s table.interfaces e)
        ∙ sym (messages_not table kind s e)

-- ---- one by its id

module _ (f : TextForm → Form) (keeps : (form : TextForm) → form_id (f form) ≡ form.id)
    (g : Row → Option TextForm) where
  -- each form has the id of its place, where the first has this one
  abbrev AreFrom : ℕ → List Row → Type 0
  AreFrom first rows =
      (place : ℕ) (form : TextForm) → option_and_then g (slice_get rows place) ≡ Some form
      → form.id ≡ first + place

  behind : (first : ℕ) (row : Row) (rows : List Row) → AreFrom first (row ∷ rows)
      → AreFrom (first + 1) rows
  behind first row rows are place form e = let is = are (suc place) form e in omega arith

  -- a form of another id is passed over
  passed : (id : ℕ) (form : TextForm) (forms : List TextForm)
      → (form.id ≡ id → ⊥)
      → find (has_id id) (map f (form ∷ forms)) ≡ find (has_id id) (map f forms)
  passed id form forms other =
      ap (λ b. if b then Some (f form) else find (has_id id) (map f forms))
      (ne_eqb (form_id (f form)) id (λ e. other (sym (keeps form) ∙ e)))

  -- none has an id below all
  below : (id first : ℕ) (rows : List Row) → AreFrom first rows → id < first
      → find (has_id id) (map f (filter_map g rows)) ≡ None
  below id first [] are less = refl
  below id first (row ∷ rows) are less =
      by (g row) refl (below id (first + 1) rows (behind first row rows are) (omega arith))
    where
      by : (o : Option TextForm) → g row ≡ o
          → find (has_id id) (map f (filter_map g rows)) ≡ None
          → find (has_id id) (map f (cons_option o (filter_map g rows))) ≡ None
      by None e rest = rest
      by (Some form) e rest =
          passed id form (filter_map g rows)
          (λ same. let is = are 0 form e in omega arith) ∙ rest

  -- else it is the one of its place
  at_place : (id first place : ℕ) (rows : List Row) → AreFrom first rows → id ≡ first + place
      → find (has_id id) (map f (filter_map g rows))
      ≡ placed (map (λ row. option_map f (g row)) rows) place
  at_place id first place [] are e = refl
  at_place id first zero (row ∷ rows) are e = by (g row) refl
    where
      by : (o : Option TextForm) → g row ≡ o
          → find (has_id id) (map f (cons_option o (filter_map g rows))) ≡ option_map f o
      by None is = below id (first + 1) rows (behind first row rows are) (omega arith)
      by (Some form) is =
          ap (λ b. if b then Some (f form) else find (has_id id) (map f (filter_map g rows)))
          (eq-eqb (form_id (f form)) id
          (keeps form ∙ (let own = are 0 form is in omega arith)))
  at_place id first (suc place) (row ∷ rows) are e =
      by (g row) refl
      (at_place id (first + 1) place rows (behind first row rows are) (omega arith))
    where
      by : (o : Option TextForm) → g row ≡ o
          → find (has_id id) (map f (filter_map g rows))
          ≡ placed (map (λ row. option_map f (g row)) rows) place
          → find (has_id id) (map f (cons_option o (filter_map g rows)))
          ≡ placed (map (λ row. option_map f (g row)) rows) place
      by None is rest = rest
      by (Some form) is rest =
          passed id form (filter_map g rows)
          (λ same. let own = are 0 form is in omega arith) ∙ rest

-- a form keeps its id
keeps_id : (kind : MessageKind) (sorts : List Sort) (s : ℕ) (form : TextForm)
    → form_id (model_form kind sorts s form) ≡ form.id
keeps_id Request sorts s form = refl
keeps_id Reply sorts s form = refl

-- of an interface that is there, the form of the id is that of its place
pub found_there : (table : Table) (kind : MessageKind) (s id place : ℕ) (i : Text)
    → slice_get table.interfaces s ≡ Some i
    → AreForms i
    → place_of kind i id ≡ Some place
    → find (has_id id) (message_forms kind (wiring_of table) s)
    ≡ placed (typed_at kind table.interfaces s) place
found_there table kind s id place i e are at =
    let sorts = sorts_of table.interfaces in
    let is = cond_some (nat_le (first_id kind i) id) (id - first_id kind i) place at in
    let above = leb-true (first_id kind i) id is.0 in
    ap (find (has_id id)) (messages_there table kind s i e)
    ∙ at_place (model_form kind sorts s) (keeps_id kind sorts s) (form_in kind) id (first_id kind i)
    place i.rows (λ place form there. (are kind place form there).1) (omega (arith, is.1, above))
    ∙ ap (λ forms. placed forms place) (sym (typed_there table kind s i e))

-- and an id below all is that of none
pub none_below : (table : Table) (kind : MessageKind) (s id : ℕ) (i : Text)
    → slice_get table.interfaces s ≡ Some i
    → AreForms i
    → place_of kind i id ≡ None
    → find (has_id id) (message_forms kind (wiring_of table) s) ≡ None
none_below table kind s id i e are at =
    let sorts = sorts_of table.interfaces in
    let less = leb-false (first_id kind i) id
    (where_none (nat_le (first_id kind i) id) (id - first_id kind i) at) in
    ap (find (has_id id)) (messages_there table kind s i e)
    ∙ below (model_form kind sorts s) (keeps_id kind sorts s) (form_in kind) id (first_id kind i)
    i.rows (λ place form there. (are kind place form there).1) less
  where
    where_none : (b : Bool) (x : ℕ) → (if b then Some x else None) ≡ None → b ≡ false
    where_none true x e = cc
    where_none false x e = refl

-- ---- tests of them

-- a test of those that are there, by a test that none passes where there is none
pub any_there : {X : Type 0} (p : X → Bool) (q : Option X → Bool)
    → (q None ≡ false)
    → ((x : X) → q (Some x) ≡ p x)
    → (xs : List (Option X))
    → list_any q xs ≡ list_any p (flat_map option_to_list xs)
any_there p q none some [] = refl
any_there p q none some (None ∷ xs) =
    ap (λ b. b || list_any q xs) none ∙ any_there p q none some xs
any_there p q none some (Some x ∷ xs) =
    ap (λ b. b || list_any q xs) (some x) ∙ ap (λ b. p x || b) (any_there p q none some xs)

-- no reply is a routine's request
pub no_routine : (forms : List ReplyForm) → list_any is_of_routine (map OfReply forms) ≡ false
no_routine [] = refl
no_routine (form ∷ forms) = no_routine forms

-- the item stands for requests of an interface that has a routine
pub routine_item : (W : Wiring) (item : LabelItem)
    → list_any is_of_routine (item_forms W item) ≡ has_routine W item
routine_item W (label.Request s) = any_map is_of_routine OfRequest (interface W s).requests
routine_item W (label.Reply s) = no_routine (interface W s).replies
routine_item W label.Destroyed = refl

-- ---- the items of a label

-- an item that has one, and an item that has none
pub found_here : {X : Type 0} (all here rest : Option X) (x : X)
    → all ≡ option_or here rest → Some x ≡ here → Some x ≡ all
found_here all here rest x e f = sym (e ∙ ap (λ o. option_or o rest) (sym f))

pub not_here : {X : Type 0} (all here rest : Option X)
    → all ≡ option_or here rest → None ≡ here → all ≡ rest
not_here all here rest e f = e ∙ ap (λ o. option_or o rest) (sym f)
