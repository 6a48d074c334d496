-- When two items of a label clash.
use Rattle.std.proofs.Common.{◌≡◌, ◌⊎◌, inl, inr, ℕ, zero, suc, ◌<◌, true, false}
use Rattle.std.proofs.Common.{List, [], ◌∷◌, ◌++◌, map, Option, Some, None, refl, ap, sym}
use Rattle.std.proofs.Common.{subst}
use Rattle.std.proofs.Common.{◌∙◌, arith, ◌==◌, ◌||◌}
use Rattle.std.specs.Prelude.{slice_get}
use Rattle.std.specs.List.{list_any}
use Rattle.std.proofs.lemmas.Bool.{eqb-true, eq-eqb}
use Rattle.std.proofs.Math.Bool.{or-true}
use Rattle.mrc_model.specs.IsIn.{IsIn, here, later}
use Rattle.mrc_model.specs.declared.LabelItem.{LabelItem}
use Rattle.mrc_model.specs.declared.LabelItem.TheVariants as label
use Rattle.mrc_model.specs.Wiring.{Form, form_id, item_forms}
use Rattle.mrc_forms.specs.declared.form.MessageKind.{MessageKind}
use Rattle.mrc_forms.specs.declared.form.MessageKind.TheVariants.{Request, Reply}
use Rattle.mrc_forms.specs.Forms.{Form as TextForm}
use Rattle.mrc_forms.specs.Tables.{Table as Text, forms_by}
use Rattle.mrc_wiring.specs.Sorts.{Sort, sorts_of}
use Rattle.mrc_wiring.specs.Table.{Table, wiring_of}
use Rattle.mrc_wiring.specs.ModelForms.{model_form}
use Rattle.mrc_wiring.specs.Finding.{message_forms}
use Rattle.mrc_wiring.specs.Labels.{ids_by, ids_of, is_known, clash_among, HasId, AreClashing}
use Rattle.mrc_wiring_laws.specs.ClashLaw.{ClashesAreTwoItems}
use Rattle.mrc_wiring.proofs.Findings.{messages_there, messages_not}

-- the ids of an item are those of its forms

-- a form keeps its id
made_ids : (kind : MessageKind) (sorts : List Sort) (s : ℕ) (forms : List TextForm)
    → map form_id (map (model_form kind sorts s) forms) ≡ map (λ (form : TextForm). form.id) forms
made_ids kind sorts s [] = refl
made_ids Request sorts s (form ∷ forms) =
    ap (λ ids. form.id ∷ ids) (made_ids Request sorts s forms)
made_ids Reply sorts s (form ∷ forms) =
    ap (λ ids. form.id ∷ ids) (made_ids Reply sorts s forms)

ids_by_message : (table : Table) (kind : MessageKind) (s : ℕ) (o : Option Text)
    → slice_get table.interfaces s ≡ o
    → map form_id (message_forms kind (wiring_of table) s) ≡ ids_by kind o
ids_by_message table kind s None e = ap (map form_id) (messages_not table kind s e)
ids_by_message table kind s (Some t) e =
    ap (map form_id) (messages_there table kind s t e)
    ∙ made_ids kind (sorts_of table.interfaces) s (forms_by kind t)

ids_are : (table : Table) (item : LabelItem)
    → map form_id (item_forms (wiring_of table) item) ≡ ids_of table.interfaces item
ids_are table (label.Request s) = ids_by_message table Request s _ refl
ids_are table (label.Reply s) = ids_by_message table Reply s _ refl
ids_are table label.Destroyed = refl

in_map : (f : Form) (fs : List Form) → IsIn f fs → IsIn (form_id f) (map form_id fs)
in_map f [] at = elim at [ ]
in_map f (g ∷ fs) here = here
in_map f (g ∷ fs) (later at) = later (in_map f fs at)

from_map : (id : ℕ) (fs : List Form)
    → IsIn id (map form_id fs)
    → (f : Form) × IsIn f fs × (form_id f ≡ id)
from_map id [] at = elim at [ ]
from_map id (f ∷ fs) here = (f, here, refl)
from_map id (f ∷ fs) (later at) =
    let rest = from_map id fs at in (rest.0, later rest.1, rest.2)

has_id : (table : Table) (item : LabelItem) (id : ℕ)
    → IsIn id (ids_of table.interfaces item)
    → HasId (wiring_of table) item id
has_id table item id at =
    from_map id (item_forms (wiring_of table) item) (subst (IsIn id) (sym (ids_are table item)) at)

in_ids : (table : Table) (item : LabelItem) (id : ℕ)
    → HasId (wiring_of table) item id
    → IsIn id (ids_of table.interfaces item)
in_ids table item id h =
    subst (IsIn id) (ids_are table item)
    (subst (λ n. IsIn n (map form_id (item_forms (wiring_of table) item))) h.2
    (in_map h.0 (item_forms (wiring_of table) item) h.1))

-- numbers among numbers

known_is : (known : List ℕ) (id : ℕ) → is_known known id ≡ true → IsIn id known
known_is [] id e = cc
known_is (n ∷ ns) id e =
    elim (n == id) as (λ b. (n == id) ≡ b → (b || is_known ns id) ≡ true → IsIn id (n ∷ ns)) [
      | true ↦ λ is f. subst (λ x. IsIn x (n ∷ ns)) (eqb-true n id is) here
      | false ↦ λ is f. later (known_is ns id f)
    ] refl e

is_known_in : (known : List ℕ) (id : ℕ) → IsIn id known → is_known known id ≡ true
is_known_in [] id at = elim at [ ]
is_known_in (n ∷ ns) id here = ap (λ b. b || is_known ns n) (eq-eqb n n refl)
is_known_in (n ∷ ns) id (later at) =
    ap (λ b. (n == id) || b) (is_known_in ns id at) ∙ or-true (n == id)

any_is : (known ids : List ℕ)
    → list_any (is_known known) ids ≡ true
    → (id : ℕ) × IsIn id ids × IsIn id known
any_is known [] e = cc
any_is known (n ∷ ns) e =
    elim (is_known known n) as (λ b. is_known known n ≡ b → (b || list_any (is_known known) ns) ≡
    true
    → (id : ℕ) × IsIn id (n ∷ ns) × IsIn id known) [
      | true ↦ λ is f. (n, here, known_is known n is)
      | false ↦ λ is f. let rest = any_is known ns f in (rest.0, later rest.1, rest.2)
    ] refl e

is_any : (known ids : List ℕ) (id : ℕ)
    → IsIn id ids
    → IsIn id known
    → list_any (is_known known) ids ≡ true
is_any known [] id at among = elim at [ ]
is_any known (n ∷ ns) id here among =
    ap (λ b. b || list_any (is_known known) ns) (is_known_in known n among)
is_any known (n ∷ ns) id (later at) among =
    ap (λ b. is_known known n || b) (is_any known ns id at among) ∙ or-true (is_known known n)

in_left : (id : ℕ) (xs ys : List ℕ) → IsIn id xs → IsIn id (xs ++ ys)
in_left id [] ys at = elim at [ ]
in_left id (x ∷ xs) ys here = here
in_left id (x ∷ xs) ys (later at) = later (in_left id xs ys at)

in_right : (id : ℕ) (xs ys : List ℕ) → IsIn id ys → IsIn id (xs ++ ys)
in_right id [] ys at = at
in_right id (x ∷ xs) ys at = later (in_right id xs ys at)

in_either : (id : ℕ) (xs ys : List ℕ) → IsIn id (xs ++ ys) → IsIn id xs ⊎ IsIn id ys
in_either id [] ys at = inr at
in_either id (x ∷ xs) ys here = inl here
in_either id (x ∷ xs) ys (later at) = elim (in_either id xs ys at) [
  | inl h ↦ inl (later h)
  | inr h ↦ inr h
]

-- an item at a place has an id that is known
record MeetsKnown (is : List Text) (known : List ℕ) (items : List LabelItem) : Type 0 where
  place : ℕ
  item : LabelItem
  id : ℕ
  item_is : slice_get items place ≡ Some item
  of_item : IsIn id (ids_of is item)
  in_known : IsIn id known

-- two items have a common id
record MeetsItem (is : List Text) (items : List LabelItem) : Type 0 where
  first : ℕ
  second : ℕ
  one : LabelItem
  other : LabelItem
  id : ℕ
  order : first < second
  first_is : slice_get items first ≡ Some one
  second_is : slice_get items second ≡ Some other
  of_one : IsIn id (ids_of is one)
  of_other : IsIn id (ids_of is other)

later_known : (is : List Text) (known : List ℕ) (item : LabelItem) (items : List LabelItem)
    → MeetsKnown is (known ++ ids_of is item) items
    → MeetsKnown is known (item ∷ items) ⊎ MeetsItem is (item ∷ items)
later_known is known item items m =
    elim (in_either m.id known (ids_of is item) m.in_known) [
      | inl h ↦ inl record {
        place = suc m.place;
        item = m.item;
        id = m.id;
        item_is = m.item_is;
        of_item = m.of_item;
        in_known = h;
      }
      | inr h ↦ inr record {
        first = 0;
        second = suc m.place;
        one = item;
        other = m.item;
        id = m.id;
        order = omega arith;
        first_is = refl;
        second_is = m.item_is;
        of_one = h;
        of_other = m.of_item;
      }
    ]

later_item : (is : List Text) (item : LabelItem) (items : List LabelItem)
    → MeetsItem is items
    → MeetsItem is (item ∷ items)
later_item is item items m = record {
  first = suc m.first;
  second = suc m.second;
  one = m.one;
  other = m.other;
  id = m.id;
  order = (let less = m.order in omega arith);
  first_is = m.first_is;
  second_is = m.second_is;
  of_one = m.of_one;
  of_other = m.of_other;
}

finds : (is : List Text) (known : List ℕ) (items : List LabelItem)
    → clash_among is known items ≡ true
    → MeetsKnown is known items ⊎ MeetsItem is items
finds is known [] e = cc
finds is known (item ∷ items) e =
    elim (list_any (is_known known) (ids_of is item)) as (λ b. list_any (is_known known) (ids_of is
    item) ≡ b
    → (b || clash_among is (known ++ ids_of is item) items) ≡ true
    → MeetsKnown is known (item ∷ items) ⊎ MeetsItem is (item ∷ items)) [
      | true ↦ λ one f.
          let met = any_is known (ids_of is item) one in
          inl record {
            place = 0;
            item = item;
            id = met.0;
            item_is = refl;
            of_item = met.1;
            in_known = met.2;
          }
      | false ↦ λ one f. elim (finds is (known ++ ids_of is item) items f) [
        | inl m ↦ later_known is known item items m
        | inr m ↦ inr (later_item is item items m)
      ]
    ] refl e

-- an item whose id is known is found
found_known : (is : List Text) (known : List ℕ) (items : List LabelItem) (k : ℕ) (item : LabelItem)
    (id : ℕ)
    → slice_get items k ≡ Some item
    → IsIn id (ids_of is item)
    → IsIn id known
    → clash_among is known items ≡ true
found_known is known [] k item id e of_item among = cc
found_known is known (x ∷ xs) zero item id e of_item among =
    let same : x ≡ item = cc in
    ap (λ b. b || clash_among is (known ++ ids_of is x) xs)
    (is_any known (ids_of is x) id (subst (λ y. IsIn id (ids_of is y)) (sym same) of_item) among)
found_known is known (x ∷ xs) (suc k) item id e of_item among =
    ap (λ b. list_any (is_known known) (ids_of is x) || b)
    (found_known is (known ++ ids_of is x) xs k item id e of_item
    (in_left id known (ids_of is x) among))
    ∙ or-true (list_any (is_known known) (ids_of is x))

-- two items with a common id are found
found_item : (is : List Text) (known : List ℕ) (items : List LabelItem) (j k : ℕ)
    (one other : LabelItem) (id : ℕ)
    → j < k
    → slice_get items j ≡ Some one
    → slice_get items k ≡ Some other
    → IsIn id (ids_of is one)
    → IsIn id (ids_of is other)
    → clash_among is known items ≡ true
found_item is known [] j k one other id less e f of_one of_other = cc
found_item is known (x ∷ xs) j zero one other id less e f of_one of_other = absurd (omega arith)
found_item is known (x ∷ xs) zero (suc k) one other id less e f of_one of_other =
    let same : x ≡ one = cc in
    ap (λ b. list_any (is_known known) (ids_of is x) || b)
    (found_known is (known ++ ids_of is x) xs k other id f of_other
    (in_right id known (ids_of is x) (subst (λ y. IsIn id (ids_of is y)) (sym same) of_one)))
    ∙ or-true (list_any (is_known known) (ids_of is x))
found_item is known (x ∷ xs) (suc j) (suc k) one other id less e f of_one of_other =
    ap (λ b. list_any (is_known known) (ids_of is x) || b)
    (found_item is (known ++ ids_of is x) xs j k one other id (omega arith) e f of_one of_other)
    ∙ or-true (list_any (is_known known) (ids_of is x))

no_known : (is : List Text) (items : List LabelItem) → MeetsKnown is [] items → ⊥
no_known is items m = nothing m.id m.in_known
  where
    nothing : (id : ℕ) → IsIn id [] → ⊥
    nothing id at = elim at [ ]

pub clashes_items : ClashesAreTwoItems
clashes_items table items = (there, back)
  where
    there : clash_among table.interfaces [] items ≡ true → AreClashing (wiring_of table) items
    there e = elim (finds table.interfaces [] items e) [
      | inl m ↦ absurd (no_known table.interfaces items m)
      | inr m ↦ record {
        first = m.first;
        second = m.second;
        one = m.one;
        other = m.other;
        id = m.id;
        order = m.order;
        first_is = m.first_is;
        second_is = m.second_is;
        of_one = has_id table m.one m.id m.of_one;
        of_other = has_id table m.other m.id m.of_other;
      }
    ]

    back : AreClashing (wiring_of table) items → clash_among table.interfaces [] items ≡ true
    back a =
        found_item table.interfaces [] items a.first a.second a.one a.other a.id a.order a.first_is
        a.second_is (in_ids table a.one a.id a.of_one) (in_ids table a.other a.id a.of_other)
