-- What the filter says of a message that it lets through.
use Rattle.mrc_base.specs.Disposition.{is_port_number}
use Rattle.std.proofs.Common.{Bool, Err, List, None, Ok, Option, Some, [], ap, false, if◌then◌else◌}
use Rattle.std.proofs.Common.{inl, inr, map, refl, subst, sym, true, ℕ, ◌&&◌, ◌+◌, ◌==◌, ◌∙◌, ◌∷◌}
use Rattle.std.proofs.Common.{◌≡◌}
use Rattle.std.proofs.lemmas.Bool.{and_from, and_parts, eqb-true, or_cases, or_right}
use Rattle.std.specs.List.{find, list_any}
use Rattle.std.specs.Prelude.{flat_map}
use Rattle.mrc_model.proofs.Members.{any_more, in_append, in_any}
use Rattle.mrc_model.proofs.Maps.{not_None, same_Some}
use Rattle.mrc_model.proofs.Tries.{Gives, gives_err, gives_ok}
use Rattle.mrc_model.specs.CallSend.{by_filter}
use Rattle.mrc_model.specs.Filter.{difference, expected, first_alone, first_difference, fits_reply}
use Rattle.mrc_model.specs.Filter.{has_size, is_zero_data, judge, judge_form, judge_found}
use Rattle.mrc_model.specs.Filter.{or_behind}
use Rattle.mrc_model.specs.IsIn.{IsIn, here, later}
use Rattle.mrc_model.specs.Message.{Arg, Data, Message, Ports}
use Rattle.mrc_model.specs.Wiring.{AnyData, Form, ItemTypes, OfReply, OfRequest, OneOf, RequestForm}
use Rattle.mrc_model.specs.Wiring.{Shape, Wiring, type_numbers}
use Rattle.mrc_model.specs.Wiring.{accepts_routine, form_id, form_shapes, forms, has_routine}
use Rattle.mrc_model.specs.Wiring.{accepts_replier, accepts_reply, fits_at, interface, is_answered}
use Rattle.mrc_model.specs.Wiring.{is_answered_at, brings_reply, is_routine_of, item_forms, label}
use Rattle.mrc_model.specs.declared.Denied.{Denied}
use Rattle.mrc_model.specs.declared.Denied.TheVariants.{ReplySlot, WrongDisposition, WrongShape}
use Rattle.mrc_model.specs.declared.LabelItem.{LabelItem}
use Rattle.mrc_model.specs.declared.LabelItem.TheVariants.{Destroyed, Reply as ReplyOf}
use Rattle.mrc_model.specs.declared.LabelItem.TheVariants.{Request as RequestOf}

-- what rights the argument has are of one of the shape's types
abbrev pub Meets : Shape → Arg → Type 0
Meets s (Data name size number bytes) = Unit {0}
Meets s (Ports disp names) = IsIn disp (type_numbers s.types)

-- the arguments stand at shapes of their kinds
pub data Fit : List Shape → List Arg → Type 0 where
  fits_none : {ss : List Shape} → Fit ss []
  fits_next : {s : Shape} {ss : List Shape} {a : Arg} {more : List Arg} → Meets s a
      → Fit ss more
      → Fit (s ∷ ss) (a ∷ more)

-- a number that is found in a list is in it
number_in : (n : ℕ) (ns : List ℕ) → list_any (λ k. k == n) ns ≡ true → IsIn n ns
number_in n [] e = cc
number_in n (k ∷ ns) e = elim (or_cases (k == n) (list_any (λ k. k == n) ns) e) [
  | inl z ↦ subst (λ v. IsIn n (v ∷ ns)) (sym (eqb-true k n z)) here
  | inr z ↦ later (number_in n ns z)
]

-- an argument that does not differ from a shape meets it
meets : (i : ℕ) (s : Shape) (a : Arg) → difference i s.types s a ≡ None → Meets s a
meets i s (Data name size number bytes) e = tt
meets i s (Ports disp names) e = by_types s.types e
  where
    never : (b : Bool) (x y : Denied) → (if b then Some x else Some y) ≡ None → ⊥
    never true x y z = not_None x z
    never false x y z = not_None y z

    by_types : (ts : ItemTypes) → difference i ts s (Ports disp names) ≡ None
        → IsIn disp (type_numbers ts)
    by_types AnyData z = absurd (not_None _ z)
    by_types (OneOf ns) z =
        let go : (b c : Bool) → list_any (λ n. n == disp) ns ≡ c
        → (if b then
        (if c then None else if list_any is_port_number ns && is_port_number disp
        then Some (WrongDisposition i) else Some (WrongShape i)) else Some (WrongShape i))
        ≡ None
        → IsIn disp ns = elim [
          | true ↦ elim [
            | true ↦ λ k v. number_in disp ns k
            | false ↦ λ k v. absurd
                (never (list_any is_port_number ns && is_port_number disp) (WrongDisposition i)
                (WrongShape i) v)
          ]
          | false ↦ λ c k v. absurd (not_None (WrongShape i) v)
        ] in
        go (has_size s (Ports disp names)) (list_any (λ n. n == disp) ns) refl z

-- where no difference is found the arguments fit
fits : (i : ℕ) (ss : List Shape) (xs : List Arg) → first_difference i ss xs ≡ None → Fit ss xs
fits i [] [] e = fits_none
fits i [] (a ∷ more) e = absurd (not_None _ e)
fits i (s ∷ ss) [] e = fits_none
fits i (s ∷ ss) (a ∷ more) e =
    let go : (o : Option Denied) → difference i s.types s a ≡ o
    → or_behind o (first_difference (i + 1) ss more) ≡ None → Fit (s ∷ ss) (a ∷ more) = elim [
      | None ↦ λ k z. fits_next (meets i s a k) (fits (i + 1) ss more z)
      | Some d ↦ λ k z. absurd (not_None d z)
    ] in
    go (difference i s.types s a) refl e

-- what fits the first shape alone fits all shapes
fit_alone : (ss : List Shape) (xs : List Arg) → Fit (first_alone ss) xs → Fit ss xs
fit_alone [] xs f = f
fit_alone (s ∷ ss) [] f = fits_none
fit_alone (s ∷ ss) (a ∷ []) (fits_next k f) = fits_next k fits_none
fit_alone (s ∷ ss) (a ∷ b ∷ more) (fits_next k f) = elim f [ ]

-- what fits the shapes that are expected fits the form's
fit_expected : (f : Form) (xs : List Arg) → Fit (expected f xs) xs → Fit (form_shapes f) xs
fit_expected (OfRequest f) xs h = h
fit_expected (OfReply f) xs h =
    let go : (b : Bool) → Fit (if b then f.shapes else first_alone f.shapes) xs → Fit f.shapes xs =
    elim [ true ↦ λ z. z | false ↦ λ z. fit_alone f.shapes xs z ] in
    go (is_zero_data xs) h

-- the form is one of the class's, and message and reply port fit it
pub record IsJudged (W : Wiring) (d : ℕ) (m : Message) (f : Form) : Type 0 where
  pub form : IsIn f (forms W d)
  pub fit : Fit (form_shapes f) m.args
  pub reply : fits_reply f m.local_disp ≡ true

-- what is found in a list is in it
found_in : (test : Form → Bool) (fs : List Form) (f : Form) → find test fs ≡ Some f → IsIn f fs
found_in test [] f e = absurd (not_None f (sym e))
found_in test (g ∷ gs) f e =
    let go : (b : Bool) → (if b then Some g else find test gs) ≡ Some f → IsIn f (g ∷ gs) = elim [
      | true ↦ λ z. subst (λ v. IsIn v (g ∷ gs)) (same_Some g f z) (here)
      | false ↦ λ z. later (found_in test gs f z)
    ] in
    go (test g) e

-- what the filter lets through fits a form of the class
pub judge_says : (W : Wiring) (d : ℕ) (m : Message)
    → Gives (IsJudged W d m) (by_filter (judge W d m))
unfolding judge
judge_says W d m = by_found (find (λ (f : Form). form_id f == m.id) (forms W d)) refl
  where
    by_reply : (f : Form) → IsIn f (forms W d) → Fit (form_shapes f) m.args → (b : Bool)
        → fits_reply f m.local_disp ≡ b
        → Gives (IsJudged W d m) (by_filter (if b then Ok f else Err ReplySlot))
    by_reply f is fit true e = gives_ok record { form = is; fit = fit; reply = e }
    by_reply f is fit false e = gives_err _ _

    by_difference : (f : Form) → IsIn f (forms W d) → (o : Option Denied)
        → first_difference 0 (expected f m.args) m.args ≡ o
        → Gives (IsJudged W d m) (by_filter (judge_form f m o))
    by_difference f is (Some x) e = gives_err _ _
    by_difference f is None e =
        by_reply f is (fit_expected f m.args (fits 0 (expected f m.args) m.args e))
        (fits_reply f m.local_disp) refl

    by_found : (o : Option Form) → find (λ (f : Form). form_id f == m.id) (forms W d) ≡ o
        → Gives (IsJudged W d m) (by_filter (judge_found m o))
    by_found None e = gives_err _ _
    by_found (Some f) e =
        by_difference f (found_in (λ (f : Form). form_id f == m.id) (forms W d) f e)
        (first_difference 0 (expected f m.args) m.args) refl

-- an element of a mapped list is the image of one
in_map : {X Y : Type 0} (g : X → Y) (xs : List X) (y : Y) → IsIn y (map g xs)
    → (x : X) × IsIn x xs × (g x ≡ y)
in_map g [] y i = elim i [ ]
in_map g (x ∷ xs) y (here) = (x, here, refl)
in_map g (x ∷ xs) y (later i) = let (v, in_xs, is) = in_map g xs y i in (v, later in_xs, is)

-- a routine's request that is a form of an item of a label is of an interface with a routine
item_routine : (W : Wiring) (f : RequestForm) (x : LabelItem) → IsIn (OfRequest f) (item_forms W x)
    → brings_reply f ≡ true → has_routine W x ≡ true
item_routine W f (RequestOf s) i e =
    let (g, in_requests, is) = in_map OfRequest (interface W s).requests (OfRequest f) i in
    let same : g ≡ f = cc in
    in_any brings_reply g (interface W s).requests in_requests (ap brings_reply same ∙ e)
item_routine W f (ReplyOf s) i e =
    let (g, in_replies, is) = in_map OfReply (interface W s).replies (OfRequest f) i in absurd (cc)
item_routine W f Destroyed i e = elim i [ ]

-- so the class whose form it is accepts routines
pub routine_accepted : (W : Wiring) (d : ℕ) (f : RequestForm) → IsIn (OfRequest f) (forms W d)
    → brings_reply f ≡ true
    → accepts_routine W d ≡ true
unfolding forms accepts_routine
routine_accepted W d f i e = of_items (label W d) i
  where
    of_items : (items : List LabelItem) → IsIn (OfRequest f) (flat_map (item_forms W) items)
        → list_any (has_routine W) items ≡ true
    of_items [] i = elim i [ ]
    of_items (x ∷ more) i =
        elim (in_append (OfRequest f) (item_forms W x) (flat_map (item_forms W) more) i) [
          | inl a ↦ let is = item_routine W f x a e in rw is
          | inr b ↦ or_right (has_routine W x) (list_any (has_routine W) more) (of_items more b)
        ]

-- an item that answers a request with this id at c answers some request there
answered : (W : Wiring) (id c : ℕ) (x : LabelItem) → is_answered_at W id c x ≡ true
    → is_answered W c x ≡ true
answered W id c (RequestOf s) e =
    let z = and_parts (list_any (is_routine_of id) (interface W s).requests) (accepts_reply W c s) e
    in
    and_from _ _
    (any_more (is_routine_of id) brings_reply (interface W s).requests
    (λ f h. (and_parts (brings_reply f) (f.id == id) h).0) z.0) z.1
answered W id c (ReplyOf s) e = cc
answered W id c Destroyed e = cc

-- so a reply right that fits a routine's request to a class can come with some request there
pub replier_accepted : (W : Wiring) (d id c : ℕ) → accepts_routine W d ≡ true
    → fits_at W d id c ≡ true → accepts_replier W d c ≡ true
unfolding fits_at accepts_replier
replier_accepted W d id c routine = go W.replies_fit
  where
    go : (b : Bool) → (if b then list_any (is_answered_at W id c) (label W d) else true) ≡ true
        → (if b then list_any (is_answered W c) (label W d) else accepts_routine W d) ≡ true
    go true e = any_more (is_answered_at W id c) (is_answered W c) (label W d) (answered W id c) e
    go false e = routine
