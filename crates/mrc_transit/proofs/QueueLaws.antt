-- What is queued of a message is made of its arguments and of what their names carry; and how many
-- names a message has.
use Rattle.std.proofs.Common.{◌≡◌, ℕ, ◌+◌, ◌*◌, ◌<◌, ◌≤◌, List, [], ◌∷◌, ◌++◌, length, take, drop}
use Rattle.std.proofs.Common.{map, get_or, Option, Some, None, Ok, refl, sym, ◌∙◌, ap, subst, arith}
use Rattle.std.proofs.Common.{length-append, append_assoc}
use Rattle.std.proofs.lemmas.List.{append-nil, drop_all, map-append}
use Rattle.std.proofs.Math.Seq.{take-append_seam, drop-append_seam, take-length}
use Rattle.std.specs.List.{flat_map}
use Rattle.std.specs.Option.{option_map, unwrap_or}
use Rattle.mrc_base.specs.declared.Disp.{Disp}
use Rattle.mrc_base.specs.declared.PortRight.TheVariants.{Send}
use Rattle.mrc_base.specs.Disposition.{given, disp_of_number}
use Rattle.mrc_model.specs.declared.Item.{Item}
use Rattle.mrc_model.specs.declared.Code.TheVariants.{MachSendInvalidRight}
use Rattle.mrc_model.specs.Message.{Arg, Data, Ports, arg_bytes, descriptor, word}
use Rattle.mrc_model.specs.Wiring.{Wiring, Shape}
use Rattle.mrc_model.specs.World.{Store, QueuedArg, QueuedData, QueuedItems}
use Rattle.mrc_model.specs.Reply.{Refused, or_refuse}
use Rattle.mrc_model.specs.CallSend.{take_items, take_arg, take_args, first_sort, rest_of}
use Rattle.mrc_desc.specs.declared.argument.Argument.{Argument}
use Rattle.mrc_desc.specs.Lawful.{AreLawful}
use Rattle.mrc_desc.specs.View.{argument_of, arguments_of}
use Rattle.mrc_desc.proofs.Walks.{item_first}
use Rattle.mrc_desc.proofs.Words.{length-words}
use Rattle.mrc_ports.specs.declared.parcel.QueuedArgument.{QueuedArgument}
use Rattle.mrc_ports.specs.Parcels.{queued_of}
use Rattle.mrc_transit.specs.Room.{carried_by}
use Rattle.mrc_transit.specs.Staging.{limit_of_taken}
use Rattle.mrc_transit.specs.Queueing.{names_in, names_of, given_by, queued_by, queued_from}
use Rattle.mrc_transit.proofs.CarriedLaws.{bind_ok, same_ok, items_taken}

-- the first of two lists, and what is behind it
take_front : {A : Type 0} (n : ℕ) (xs ys : List A) → length xs ≡ n → take n (xs ++ ys) ≡ xs
take_front n xs ys is = subst (λ k. take k (xs ++ ys) ≡ xs) is (take-append_seam xs ys)

drop_front : {A : Type 0} (n : ℕ) (xs ys : List A) → length xs ≡ n → drop n (xs ++ ys) ≡ ys
drop_front n xs ys is = subst (λ k. drop k (xs ++ ys) ≡ ys) is (drop-append_seam xs ys)

-- all of a list
take_all : {A : Type 0} (n : ℕ) (xs : List A) → length xs ≡ n → take n xs ≡ xs
take_all n xs is = subst (λ k. take k xs ≡ xs) is (take-length xs)

-- the right of a disposition that is there
by_disp : (disp : ℕ) (x : Disp) (o : Option Disp)
    → disp_of_number disp ≡ o
    → or_refuse o (Refused MachSendInvalidRight) ≡ Ok x
    → given_by disp ≡ given x
unfolding or_refuse
by_disp disp x None at is = cc
by_disp disp x (Some y) at is =
    ap (λ k. unwrap_or (option_map given k) Send) at ∙ ap given (same_ok y x is)

-- an argument
abbrev IsOfItems : Arg → QueuedArg → Type 0
IsOfItems a q = (length (carried_by q) ≡ names_in a)
    × ((more : List Item) → queued_by a (carried_by q ++ more) ≡ q)

of_items : (W : Wiring) (own t sort i : ℕ) (s s2 : Store) (a : Arg) (q : QueuedArg)
    → take_arg W own t sort i s a ≡ Ok (s2, q)
    → IsOfItems a q
of_items W own t sort i s s2 (Data name size number bytes) q is =
    subst (λ (r : Store × QueuedArg). IsOfItems (Data name size number bytes) r.1)
    (same_ok (s, QueuedData name size number bytes) (s2, q) is) (refl, λ more. refl)
of_items W own t sort i s s2 (Ports disp names) q is =
    let bad = Refused MachSendInvalidRight in
    let one = bind_ok (or_refuse (disp_of_number disp) bad) _ (s2, q) is in
    let two = bind_ok (take_items W own t one.0 sort i s names) _ (s2, q) one.1.1 in
    let many : length two.0.1 ≡ length names =
    items_taken W own t one.0 sort i s two.0.0 names two.0.1 two.1.0 in
    let right : given_by disp ≡ given one.0 =
    by_disp disp one.0 (disp_of_number disp) refl one.1.0 in
    let P : Store × QueuedArg → Type 0 = λ r. IsOfItems (Ports disp names) r.1 in
    subst P (same_ok (two.0.0, QueuedItems (given one.0) two.0.1) (s2, q) two.1.1) (
      many,
      λ more. ap (λ r. QueuedItems r (take (length names) (two.0.1 ++ more))) right
          ∙ ap (QueuedItems (given one.0)) (take_front (length names) two.0.1 more many),
    )

-- all of them
pub args_of_items : (W : Wiring) (own t i : ℕ) (shapes : List Shape) (s s2 : Store)
    (args : List Arg) (queued : List QueuedArg)
    → take_args W own t i shapes s args ≡ Ok (s2, queued)
    → (length (flat_map carried_by queued) ≡ names_of args)
    × (queued_from args (flat_map carried_by queued) ≡ queued)
args_of_items W own t i shapes s s2 [] queued is =
    subst (λ (r : Store × List QueuedArg). (length (flat_map carried_by r.1) ≡ 0) × ([] ≡ r.1))
    (same_ok (s, []) (s2, queued) is) (refl, refl)
args_of_items W own t i shapes s s2 (a ∷ more) queued is =
    let one = bind_ok (take_arg W own t (first_sort shapes) i s a) _ (s2, queued) is in
    let after = take_args W own t (i + 1) (rest_of shapes) one.0.0 more in
    let two = bind_ok after _ (s2, queued) one.1.1 in
    let first : IsOfItems a one.0.1 =
    of_items W own t (first_sort shapes) i s one.0.0 a one.0.1 one.1.0 in
    let rest =
    args_of_items W own t (i + 1) (rest_of shapes) one.0.0 two.0.0 more two.0.1 two.1.0 in
    let own_items = carried_by one.0.1 in
    let others = flat_map carried_by two.0.1 in
    subst (λ (r : Store × List QueuedArg).
    (length (flat_map carried_by r.1) ≡ names_in a + names_of more)
    × (queued_from (a ∷ more) (flat_map carried_by r.1) ≡ r.1))
    (same_ok (two.0.0, one.0.1 ∷ two.0.1) (s2, queued) two.1.1) (
      omega (arith, length-append own_items others, first.0, rest.0),
      (λ j. first.1 others j
          ∷ queued_from more (drop_front (names_in a) own_items others first.0 j))
          ∙ ap (λ qs. one.0.1 ∷ qs) rest.1,
    )

-- each name of a message takes four bytes
names_bytes : (args : List Arg) → 4 * names_of args ≤ length (flat_map arg_bytes args)
names_bytes [] = omega arith
names_bytes (Data name size number bytes ∷ more) =
    omega (
      arith,
      names_bytes more,
      length-append (arg_bytes (Data name size number bytes)) (flat_map arg_bytes more),
    )
names_bytes (Ports disp names ∷ more) =
    omega (
      arith,
      names_bytes more,
      length-append (arg_bytes (Ports disp names)) (flat_map arg_bytes more),
      length-append (descriptor disp 32 (length names)) (flat_map word names),
      length-words names,
    )

pub few_names : (args : List Arg) → AreLawful args → names_of args + 2 ≤ limit_of_taken
few_names args lawful = omega (arith, names_bytes args, lawful.1)

-- the same from what code tells: the items are all that the scratch has
pub judged_items : (W : Wiring) (own t i : ℕ) (shapes : List Shape) (s s2 : Store)
    (args sent : List Arg) (queued : List QueuedArg) (none items : List Item)
    → take_args W own t i shapes s args ≡ Ok (s2, queued)
    → args ≡ sent
    → items ≡ none ++ flat_map carried_by queued
    → none ≡ []
    → (length items ≡ names_of sent) × (queued_from sent items ≡ queued)
judged_items W own t i shapes s s2 args sent queued none items is same all blank =
    let whole : items ≡ flat_map carried_by queued =
    all ∙ ap (λ xs. xs ++ flat_map carried_by queued) blank in
    let both = args_of_items W own t i shapes s s2 args queued is in (
      ap (λ (xs : List Item). length xs) whole ∙ both.0 ∙ ap names_of same,
      (λ j. queued_from (sym same j) (whole j)) ∙ both.1,
    )

-- an argument takes its own items alone
own_items : (a : Arg) (items own : List Item)
    → own ≡ take (names_in a) items
    → length own ≡ names_in a
    → queued_by a own ≡ queued_by a items
own_items (Data name size number bytes) items own is many = refl
own_items (Ports disp names) items own is many =
    ap (QueuedItems (given_by disp)) (take_all (length names) own many ∙ is)

-- so many arguments are queued, and these items are left for the others
pub record QueueIs (args : List Argument) (items left : List Item) (queued : List QueuedArgument)
    (k : ℕ) : Type 0 where
  pub enough : length left ≡ names_of (arguments_of (drop k args))
  pub far : queued_from (arguments_of args) items
      ≡ map queued_of queued ++ queued_from (arguments_of (drop k args)) left

pub queue_begun : (args : List Argument) (items : List Item) (queued : List QueuedArgument)
    → queued ≡ []
    → length items ≡ names_of (arguments_of args)
    → QueueIs args items items queued 0
queue_begun args items queued none many = record {
  enough = many;
  far = ap (λ (qs : List QueuedArgument). map queued_of qs ++ queued_from (arguments_of args) items)
      (sym none);
}

module _ (args : List Argument) (items left : List Item) (queued : List QueuedArgument) (k : ℕ)
    (is : QueueIs args items left queued k) where
  module _ (a : Argument) (less : k < length args) (here : a ≡ get_or args k a) where
    rest_is : drop k args ≡ a ∷ drop (k + 1) args
    rest_is = item_first args k a less here

    many_left : length left ≡ names_in (argument_of a)
        + names_of (arguments_of (drop (k + 1) args))
    many_left = is.enough ∙ ap (λ more. names_of (arguments_of more)) rest_is

    pub queue_split : names_in (argument_of a) ≤ length left
    queue_split = omega (arith, many_left)

    pub queue_turn : (own later : List Item) (q : QueuedArgument)
        → own ≡ take (names_in (argument_of a)) left
        → length own ≡ names_in (argument_of a)
        → later ≡ drop (names_in (argument_of a)) left
        → length later + names_in (argument_of a) ≡ length left
        → queued_of q ≡ queued_by (argument_of a) own
        → QueueIs args items later (queued ++ q ∷ []) (k + 1)
    queue_turn own later q own_is own_many later_is later_many q_is =
        let rest = arguments_of (drop (k + 1) args) in
        record {
          enough = omega (arith, many_left, later_many);
          far =
              is.far
              ∙ ap (λ more. map queued_of queued ++ queued_from (arguments_of more) left) rest_is
              ∙ ap (λ z. map queued_of queued ++ z ∷ queued_from rest
              (drop (names_in (argument_of a)) left))
              (sym (q_is ∙ own_items (argument_of a) left own own_is own_many))
              ∙ ap (λ z. map queued_of queued ++ queued_of q ∷ queued_from rest z) (sym later_is)
              ∙ sym (append_assoc (map queued_of queued) (queued_of q ∷ [])
              (queued_from rest later))
              ∙ ap (λ qs. qs ++ queued_from rest later)
              (sym (map-append queued_of queued (q ∷ [])));
        }

  -- none is left
  pub queue_done : length args ≤ k
      → map queued_of queued ≡ queued_from (arguments_of args) items
  queue_done most =
      sym (is.far
      ∙ ap (λ more. map queued_of queued ++ queued_from (arguments_of more) left)
      (drop_all k args most)
      ∙ append-nil (map queued_of queued))
