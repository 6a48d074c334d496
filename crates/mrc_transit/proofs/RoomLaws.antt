-- How many entries a space has after a giving.
use Rattle.std.proofs.Common.{◌≡◌, ℕ, ◌+◌, ◌<◌, ◌≤◌, inl, inr, Bool, true, false, not, ◌||◌}
use Rattle.std.proofs.Common.{List, [], ◌∷◌, ◌++◌, length, get_or, take, drop, map, Option, Some, None}
use Rattle.std.proofs.Common.{refl, sym, ◌∙◌, ap, subst, arith, append_assoc, add-one}
use Rattle.std.specs.Prelude.{is_some, flat_map, IfSome, IfNone}
use Rattle.std.specs.List.{list_any}
use Rattle.std.specs.Cmp.{both_ways as same_if}
use Rattle.std.proofs.lemmas.Bool.{both_ways, or_cases, or_right, eqb-true, lt-ltb, le-ltb}
use Rattle.std.proofs.lemmas.List.{append-nil, map-append, take-append-drop}
use Rattle.std.proofs.lemmas.List.Folds.{list_any-append}
use Rattle.std.proofs.lemmas.Grind.{flat_map-append}
use Rattle.std.proofs.Math.Seq.{take-suc}
use Rattle.mrc_base.specs.declared.PortRight.{PortRight}
use Rattle.mrc_base.specs.declared.PortRight.TheVariants.{Send, Receive, SendOnce}
use Rattle.mrc_model.specs.declared.Entry.{Entry}
use Rattle.mrc_model.specs.declared.Entry.TheVariants.{Receive as ReceiveEntry, Send as SendEntry}
use Rattle.mrc_model.specs.declared.Entry.TheVariants.{SendOnce as OnceEntry, PortSet as SetEntry}
use Rattle.mrc_model.specs.declared.Entry.TheVariants.{DeadName as DeadEntry}
use Rattle.mrc_model.specs.declared.Item.{Item}
use Rattle.mrc_model.specs.declared.Item.TheVariants.{Null as NullItem, Dead as DeadItem}
use Rattle.mrc_model.specs.declared.Item.TheVariants.{Right as RightItem}
use Rattle.mrc_model.specs.Map.{insert, len}
use Rattle.mrc_model.specs.World.{Space, Store, QueuedArg, QueuedData, QueuedItems, Parcel, space}
use Rattle.mrc_model.specs.World.{set_space}
use Rattle.mrc_model.specs.Space.{unused, is_entry_of, entry_of, new_entry, joined}
use Rattle.mrc_model.specs.Space.{place, place_at, give_item, is_over_full}
use Rattle.mrc_model.specs.CallReceive.{give_items, give_arg, give_args, received}
use Rattle.mrc_model.specs.FirstHoldings.{one_if}
use Rattle.mrc_model.proofs.Few.{names, names_new, names_over, len_new, len_over}
use Rattle.mrc_model.proofs.Spaces.{get-unused, entry_of-some, space-set_same}
use Rattle.mrc_ports.specs.declared.parcel.QueuedArgument.{QueuedArgument}
use Rattle.mrc_ports.specs.Parcels.{queued_of}
use Rattle.mrc_transit.specs.Room.{carried_by, carried, names_port, is_named, takes_name}
use Rattle.mrc_transit.specs.Room.{names_taken}

-- how many names lists of items take, one behind the other
pub taken_append : (x : Space) (before items more : List Item)
    → names_taken x before (items ++ more)
    ≡ names_taken x before items + names_taken x (before ++ items) more
taken_append x before [] more =
    let same : names_taken x before more ≡ names_taken x (before ++ []) more =
    ap (λ b. names_taken x b more) (sym (append-nil before)) in
    omega arith
taken_append x before (item ∷ items) more =
    let rest = taken_append x (before ++ item ∷ []) items more in
    let same : names_taken x ((before ++ item ∷ []) ++ items) more
    ≡ names_taken x (before ++ item ∷ items) more =
    ap (λ b. names_taken x b more) (append_assoc before (item ∷ []) items) in
    omega arith

-- From the space x, where the items before were given, the space y came; from y, with these items
-- besides, came z.
record Given (x y z : Space) (before items : List Item) : Type 0 where
  size : len z ≡ len y + names_taken x before items
  named : (p : ℕ) → names z p ≡ (list_any (names_port p) (before ++ items) || names x p)

-- the space y came from x, where these items were given
abbrev Holds : Space → Space → List Item → Type 0
Holds x y before = (p : ℕ) → names y p ≡ (list_any (names_port p) before || names x p)

given_none : (x y : Space) (before : List Item) → Holds x y before → Given x y y before []
given_none x y before holds = record {
  size = omega arith;
  named = λ p. holds p
      ∙ ap (λ b. list_any (names_port p) b || names x p) (sym (append-nil before));
}

given_more : (x y z w : Space) (before items more : List Item)
    → Given x y z before items
    → Given x z w (before ++ items) more
    → Given x y w before (items ++ more)
given_more x y z w before items more one two = record {
  size =
      let all = taken_append x before items more in
      let first = one.size in
      let second = two.size in
      omega arith;
  named = λ p. two.named p
      ∙ ap (λ b. list_any (names_port p) b || names x p) (append_assoc before items more);
}

regroup : (a b c : Bool) → (a || (b || c)) ≡ ((b || (a || false)) || c)
regroup true true c = refl
regroup true false c = refl
regroup false true c = refl
regroup false false c = refl

-- an item more, by what it is to the space
given_item : (x y z : Space) (before : List Item) (item : Item)
    → Holds x y before
    → len z ≡ len y + one_if (takes_name x (is_named before item) item)
    → ((p : ℕ) → names z p ≡ (names_port p item || names y p))
    → Given x y z before (item ∷ [])
given_item x y z before item holds size named = record {
  size = omega (arith, size);
  named = λ p. named p ∙ ap (λ b. names_port p item || b) (holds p)
      ∙ regroup (names_port p item) (list_any (names_port p) before) (names x p)
      ∙ ap (λ b. b || names x p) (sym (list_any-append (names_port p) before (item ∷ [])));
}

new_own : (p q : ℕ) (r : PortRight) → is_entry_of q (new_entry p r) ≡ names_port q (RightItem p r)
new_own p q Send = refl
new_own p q Receive = refl
new_own p q SendOnce = refl

joined_own : (e : Entry) (r : PortRight) (q : ℕ) → is_entry_of q (joined e r) ≡ is_entry_of q e
joined_own (ReceiveEntry p k i) Send q = refl
joined_own (ReceiveEntry p k i) Receive q = refl
joined_own (ReceiveEntry p k i) SendOnce q = refl
joined_own (SendEntry p k) Send q = refl
joined_own (SendEntry p k) Receive q = refl
joined_own (SendEntry p k) SendOnce q = refl
joined_own (OnceEntry p) r q = refl
joined_own SetEntry r q = refl
joined_own (DeadEntry k) r q = refl

-- a right on p names no other port
named_own : (p q : ℕ) (r : PortRight) → names_port q (RightItem p r) ≡ true → p ≡ q
named_own p q Send is = eqb-true p q is
named_own p q Receive is = eqb-true p q is
named_own p q SendOnce is = absurd (both_ways false refl is)

-- a right that takes a new name, and one that joins its port's entry
given_new : (x y : Space) (before : List Item) (p : ℕ) (r : PortRight)
    → Holds x y before
    → takes_name x (is_named before (RightItem p r)) (RightItem p r) ≡ true
    → Given x y (insert y (unused y) (new_entry p r)) before (RightItem p r ∷ [])
given_new x y before p r holds takes =
    given_item x y _ before (RightItem p r) holds
    (len_new y (unused y) (new_entry p r) (get-unused y) ∙ ap (λ b. len y + one_if b) (sym takes))
    (λ q. names_new y (unused y) (new_entry p r) q (get-unused y)
    ∙ ap (λ b. b || names y q) (new_own p q r))

given_joined : (x y : Space) (before : List Item) (p : ℕ) (r : PortRight) (e : ℕ × Entry)
    → Holds x y before
    → entry_of y p ≡ Some e
    → takes_name x (is_named before (RightItem p r)) (RightItem p r) ≡ false
    → Given x y (insert y e.0 (joined e.1 r)) before (RightItem p r ∷ [])
given_joined x y before p r e holds found takes =
    let at = entry_of-some y p e found in
    let there : names y p ≡ true = ap is_some found in
    given_item x y _ before (RightItem p r) holds
    (let same = len_over y e.0 e.1 (joined e.1 r) at.0 in
    let none : one_if (takes_name x (is_named before (RightItem p r)) (RightItem p r)) ≡ 0 =
    ap one_if takes in omega arith)
    (λ q. names_over y e.0 e.1 (joined e.1 r) q at.0 (joined_own e.1 r q)
    ∙ same_if (names y q) (names_port q (RightItem p r) || names y q)
    (λ h. or_right (names_port q (RightItem p r)) (names y q) h)
    (λ h. elim (or_cases (names_port q (RightItem p r)) (names y q) h) [
      | inl own ↦ ap (names y) (sym (named_own p q r own)) ∙ there
      | inr was ↦ was
    ]))

-- a send or receive right, by the entry that its port has
given_at : (x y : Space) (before : List Item) (p : ℕ) (r : PortRight) (o : Option (ℕ × Entry))
    → Holds x y before
    → entry_of y p ≡ o
    → takes_name x (is_named before (RightItem p r)) (RightItem p r)
    ≡ not (list_any (names_port p) before || names x p)
    → Given x y (place_at y p r o).space before (RightItem p r ∷ [])
given_at x y before p r None holds found takes =
    given_new x y before p r holds (takes ∙ ap not (sym (holds p)) ∙ ap (λ z. not (is_some z)) found)
given_at x y before p r (Some e) holds found takes =
    given_joined x y before p r e holds found
    (takes ∙ ap not (sym (holds p)) ∙ ap (λ z. not (is_some z)) found)

given_place : (x y : Space) (before : List Item) (p : ℕ) (r : PortRight)
    → Holds x y before
    → Given x y (place y p r).space before (RightItem p r ∷ [])
given_place x y before p Send holds = given_at x y before p Send (entry_of y p) holds refl refl
given_place x y before p Receive holds =
    given_at x y before p Receive (entry_of y p) holds refl refl
given_place x y before p SendOnce holds = given_new x y before p SendOnce holds refl

-- what a task is given

module _ (t : ℕ) (x : Space) where
  gives_item : (s : Store) (before : List Item) (item : Item)
      → Holds x (space s t) before
      → Given x (space s t) (space (give_item s t item).0 t) before (item ∷ [])
  unfolding give_item
  gives_item s before NullItem holds =
      given_item x _ _ before NullItem holds (omega arith) (λ p. refl)
  gives_item s before DeadItem holds =
      given_item x _ _ before DeadItem holds (omega arith) (λ p. refl)
  gives_item s before (RightItem p r) holds =
      subst (λ (z : Space). Given x (space s t) z before (RightItem p r ∷ []))
      (sym (space-set_same s t (place (space s t) p r).space))
      (given_place x (space s t) before p r holds)

  gives_items : (s : Store) (before items : List Item)
      → Holds x (space s t) before
      → Given x (space s t) (space (give_items t s items).0 t) before items
  gives_items s before [] holds = given_none x _ before holds
  gives_items s before (item ∷ items) holds =
      let one = gives_item s before item holds in
      given_more x _ _ _ before (item ∷ []) items one
      (gives_items (give_item s t item).0 (before ++ item ∷ []) items one.named)

  gives_arg : (s : Store) (before : List Item) (a : QueuedArg)
      → Holds x (space s t) before
      → Given x (space s t) (space (give_arg t s a).0 t) before (carried_by a)
  gives_arg s before (QueuedData name size number bytes) holds = given_none x _ before holds
  gives_arg s before (QueuedItems r items) holds = gives_items s before items holds

  gives_args : (s : Store) (before : List Item) (args : List QueuedArg)
      → Holds x (space s t) before
      → Given x (space s t) (space (give_args t s args).0 t) before (flat_map carried_by args)
  gives_args s before [] holds = given_none x _ before holds
  gives_args s before (a ∷ args) holds =
      let one = gives_arg s before a holds in
      given_more x _ _ _ before (carried_by a) (flat_map carried_by args) one
      (gives_args (give_arg t s a).0 (before ++ carried_by a) args one.named)

  gives_message : (s : Store) (name receipts : ℕ) (m : Parcel)
      → space s t ≡ x
      → Given x (space s t) (space (received s t name receipts m).0 t) [] (carried m)
  unfolding received
  gives_message s name receipts m is =
      let one = gives_item s [] m.reply (λ p. ap (λ (z : Space). names z p) is) in
      given_more x _ _ _ [] (m.reply ∷ []) (flat_map carried_by m.args) one
      (gives_args (give_item s t m.reply).0 (m.reply ∷ []) m.args one.named)

-- how many entries the space has that a message was given to
pub received_size : (x : Space) (s : Store) (t name receipts : ℕ) (m : Parcel)
    → len (space (received (set_space s t x) t name receipts m).0 t)
    ≡ len x + names_taken x [] (carried m)
received_size x s t name receipts m =
    let given = gives_message t x (set_space s t x) name receipts m (space-set_same s t x) in
    given.size ∙ ap (λ (z : Space). len z + names_taken x [] (carried m)) (space-set_same s t x)

-- whether there is room for all, by what is told of the names
pub room_told : (x : Space) (s : Store) (t name receipts : ℕ) (m : Parcel) (o : Option ℕ)
    → IfSome o (λ left. left + len x + names_taken x [] (carried m) ≡ 4096)
    → IfNone o (4096 < len x + names_taken x [] (carried m))
    → is_some o
    ≡ not (is_over_full (space (received (set_space s t x) t name receipts m).0 t))
room_told x s t name receipts m None some none =
    let size = received_size x s t name receipts m in
    sym (ap not (lt-ltb 4096 (len (space (received (set_space s t x) t name receipts m).0 t))
    (omega (arith, size, none))))
room_told x s t name receipts m (Some left) some none =
    let size = received_size x s t name receipts m in
    sym (ap not (le-ltb 4096 (len (space (received (set_space s t x) t name receipts m).0 t))
    (omega (arith, size, some))))

-- going over lists one after the other

last_of : {X : Type 0} (xs : List X) (i : ℕ) (x : X)
    → i < length xs
    → x ≡ get_or xs i x
    → take (i + 1) xs ≡ take i xs ++ x ∷ []
last_of xs i x here is =
    ap (λ k. take k xs) (add-one i) ∙ take-suc xs i x here ∙ ap (λ z. take i xs ++ z ∷ []) (sym is)

-- items
module _ (x : Space) (before items : List Item) (i : ℕ) where
  pub items_left : names_taken x before (take i items) ≤ names_taken x before items
  items_left =
      let parts = taken_append x before (take i items) (drop i items) in
      let all : names_taken x before (take i items ++ drop i items) ≡ names_taken x before items =
      ap (names_taken x before) (take-append-drop i items) in
      omega arith

  pub items_next : (item : Item)
      → i < length items
      → item ≡ get_or items i item
      → names_taken x before (take (i + 1) items)
      ≡ names_taken x before (take i items)
      + one_if (takes_name x (is_named (before ++ take i items) item) item)
  items_next item here is =
      let parts = taken_append x before (take i items) (item ∷ []) in
      let last : names_taken x before (take (i + 1) items)
      ≡ names_taken x before (take i items ++ item ∷ []) =
      ap (names_taken x before) (last_of items i item here is) in
      omega arith

pub items_over : (x : Space) (before items : List Item) (i : ℕ) (item : Item) (left room : ℕ)
    → left + names_taken x before (take i items) ≡ room
    → i < length items
    → item ≡ get_or items i item
    → left < one_if (takes_name x (is_named (before ++ take i items) item) item)
    → room < names_taken x before items
items_over x before items i item left room so_far here is over =
    let next = items_next x before items i item here is in
    let all = items_left x before items (i + 1) in
    omega arith

-- what arguments carry
abbrev pub all_of : List QueuedArgument → List Item
all_of args = flat_map carried_by (map queued_of args)

all_append : (args more : List QueuedArgument) → all_of (args ++ more) ≡ all_of args ++ all_of more
all_append args more =
    ap (flat_map carried_by) (map-append queued_of args more)
    ∙ flat_map-append carried_by (map queued_of args) (map queued_of more)

module _ (x : Space) (before : List Item) (args : List QueuedArgument) (i : ℕ) where
  pub args_left : names_taken x before (all_of (take i args)) ≤ names_taken x before (all_of args)
  args_left =
      let parts = taken_append x before (all_of (take i args)) (all_of (drop i args)) in
      let all : names_taken x before (all_of (take i args) ++ all_of (drop i args))
      ≡ names_taken x before (all_of args) =
      ap (names_taken x before) (sym (all_append (take i args) (drop i args))
      ∙ ap all_of (take-append-drop i args)) in
      omega arith

  pub args_next : (a : QueuedArgument)
      → i < length args
      → a ≡ get_or args i a
      → names_taken x before (all_of (take (i + 1) args))
      ≡ names_taken x before (all_of (take i args))
      + names_taken x (before ++ all_of (take i args)) (carried_by (queued_of a))
  args_next a here is =
      let parts = taken_append x before (all_of (take i args)) (carried_by (queued_of a)) in
      let last : names_taken x before (all_of (take (i + 1) args))
      ≡ names_taken x before (all_of (take i args) ++ carried_by (queued_of a)) =
      ap (names_taken x before) (ap all_of (last_of args i a here is)
      ∙ all_append (take i args) (a ∷ [])
      ∙ ap (λ z. all_of (take i args) ++ z) (append-nil (carried_by (queued_of a)))) in
      omega arith

pub args_over : (x : Space) (before : List Item) (args : List QueuedArgument) (i : ℕ)
    (a : QueuedArgument) (left room : ℕ)
    → left + names_taken x before (all_of (take i args)) ≡ room
    → i < length args
    → a ≡ get_or args i a
    → left < names_taken x (before ++ all_of (take i args)) (carried_by (queued_of a))
    → room < names_taken x before (all_of args)
args_over x before args i a left room so_far here is over =
    let next = args_next x before args i a here is in
    let all = args_left x before args (i + 1) in
    omega arith

-- one of what arguments carry
pub any_of_all : (p : Item → Bool) (args : List QueuedArgument)
    → list_any (λ a. list_any p (carried_by (queued_of a))) args ≡ list_any p (all_of args)
any_of_all p [] = refl
any_of_all p (a ∷ args) =
    ap (λ b. list_any p (carried_by (queued_of a)) || b) (any_of_all p args)
    ∙ sym (list_any-append p (carried_by (queued_of a)) (all_of args))

-- how many entries a space has, as its list tells
pub entries_len : (x : Space) (n : ℕ) → n ≡ length x.list → n ≡ len x
unfolding len
entries_len x n is = is

-- nothing is told of an answer but that it is none
pub if_none : {A : Type 0} (P : Type 0) (o : Option A) → P → IfNone o P
if_none P None holds = holds
if_none P (Some a) holds = tt

-- what code tells of an item
pub takes_so : (x : Space) (before : List Item) (item : Item) (named takes : Bool)
    → named ≡ is_named before item
    → takes ≡ takes_name x named item
    → one_if (takes_name x (is_named before item) item) ≡ one_if takes
takes_so x before item named takes is told =
    sym (ap one_if (told ∙ ap (λ b. takes_name x b item) is))

pub item_step : (x : Space) (before items : List Item) (i : ℕ) (item : Item) (left less room : ℕ)
    (named takes : Bool)
    → left + names_taken x before (take i items) ≡ room
    → i < length items
    → item ≡ get_or items i item
    → named ≡ is_named (before ++ take i items) item
    → takes ≡ takes_name x named item
    → less + one_if takes ≡ left
    → less + names_taken x before (take (i + 1) items) ≡ room
item_step x before items i item left less room named takes so_far here is by told step =
    let next = items_next x before items i item here is in
    let same = takes_so x (before ++ take i items) item named takes by told in
    omega arith

pub item_none : (x : Space) (before items : List Item) (i : ℕ) (item : Item) (left room : ℕ)
    (named takes : Bool)
    → left + names_taken x before (take i items) ≡ room
    → i < length items
    → item ≡ get_or items i item
    → named ≡ is_named (before ++ take i items) item
    → takes ≡ takes_name x named item
    → left < one_if takes
    → room < names_taken x before items
item_none x before items i item left room named takes so_far here is by told over =
    let same = takes_so x (before ++ take i items) item named takes by told in
    items_over x before items i item left room so_far here is (omega arith)

pub args_step : (x : Space) (before : List Item) (args : List QueuedArgument) (i : ℕ)
    (a : QueuedArgument) (left less room : ℕ)
    → left + names_taken x before (all_of (take i args)) ≡ room
    → i < length args
    → a ≡ get_or args i a
    → less + names_taken x (before ++ all_of (take i args)) (carried_by (queued_of a)) ≡ left
    → less + names_taken x before (all_of (take (i + 1) args)) ≡ room
args_step x before args i a left less room so_far here is step =
    let next = args_next x before args i a here is in
    omega arith
