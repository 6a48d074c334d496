-- Giving never makes a space smaller, so what is too much stays too much.
use Rattle.std.proofs.Common.{◌≡◌, ℕ, ◌≤◌, List, [], ◌∷◌, Option, Some, None, true}
use Rattle.std.proofs.Common.{sym, subst, arith}
use Rattle.std.proofs.lemmas.Bool.{ltb-true, lt-ltb}
use Rattle.mrc_base.specs.Limits.{limit_of_names}
use Rattle.mrc_base.specs.declared.PortRight.{PortRight}
use Rattle.mrc_base.specs.declared.PortRight.TheVariants.{Send, Receive, SendOnce}
use Rattle.mrc_model.specs.declared.Entry.{Entry}
use Rattle.mrc_model.specs.declared.Item.{Item}
use Rattle.mrc_model.specs.declared.Item.TheVariants.{Right as RightItem, Null as NullItem}
use Rattle.mrc_model.specs.declared.Item.TheVariants.{Dead as DeadItem}
use Rattle.mrc_model.specs.Map.{Map, get, insert, len}
use Rattle.mrc_model.specs.World.{Space, Store, QueuedArg, QueuedData, QueuedItems, Parcel, space}
use Rattle.mrc_model.specs.Space.{give_item, is_over_full, place, place_at, entry_of}
use Rattle.mrc_model.specs.CallReceive.{give_items, give_arg, give_args, received}
use Rattle.mrc_model.proofs.Maps.{at_or_0, len-insert}
use Rattle.mrc_model.proofs.Spaces.{space-set_same}

-- a value more makes no map smaller
one_at_most : {X : Type 0} (k : ℕ) (o : Option X) → at_or_0 (λ q y. 1) k o ≤ 1
one_at_most k None = omega arith
one_at_most k (Some v) = omega arith

len_put : {X : Type 0} (m : Map X) (k : ℕ) (v : X) → len m ≤ len (insert m k v)
len_put m k v = omega (arith, len-insert m k v, one_at_most k (get m k))

-- nor does a right
at_grows : (x : Space) (p : ℕ) (r : PortRight) (o : Option (ℕ × Entry))
    → len x ≤ len (place_at x p r o).space
at_grows x p r None = len_put x _ _
at_grows x p r (Some e) = len_put x _ _

place_grows : (x : Space) (p : ℕ) (r : PortRight) → len x ≤ len (place x p r).space
place_grows x p Send = at_grows x p Send (entry_of x p)
place_grows x p Receive = at_grows x p Receive (entry_of x p)
place_grows x p SendOnce = len_put x _ _

-- what a task is given
item_grows : (t : ℕ) (s : Store) (item : Item)
    → len (space s t) ≤ len (space (give_item s t item).0 t)
unfolding give_item
item_grows t s NullItem = omega arith
item_grows t s DeadItem = omega arith
item_grows t s (RightItem p r) =
    subst (λ (y : Space). len (space s t) ≤ len y)
    (sym (space-set_same s t (place (space s t) p r).space)) (place_grows (space s t) p r)

items_grow : (t : ℕ) (s : Store) (items : List Item)
    → len (space s t) ≤ len (space (give_items t s items).0 t)
items_grow t s [] = omega arith
items_grow t s (x ∷ xs) =
    omega (arith, item_grows t s x, items_grow t (give_item s t x).0 xs)

arg_grows : (t : ℕ) (s : Store) (a : QueuedArg)
    → len (space s t) ≤ len (space (give_arg t s a).0 t)
arg_grows t s (QueuedData name size number bytes) = omega arith
arg_grows t s (QueuedItems r items) = items_grow t s items

args_grow : (t : ℕ) (s : Store) (args : List QueuedArg)
    → len (space s t) ≤ len (space (give_args t s args).0 t)
args_grow t s [] = omega arith
args_grow t s (a ∷ more) =
    omega (arith, arg_grows t s a, args_grow t (give_arg t s a).0 more)

-- too many entries stay too many
over_kept : (x y : Space) → is_over_full x ≡ true → len x ≤ len y → is_over_full y ≡ true
over_kept x y over grows =
    lt-ltb limit_of_names (len y) (omega (arith, ltb-true limit_of_names (len x) over, grows))

-- after one item, an argument, or the reply port's right
pub over_items : (t : ℕ) (s : Store) (x : Item) (xs : List Item)
    → is_over_full (space (give_item s t x).0 t) ≡ true
    → is_over_full (space (give_items t s (x ∷ xs)).0 t) ≡ true
over_items t s x xs over = over_kept _ _ over (items_grow t (give_item s t x).0 xs)

pub over_args : (t : ℕ) (s : Store) (a : QueuedArg) (more : List QueuedArg)
    → is_over_full (space (give_arg t s a).0 t) ≡ true
    → is_over_full (space (give_args t s (a ∷ more)).0 t) ≡ true
over_args t s a more over = over_kept _ _ over (args_grow t (give_arg t s a).0 more)

pub over_reply : (t : ℕ) (s : Store) (name receipts : ℕ) (m : Parcel)
    → is_over_full (space (give_item s t m.reply).0 t) ≡ true
    → is_over_full (space (received s t name receipts m).0 t) ≡ true
unfolding received
over_reply t s name receipts m over =
    over_kept _ _ over (args_grow t (give_item s t m.reply).0 m.args)
