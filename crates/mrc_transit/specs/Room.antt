-- Step. How many new names a message takes. From Mach 3 Kernel Interfaces, "Port rights": a send or
-- receive right gets the name of its port's entry, if there is one. That a space has at most 4,096
-- entries is this profile's own choice.
use Rattle.std.specs.Prelude.{ℕ, ◌+◌, Bool, true, false, not, ◌||◌, List, [], ◌∷◌, ◌++◌, ◌==◌}
use Rattle.std.specs.Prelude.{flat_map, is_some}
use Rattle.std.specs.List.{list_any}
use Rattle.mrc_base.specs.declared.PortRight.TheVariants.{Send, Receive, SendOnce}
use Rattle.mrc_model.specs.declared.Item.{Item}
use Rattle.mrc_model.specs.declared.Item.TheVariants.{Null as NullItem, Dead as DeadItem}
use Rattle.mrc_model.specs.declared.Item.TheVariants.{Right as RightItem}
use Rattle.mrc_model.specs.World.{Space, QueuedArg, QueuedData, QueuedItems, Parcel}
use Rattle.mrc_model.specs.Space.{entry_of}
use Rattle.mrc_model.specs.FirstHoldings.{one_if}

-- what an argument carries, in order
abbrev pub carried_by : QueuedArg → List Item
carried_by (QueuedData name size number bytes) = []
carried_by (QueuedItems r items) = items

-- all that a message carries, in the order in which it is given
abbrev pub carried : Parcel → List Item
carried m = m.reply ∷ flat_map carried_by m.args

-- a send or receive right on p
abbrev pub names_port : ℕ → Item → Bool
names_port p NullItem = false
names_port p DeadItem = false
names_port p (RightItem q Send) = q == p
names_port p (RightItem q Receive) = q == p
names_port p (RightItem q SendOnce) = false

-- one of these is a send or receive right on the item's port
abbrev pub is_named : List Item → Item → Bool
is_named before NullItem = false
is_named before DeadItem = false
is_named before (RightItem p r) = list_any (names_port p) before

-- the item takes a new name, where this tells whether one before it named its port
abbrev pub takes_name : Space → Bool → Item → Bool
takes_name x named NullItem = false
takes_name x named DeadItem = false
takes_name x named (RightItem p Send) = not (named || is_some (entry_of x p))
takes_name x named (RightItem p Receive) = not (named || is_some (entry_of x p))
takes_name x named (RightItem p SendOnce) = true

-- how many new names the items take, where those of the first list were given before
abbrev pub names_taken : Space → List Item → List Item → ℕ
names_taken x before [] = 0
names_taken x before (item ∷ items) =
    one_if (takes_name x (is_named before item) item)
    + names_taken x (before ++ item ∷ []) items
