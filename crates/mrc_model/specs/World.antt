-- Believe. The state of the machine: entries, spaces, ports with their queues, and tasks. From Mach
-- 3 Kernel Interfaces, "Ports" and "Messages". Ports are numbered in the order in which they are
-- made, and no number is used twice; a kernel reuses its slots. That is this profile's own choice,
-- as classes are.
use Rattle.std.specs.Prelude.{ℕ, ◌+◌, ◌^◌, Bool, List, [], ◌∷◌, ◌++◌, Option, unwrap_or, ◌==◌}
use Rattle.std.specs.Prelude.{nat_lt, if◌then◌else◌, option_map}
use Rattle.mrc_base.specs.declared.PortRight.{PortRight}
use Rattle.mrc_base.specs.declared.PortRight.TheVariants.{Send, Receive, SendOnce}
use Rattle.mrc_model.specs.declared.Entry.{Entry}
use Rattle.mrc_model.specs.declared.Entry.TheVariants.{Receive as ReceiveEntry, Send as SendEntry}
use Rattle.mrc_model.specs.declared.Entry.TheVariants.{SendOnce as OnceEntry, PortSet as SetEntry}
use Rattle.mrc_model.specs.declared.Entry.TheVariants.{DeadName as DeadEntry}
use Rattle.mrc_model.specs.declared.Item.{Item}
use Rattle.mrc_model.specs.declared.Item.TheVariants.{Null as NullItem, Dead as DeadItem}
use Rattle.mrc_model.specs.declared.Item.TheVariants.{Right as RightItem}
use Rattle.mrc_model.specs.declared.Backup.{Backup}
use Rattle.mrc_model.specs.Map.{Map, empty, get, insert, total}

-- What a task has under its names. For a port a space has at most one receive or send entry. A
-- receive entry also has the number of send references, and the set that the right is in. Which
-- maps of entries are spaces of a world is said by IsSpace (Space).
abbrev pub Space : Type 0
Space = Map Entry

-- an argument of a queued message: data as it was sent, or rights, all given as the same right
pub data QueuedArg : Type 0 where
  QueuedData : (name size number : ℕ) → (bytes : List ℕ) → QueuedArg
  QueuedItems : (right : PortRight) → (items : List Item) → QueuedArg

-- a queued message; `by_once` where it was sent through a send-once right
pub record Parcel : Type 0 where
  pub by_once : Bool
  pub id : ℕ
  pub reply : Item
  pub args : List QueuedArg

-- receipts are counted modulo this, as 32-bit numbers
abbrev pub modulus_of_receipts : ℕ
modulus_of_receipts = 2 ^ 32

-- a live port. `limit` is the queue's, and `receipts` the number of messages received, until the
-- receive right moves
pub record Port : Type 0 where
  pub class : ℕ
  pub queue : List Parcel
  pub backup : Backup
  pub limit : ℕ
  pub receipts : ℕ

-- MACH_PORT_NULL, the name that stands for no right
abbrev pub port_null : ℕ
port_null = 0

-- MACH_PORT_DEAD, the name that stands for a right on a dead port
abbrev pub port_dead : ℕ
port_dead = 0xffffffff

-- all spaces, by task, and all live ports, by birth number; `next` is the next birth number
pub record Store : Type 0 where
  pub next : ℕ
  pub spaces : Map Space
  pub ports : Map Port

-- A task: its kernel port, and the wired task whose class it has: a wired task its own, one that is
-- made at run time that of the task that it was made from.
pub record Task : Type 0 where
  pub alive : Bool
  pub kernel : ℕ
  pub class : ℕ

-- All tasks, by number, and the store. A number is a task's exactly where the map has it. Tasks get
-- the numbers 0, 1, 2 and so on, and one that has ended stays in the map, no longer alive: so the
-- next task's number is one above the last, no number is given twice, and no number needs to be
-- kept beside the map.
pub record World : Type 0 where
  pub tasks : Map Task
  pub store : Store

-- a right on a port
pub record Held : Type 0 where
  pub port : ℕ
  pub right : PortRight

-- a task with no space of its own has an empty one
abbrev pub space : Store → ℕ → Space
space s t = unwrap_or (get s.spaces t) empty

-- the store with this space of t
abbrev pub set_space : Store → ℕ → Space → Store
set_space s t x = record s { spaces = insert s.spaces t x }

-- the store with this port
abbrev pub set_port : Store → ℕ → Port → Store
set_port s p x = record s { ports = insert s.ports p x }

-- the class of a live port
abbrev pub class_of : Store → ℕ → Option ℕ
class_of s p = option_map (λ (x : Port). x.class) (get s.ports p)

-- the class of a task; a number that is no task stands for itself
abbrev pub task_class : World → ℕ → ℕ
task_class w t = unwrap_or (option_map (λ (x : Task). x.class) (get w.tasks t)) t

-- a send right, where there are references
abbrev pub if_sends : ℕ → ℕ → List Held
if_sends k p = if nat_lt 0 k then record { port = p; right = Send } ∷ [] else []

-- the rights that an entry shows: each once, whatever the number of references
abbrev pub entry_rights : Entry → List Held
entry_rights (ReceiveEntry p k i) = record { port = p; right = Receive } ∷ if_sends k p
entry_rights (SendEntry p k) = record { port = p; right = Send } ∷ []
entry_rights (OnceEntry p) = record { port = p; right = SendOnce } ∷ []
entry_rights SetEntry = []
entry_rights (DeadEntry k) = []

-- the rights that a message carries: its reply right and those of its arguments; null and dead
-- carry none
abbrev pub item_rights : Item → List Held
item_rights NullItem = []
item_rights DeadItem = []
item_rights (RightItem p r) = record { port = p; right = r } ∷ []

-- the same for a list of items
abbrev pub items_rights : List Item → List Held
items_rights [] = []
items_rights (x ∷ xs) = item_rights x ++ items_rights xs

-- the same for an argument
abbrev pub arg_rights : QueuedArg → List Held
arg_rights (QueuedData name size number bytes) = []
arg_rights (QueuedItems r xs) = items_rights xs

-- for the arguments of a message
abbrev pub args_rights : List QueuedArg → List Held
args_rights [] = []
args_rights (a ∷ more) = arg_rights a ++ args_rights more

-- for a message
abbrev pub parcel_rights : Parcel → List Held
parcel_rights m = item_rights m.reply ++ args_rights m.args

-- for a queue
abbrev pub queue_rights : List Parcel → List Held
queue_rights [] = []
queue_rights (m ∷ ms) = parcel_rights m ++ queue_rights ms

-- in how many places p's receive right is

-- 1 for the receive right of p
abbrev pub one_if_receive : ℕ → ℕ → PortRight → ℕ
one_if_receive p q Receive = if q == p then 1 else 0
one_if_receive p q Send = 0
one_if_receive p q SendOnce = 0

-- how many of these rights are p's receive right
abbrev pub receives : ℕ → List Held → ℕ
receives p [] = 0
receives p (h ∷ hs) = one_if_receive p h.port h.right + receives p hs

-- how many entries of the space have it
unfoldable pub space_receives : ℕ → Space → ℕ
space_receives p x = total (λ n e. receives p (entry_rights e)) x

-- how many entries and queued messages have it
unfoldable pub places : ℕ → Store → ℕ
places p s =
    total (λ t x. space_receives p x) s.spaces
    + total (λ q (x : Port). receives p (queue_rights x.queue)) s.ports
