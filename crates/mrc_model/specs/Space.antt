-- Believe. Taking and giving rights; what a space is (`IsSpace`). From Mach 3 Kernel Interfaces,
-- "Port rights" and mach_port_insert_right. That a new name is the least unused one, and that a
-- space has at most 4,096 entries, is this profile's own choice.
use Rattle.mrc_base.specs.Limits.{limit_of_names, limit_of_references}
use Rattle.std.specs.Prelude.{◌≡◌, ℕ, ◌+◌, ◌-◌, ◌<◌, ◌≤◌, Bool, true, false, not, List, [], ◌∷◌}
use Rattle.std.specs.Prelude.{Option, Some, None, Ok, Err, ◌==◌, nat_lt, nat_le, if◌then◌else◌}
use Rattle.mrc_base.specs.declared.PortRight.{PortRight}
use Rattle.mrc_base.specs.declared.PortRight.TheVariants.{Send, Receive, SendOnce}
use Rattle.mrc_base.specs.declared.Disp.{Disp}
use Rattle.mrc_base.specs.declared.Disp.TheVariants.{MoveReceive, MoveSend, MoveSendOnce, CopySend}
use Rattle.mrc_base.specs.declared.Disp.TheVariants.{MakeSend, MakeSendOnce}
use Rattle.mrc_base.specs.Disposition.{given}
use Rattle.mrc_model.specs.declared.Entry.{Entry}
use Rattle.mrc_model.specs.declared.Entry.TheVariants.{Receive as ReceiveEntry, Send as SendEntry}
use Rattle.mrc_model.specs.declared.Entry.TheVariants.{SendOnce as OnceEntry, PortSet as SetEntry}
use Rattle.mrc_model.specs.declared.Entry.TheVariants.{DeadName as DeadEntry}
use Rattle.mrc_model.specs.declared.Item.{Item}
use Rattle.mrc_model.specs.declared.Item.TheVariants.{Null as NullItem, Dead as DeadItem}
use Rattle.mrc_model.specs.declared.Item.TheVariants.{Right as RightItem}
use Rattle.mrc_model.specs.declared.Code.TheVariants.{KernNameExists, KernRightExists}
use Rattle.mrc_model.specs.declared.Code.TheVariants.{KernUrefsOverflow, KernNoSpace}
use Rattle.mrc_model.specs.Rights.{is_receive}
use Rattle.mrc_model.specs.Map.{get, insert, remove, alter_all, len}
use Rattle.mrc_model.specs.World.{Space, Port, Store, space, set_space, set_port, port_null}
use Rattle.mrc_model.specs.World.{port_dead}
use Rattle.mrc_model.specs.Reply.{Try, Reply, Refused, ◌>>=◌, ◌>>◌, check, refuse_if, or_refuse}

-- what is left of a port's entry with these send references alone: nothing where there are none
abbrev pub send_entry : ℕ → ℕ → Option Entry
send_entry p k = if nat_lt 0 k then Some (SendEntry p k) else None

-- a dead name with so many references: nothing where there are none
abbrev pub dead_entry : ℕ → Option Entry
dead_entry k = if nat_lt 0 k then Some (DeadEntry k) else None

-- a right that an entry gives up by a disposition: its port, and what is left of the entry
pub record Taken : Type 0 where
  pub port : ℕ
  pub rest : Option Entry

-- a right on p, and what is left
abbrev pub taken : ℕ → Option Entry → Taken
taken p e = record { port = p; rest = e }

-- what each disposition takes of an entry; None where the entry lacks the right that it needs
abbrev pub take_from : Entry → Disp → Option Taken
take_from (ReceiveEntry p k i) MoveReceive = Some (taken p (send_entry p k))
take_from (ReceiveEntry p k i) MoveSend =
    if nat_lt 0 k then Some (taken p (Some (ReceiveEntry p (k - 1) i))) else None
take_from (ReceiveEntry p k i) MoveSendOnce = None
take_from (ReceiveEntry p k i) CopySend =
    if nat_lt 0 k then Some (taken p (Some (ReceiveEntry p k i))) else None
take_from (ReceiveEntry p k i) MakeSend = Some (taken p (Some (ReceiveEntry p k i)))
take_from (ReceiveEntry p k i) MakeSendOnce = Some (taken p (Some (ReceiveEntry p k i)))
take_from (SendEntry p k) MoveReceive = None
take_from (SendEntry p k) MoveSend = Some (taken p (send_entry p (k - 1)))
take_from (SendEntry p k) MoveSendOnce = None
take_from (SendEntry p k) CopySend = Some (taken p (Some (SendEntry p k)))
take_from (SendEntry p k) MakeSend = None
take_from (SendEntry p k) MakeSendOnce = None
take_from (OnceEntry p) MoveReceive = None
take_from (OnceEntry p) MoveSend = None
take_from (OnceEntry p) MoveSendOnce = Some (taken p None)
take_from (OnceEntry p) CopySend = None
take_from (OnceEntry p) MakeSend = None
take_from (OnceEntry p) MakeSendOnce = None
take_from SetEntry x = None
take_from (DeadEntry k) x = None

-- the name holds this from here on
abbrev pub put_entry : Space → ℕ → Option Entry → Space
put_entry x n None = remove x n
put_entry x n (Some e) = insert x n e

-- the port's receipts become 0; nothing where it is absent
abbrev pub restart_port : Store → ℕ → Option Port → Store
restart_port s p None = s
restart_port s p (Some x) = set_port s p (record x { receipts = 0 })

-- the same for the port of this number
unfoldable pub restart : Store → ℕ → Store
restart s p = restart_port s p (get s.ports p)

-- the same where the test holds
abbrev pub restart_if : Bool → Store → ℕ → Store
restart_if true s p = restart s p
restart_if false s p = s

-- The store after the taking, and the right's port; or the first refusal where the name has no
-- entry, the second where the entry lacks the right. A receive right that is moved restarts its
-- port's receipts.
unfoldable pub take : Store → ℕ → ℕ → Disp → Reply → Reply → Try (Store × ℕ)
take s t n x bad_name wrong_right = do
  e ← or_refuse (get (space s t) n) bad_name
  got ← or_refuse (take_from e x) wrong_right
  let s1 = set_space s t (put_entry (space s t) n got.rest)
  Ok (restart_if (is_receive (given x)) s1 got.port, got.port)

-- the least number from k on that is no key
abbrev pub least_from : {X : Type 0} → ℕ → List (ℕ × X) → ℕ
least_from k [] = k
least_from k (e ∷ es) =
    if e.0 == k then least_from (k + 1) es else if nat_lt e.0 k then least_from k es else k

-- the least unused name from 1
unfoldable pub unused : Space → ℕ
unused x = least_from 1 x.list

-- the entry is p's receive or send entry
abbrev pub is_entry_of : ℕ → Entry → Bool
is_entry_of p (ReceiveEntry q k i) = q == p
is_entry_of p (SendEntry q k) = q == p
is_entry_of p (OnceEntry q) = false
is_entry_of p SetEntry = false
is_entry_of p (DeadEntry k) = false

-- the first of these entries that is p's
abbrev pub first_entry : ℕ → List (ℕ × Entry) → Option (ℕ × Entry)
first_entry p [] = None
first_entry p (e ∷ es) = if is_entry_of p e.1 then Some e else first_entry p es

-- the port's receive or send entry, with its name
unfoldable pub entry_of : Space → ℕ → Option (ℕ × Entry)
entry_of x p = first_entry p x.list

-- an entry for one right
abbrev pub new_entry : ℕ → PortRight → Entry
new_entry p Send = SendEntry p 1
new_entry p Receive = ReceiveEntry p 0 None
new_entry p SendOnce = OnceEntry p

-- one send reference more; above the limit it is dropped
abbrev pub one_more : ℕ → ℕ
one_more k = if nat_lt k limit_of_references then k + 1 else k

-- a send or receive right joins the port's entry
abbrev pub joined : Entry → PortRight → Entry
joined (ReceiveEntry p k i) Send = ReceiveEntry p (one_more k) i
joined (ReceiveEntry p k i) Receive = ReceiveEntry p k None
joined (ReceiveEntry p k i) SendOnce = ReceiveEntry p k i
joined (SendEntry p k) Send = SendEntry p (one_more k)
joined (SendEntry p k) Receive = ReceiveEntry p k None
joined (SendEntry p k) SendOnce = SendEntry p k
joined (OnceEntry p) x = OnceEntry p
joined SetEntry x = SetEntry
joined (DeadEntry k) x = DeadEntry k

-- a space, and the name under which a right was given
pub record Placed : Type 0 where
  pub space : Space
  pub name : ℕ

-- the right takes the least unused name
abbrev pub place_new : Space → ℕ → PortRight → Placed
place_new x p r = record { space = insert x (unused x) (new_entry p r); name = unused x }

-- the right joins the entry, if there is one
abbrev pub place_at : Space → ℕ → PortRight → Option (ℕ × Entry) → Placed
place_at x p r None = place_new x p r
place_at x p r (Some e) = record { space = insert x e.0 (joined e.1 r); name = e.0 }

-- a right is given: send and receive join the port's entry, else each takes a new name
abbrev pub place : Space → ℕ → PortRight → Placed
place x p Send = place_at x p Send (entry_of x p)
place x p Receive = place_at x p Receive (entry_of x p)
place x p SendOnce = place_new x p SendOnce

-- a task is given what a message carries, under this name: MACH_PORT_NULL for null, and
-- MACH_PORT_DEAD for a right on a dead port
unfoldable pub give_item : Store → ℕ → Item → Store × ℕ
give_item s t NullItem = (s, port_null)
give_item s t DeadItem = (s, port_dead)
give_item s t (RightItem p r) =
    let got = place (space s t) p r in (set_space s t got.space, got.name)

-- the space has as many entries as it may have, or more
abbrev pub is_full : Space → Bool
is_full x = nat_le limit_of_names (len x)

-- the space has more entries than it may have
abbrev pub is_over_full : Space → Bool
is_over_full x = nat_lt limit_of_names (len x)

-- the entry has another name than n
abbrev pub is_other : ℕ → Option (ℕ × Entry) → Bool
is_other n None = false
is_other n (Some e) = not (e.0 == n)

-- one more send reference would be above the limit
abbrev pub overflows : Entry → PortRight → Bool
overflows (ReceiveEntry p k i) Send = nat_le limit_of_references k
overflows (ReceiveEntry p k i) Receive = false
overflows (ReceiveEntry p k i) SendOnce = false
overflows (SendEntry p k) Send = nat_le limit_of_references k
overflows (SendEntry p k) Receive = false
overflows (SendEntry p k) SendOnce = false
overflows (OnceEntry p) r = false
overflows SetEntry r = false
overflows (DeadEntry k) r = false

-- A right is put under a name of the caller's choice. A send-once right wants an unused name; a
-- send or receive right may join the port's entry, and has to where there is one. A full space
-- takes neither.
abbrev pub insert_new : Space → ℕ → ℕ → PortRight → Option Entry → Try Space
insert_new x n p r (Some e) = Err (Refused KernNameExists)
insert_new x n p r None = do
  refuse_if (is_full x) (Refused KernNoSpace)
  Ok (insert x n (new_entry p r))

-- the right joins the port's entry under the name, or takes the unused name
abbrev pub insert_joined : Space → ℕ → ℕ → PortRight → Option Entry → Try Space
insert_joined x n p r None = insert_new x n p r None
insert_joined x n p r (Some e) = do
  check (is_entry_of p e) (Refused KernNameExists)
  refuse_if (overflows e r) (Refused KernUrefsOverflow)
  refuse_if (is_full x) (Refused KernNoSpace)
  Ok (insert x n (joined e r))

-- the same, where the port has no entry under another name
abbrev pub insert_known : Space → ℕ → ℕ → PortRight → Try Space
insert_known x n p r = do
  refuse_if (is_other n (entry_of x p)) (Refused KernRightExists)
  insert_joined x n p r (get x n)

-- the same for each right
unfoldable pub insert_at : Space → ℕ → ℕ → PortRight → Try Space
insert_at x n p Send = insert_known x n p Send
insert_at x n p Receive = insert_known x n p Receive
insert_at x n p SendOnce = insert_new x n p SendOnce (get x n)

-- port sets

-- the entry is a port set
abbrev pub is_set : Entry → Bool
is_set (ReceiveEntry p k i) = false
is_set (SendEntry p k) = false
is_set (OnceEntry p) = false
is_set SetEntry = true
is_set (DeadEntry k) = false

-- members of the set leave it
abbrev pub without_set : ℕ → Option ℕ → Option ℕ
without_set n None = None
without_set n (Some m) = if m == n then None else Some m

-- an entry, out of the set n
abbrev pub outside : ℕ → ℕ → Entry → Option Entry
outside n k (ReceiveEntry p s i) = Some (ReceiveEntry p s (without_set n i))
outside n k (SendEntry p s) = Some (SendEntry p s)
outside n k (OnceEntry p) = Some (OnceEntry p)
outside n k SetEntry = Some SetEntry
outside n k (DeadEntry s) = Some (DeadEntry s)

-- the members of the set n leave it, if it goes
abbrev pub members_leave : Bool → ℕ → Space → Space
members_leave true n x = alter_all (outside n) x
members_leave false n x = x

-- members of a set that is renamed stay members
abbrev pub renamed_set : ℕ → ℕ → Option ℕ → Option ℕ
renamed_set old new None = None
renamed_set old new (Some m) = if m == old then Some new else Some m

-- an entry of the space, after the set old got the name new
abbrev pub in_renamed : ℕ → ℕ → ℕ → Entry → Option Entry
in_renamed old new k (ReceiveEntry p s i) = Some (ReceiveEntry p s (renamed_set old new i))
in_renamed old new k (SendEntry p s) = Some (SendEntry p s)
in_renamed old new k (OnceEntry p) = Some (OnceEntry p)
in_renamed old new k SetEntry = Some SetEntry
in_renamed old new k (DeadEntry s) = Some (DeadEntry s)

-- the members of the set old are members of the set new, if it was a set that got this name
abbrev pub members_follow : Bool → ℕ → ℕ → Space → Space
members_follow true old new x = alter_all (in_renamed old new) x
members_follow false old new x = x

-- what a space is

-- an entry has no more references than it may have, and a send entry and a dead name have one at
-- least
abbrev pub IsEntry : Entry → Type 0
IsEntry (ReceiveEntry p k i) = k ≤ limit_of_references
IsEntry (SendEntry p k) = (0 < k) × (k ≤ limit_of_references)
IsEntry (OnceEntry p) = Unit {0}
IsEntry SetEntry = Unit {0}
IsEntry (DeadEntry k) = (0 < k) × (k ≤ limit_of_references)

-- the set that an entry's receive right is in
abbrev pub set_of : Entry → Option ℕ
set_of (ReceiveEntry p k i) = i
set_of (SendEntry p k) = None
set_of (OnceEntry p) = None
set_of SetEntry = None
set_of (DeadEntry k) = None

-- What each space is, at all times: its entries have numbers of references that they may have, and
-- the set that a receive right is in is a set of the same space. How many entries there are is no
-- part of it, since a received message is counted only when all its rights are given.
pub record IsSpace (x : Space) : Type 0 where
  pub entries : (n : ℕ) (e : Entry) → get x n ≡ Some e → IsEntry e
  pub sets : (n m : ℕ) (e : Entry) → get x n ≡ Some e → set_of e ≡ Some m → get x m ≡ Some SetEntry
