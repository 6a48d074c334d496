-- Step. What sending and receiving leave of a port. From Mach 3 Kernel Interfaces, mach_msg. How
-- many messages may wait at most, whatever the limit of a queue says, is this profile's own choice:
-- memory has no room for as many.
use Rattle.std.specs.Prelude.{ℕ, ◌≤◌, ◌+◌, ◌%◌, ◌^◌, Bool, false, not, ◌&&◌, List, [], ◌∷◌}
use Rattle.std.specs.Prelude.{◌++◌, length, Option, Some, None, nat_le}
use Rattle.mrc_model.specs.declared.Item.TheVariants.{Null}
use Rattle.mrc_model.specs.Map.{Map, Each, get}
use Rattle.mrc_model.specs.World.{Parcel, Port, Store, modulus_of_receipts}
use Rattle.mrc_model.specs.CallReceive.{first_parcel}
use Rattle.mrc_ports.specs.Tables.{Table, with_port, table_of, store_of}

-- how many messages can not wait at a port
abbrev pub limit_of_waiting : ℕ
limit_of_waiting = 2 ^ 62

-- each queue has room for so many messages more
abbrev pub HaveRoom : ℕ → Map Port → Type 0
HaveRoom more ports = Each (λ p x. length x.queue + more ≤ limit_of_waiting) ports

-- the queue is at or above its limit, and the message was not sent through a send-once right
abbrev pub is_full_for : Port → Bool → Bool
is_full_for x by_once = not by_once && nat_le x.limit (length x.queue)

-- so many messages wait at the port that memory has no room for as many
abbrev pub is_out_of_room : Port → Bool
is_out_of_room x = nat_le limit_of_waiting (length x.queue)

-- the port with one message more
abbrev pub with_message : Port → Parcel → Port
with_message x m = record x { queue = x.queue ++ m ∷ [] }

-- the port with these messages left, after one was received
abbrev pub after_receipt : Port → List Parcel → Port
after_receipt x ms = record x { queue = ms; receipts = (x.receipts + 1) % modulus_of_receipts }

-- the message that is received, and the table after it
abbrev pub received_at : Table → ℕ → Port → Option (Parcel × List Parcel) → Option Parcel × Table
received_at t p x None = (None, t)
received_at t p x (Some (m, ms)) = (Some m, with_port t p (after_receipt x ms))

-- the same for the port of this number, if there is one
abbrev pub received_from : Table → ℕ → Option Port → Option Parcel × Table
received_from t p None = (None, t)
received_from t p (Some x) = received_at t p x (first_parcel x.queue)

-- the same for a store
abbrev pub received_by : Store → ℕ → Option Parcel × Store
received_by s p =
    let got = received_from (table_of s) p (get s.ports p) in (got.0, store_of s.spaces got.1)

-- a message without anything
abbrev pub blank : Parcel
blank = record { by_once = false; id = 0; reply = Null; args = [] }

-- the first message, and a blank one where there is none
abbrev pub first_or_blank : List Parcel → Parcel
first_or_blank [] = blank
first_or_blank (m ∷ ms) = m
