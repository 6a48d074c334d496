-- Worked. How much room replies take, by computation: the values were worked out by hand.
use Rattle.std.proofs.Common.{◌≡◌, Bool, true, false, None, List, [], ◌∷◌, refl, arith}
use Rattle.mrc_model.specs.declared.Entry.TheVariants.{Receive as ReceiveEntry, Send as SendEntry}
use Rattle.mrc_model.specs.declared.Item.TheVariants.{Null as NullItem}
use Rattle.mrc_model.specs.Map.{empty, get, insert, len}
use Rattle.mrc_model.specs.World.{Parcel, World, QueuedData}
use Rattle.mrc_model.specs.Reply.{◌>>=◌, or_refuse}
use Rattle.mrc_model.specs.CallAllocate.{new_port}
use Rattle.mrc_transit.specs.Receiving.{next_size}
use Rattle.mrc_machine.specs.declared.call.Call.TheVariants.{Names, Receive, Terminate}
use Rattle.mrc_machine.specs.declared.reply.Reply.TheVariants as told
use Rattle.mrc_machine.specs.Rooms.{no_size, size_of_call, Fits}

-- one task, which has a send right to its kernel port under name 1 and receives under name 2, where
-- these messages wait
abbrev world : Bool → List Parcel → World
world alive queue = record {
  tasks = insert empty 0 (record { alive = alive; kernel = 0; class = 0 });
  store = record {
    next = 2;
    spaces = insert empty 0 (insert (insert empty 1 (SendEntry 0 1)) 2 (ReceiveEntry 1 0 None));
    ports = insert (insert empty 0 (new_port 0)) 1 (record (new_port 0) { queue = queue });
  };
}

-- a message of 24 bytes, and one of 24, 4 and 8
abbrev plain : Parcel
plain = record { by_once = false; id = 500; reply = NullItem; args = [] }

abbrev longer : Parcel
longer =
    record plain { args = QueuedData 2 32 2 (1 ∷ 0 ∷ 0 ∷ 0 ∷ 2 ∷ 0 ∷ 0 ∷ 0 ∷ []) ∷ [] }

-- the task has two names
names : size_of_call (world true []) 0 (Names 1) ≡ record { names = 2; bytes = 0 }
unfolding get insert empty len
names = refl

-- name 2 stands for no task
names_of_no_task : size_of_call (world true []) 0 (Names 2) ≡ no_size
unfolding get insert empty len
names_of_no_task = refl

-- a task that has ended asks for nothing, and there is no task 1
names_of_ended : size_of_call (world false []) 0 (Names 1) ≡ no_size
unfolding get insert empty
names_of_ended = refl

names_for_no_task : size_of_call (world true []) 1 (Names 1) ≡ no_size
unfolding get insert empty
names_for_no_task = refl

-- the first message counts
message : size_of_call (world true (longer ∷ plain ∷ [])) 0 (Receive 2 36)
    ≡ record { names = 0; bytes = 36 }
unfolding get insert empty next_size ◌>>=◌ or_refuse
message = refl

-- it is larger than the limit
too_large : size_of_call (world true (longer ∷ plain ∷ [])) 0 (Receive 2 35) ≡ no_size
unfolding get insert empty next_size ◌>>=◌ or_refuse
too_large = refl

-- no message waits, and name 1 receives nothing
no_message : size_of_call (world true []) 0 (Receive 2 8192) ≡ no_size
unfolding get insert empty next_size ◌>>=◌ or_refuse
no_message = refl

no_receive_right : size_of_call (world true []) 0 (Receive 1 8192) ≡ no_size
unfolding get insert empty next_size ◌>>=◌ or_refuse
no_receive_right = refl

-- other calls are answered neither
ends : size_of_call (world true (plain ∷ [])) 0 (Terminate 1) ≡ no_size
unfolding get insert empty
ends = refl

-- two names fit where there is room for two, and a message of no room fits nowhere
two_fit : Fits record { names = 2; bytes = 0 } (told.Names ((1, 0x10000) ∷ (2, 0x20000) ∷ []))
two_fit = omega arith

two_are_many : Fits record { names = 1; bytes = 9 }
    (told.Names ((1, 0x10000) ∷ (2, 0x20000) ∷ [])) → ⊥
two_are_many fits = omega (arith, fits)

refusals_fit : Fits no_size told.DeadTask
refusals_fit = tt
