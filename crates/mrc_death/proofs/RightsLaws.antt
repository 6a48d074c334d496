-- Rights that are put behind others, part by part.
use Rattle.std.proofs.Common.{◌≡◌, ℕ, ◌+◌, ◌<◌, ◌≤◌, List, [], ◌∷◌, ◌++◌, refl, length}
use Rattle.std.proofs.Common.{get_or, drop, map, sym, ◌∙◌, ap}
use Rattle.std.proofs.lemmas.List.{at_drop_more, at_drop_all, append_assoc}
use Rattle.mrc_model.specs.declared.Item.{Item}
use Rattle.mrc_model.specs.World.{Parcel, Port, Held, item_rights, args_rights, parcel_rights}
use Rattle.mrc_model.specs.World.{queue_rights}
use Rattle.mrc_model.specs.Death.{queued_on}
use Rattle.mrc_map.proofs.Walks.{since, from_first}
use Rattle.mrc_ports.specs.declared.parcel.QueuedArgument.{QueuedArgument}
use Rattle.mrc_ports.specs.Parcels.{queued_of}
use Rattle.mrc_death.specs.Rights.{rights_in}

-- what a message carries: its reply right, then those of its arguments
pub message_pushed : (m : Parcel) (reply : Item) (xs : List QueuedArgument)
    (old mid new : List Held)
    → reply ≡ m.reply
    → map queued_of xs ≡ m.args
    → mid ≡ old ++ item_rights reply
    → new ≡ mid ++ args_rights (map queued_of xs)
    → new ≡ old ++ parcel_rights m
message_pushed m reply xs old mid new r a one two =
    let args = args_rights (map queued_of xs) in
    two ∙ ap (λ hs. hs ++ args) one
    ∙ append_assoc old (item_rights reply) args
    ∙ ap (λ hs. old ++ (item_rights reply ++ hs)) (ap args_rights a)
    ∙ ap (λ x. old ++ (item_rights x ++ args_rights m.args)) r

-- one message more of a queue
pub queue_pushed : (ms : List Parcel) (all old new : List Held) (i j : ℕ) (m : Parcel)
    → i < length ms
    → m ≡ get_or ms i m
    → j ≡ i + 1
    → old ++ queue_rights (drop i ms) ≡ all
    → new ≡ old ++ parcel_rights m
    → new ++ queue_rights (drop j ms) ≡ all
queue_pushed ms all old new i j m h is next so_far pushed =
    let rest = queue_rights (drop (i + 1) ms) in
    ap (λ hs. hs ++ queue_rights (drop j ms)) pushed
    ∙ ap (λ k. (old ++ parcel_rights m) ++ queue_rights (drop k ms)) next
    ∙ append_assoc old (parcel_rights m) rest
    ∙ ap (λ hs. old ++ hs)
    (ap (λ x. parcel_rights x ++ rest) is ∙ sym (at_drop_more queue_rights ms i m h))
    ∙ so_far

nothing_behind : (hs : List Held) → hs ++ [] ≡ hs
nothing_behind [] = refl
nothing_behind (h ∷ hs) = ap (λ r. h ∷ r) (nothing_behind hs)

-- all messages of a queue
pub queue_done : (ms : List Parcel) (all old : List Held) (i : ℕ)
    → length ms ≤ i
    → old ++ queue_rights (drop i ms) ≡ all
    → old ≡ all
queue_done ms all old i h so_far =
    sym (nothing_behind old) ∙ ap (λ hs. old ++ hs) (sym (at_drop_all queue_rights ms i h)) ∙ so_far

-- the rights that are queued on the ports of a set
pub all_queued : (dead : List ℕ) (es : List (ℕ × Port))
    → since (λ p x. rights_in x) dead 0 es ≡ queued_on dead es
all_queued dead [] = refl
all_queued dead (e ∷ es) = λ i.
    from_first (λ p (x : Port). rights_in x) dead e i ++ all_queued dead es i
