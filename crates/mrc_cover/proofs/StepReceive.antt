-- receive keeps a world well formed and covered. New is that the receiver holds what the message
-- carried. It has the receive right of the queue's port, so the facts come by K6.
use Rattle.std.proofs.Common.{List, None, Option, Some, T, [], ap, arith, inl, inr, not, refl}
use Rattle.std.proofs.Common.{subst, sym, ℕ, ◌%◌, ◌&&◌, ◌++◌, ◌+◌, ◌^◌, ◌∙◌, ◌∷◌, ◌≡◌}
use Rattle.std.proofs.lemmas.Bool.{cases_eq, ltb-false}
use Rattle.mrc_base.specs.declared.Fact.TheVariants.{Hold}
use Rattle.mrc_base.specs.declared.PortRight.TheVariants.{Receive}
use Rattle.mrc_model.proofs.Maps.{find_here, find_later, not_None, same_Some}
use Rattle.mrc_model.proofs.Tries.{Gives, bind, bind_, found, gives_err, gives_ok, not_refused}
use Rattle.mrc_model.specs.CallReceive.{Source, call_receive, first_parcel, first_ready, give_arg}
use Rattle.mrc_model.specs.CallReceive.{give_args, give_items, is_empty_queue, is_member, or_source}
use Rattle.mrc_model.specs.CallReceive.{ready_member, received, source_at}
use Rattle.mrc_model.specs.Covers.{Known}
use Rattle.mrc_model.specs.Death.{has}
use Rattle.mrc_model.specs.Map.{get}
use Rattle.mrc_model.specs.Rising.{find_key, is_rising, right_holds}
use Rattle.mrc_model.specs.Rules.{FactSet}
use Rattle.mrc_model.specs.Space.{give_item, is_over_full}
use Rattle.mrc_model.specs.Step.{step}
use Rattle.mrc_model.specs.Wiring.{Wiring}
use Rattle.mrc_model.specs.World.{Held, Parcel, Port, QueuedArg, QueuedData, QueuedItems, Space}
use Rattle.mrc_model.specs.World.{Store, World, arg_rights, args_rights, class_of, item_rights}
use Rattle.mrc_model.specs.World.{items_rights, parcel_rights, queue_rights, receives, set_port}
use Rattle.mrc_model.specs.World.{space, task_class}
use Rattle.mrc_model.specs.declared.Entry.{Entry}
use Rattle.mrc_model.specs.declared.Entry.TheVariants.{DeadName as DeadEntry, SendOnce as OnceEntry}
use Rattle.mrc_model.specs.declared.Entry.TheVariants.{Receive as ReceiveEntry, Send as SendEntry}
use Rattle.mrc_model.specs.declared.Entry.TheVariants.{PortSet as SetEntry}
use Rattle.mrc_model.specs.declared.Item.{Item}
use Rattle.mrc_cover.proofs.Entries.{if_some}
use Rattle.mrc_cover.proofs.Giving.{give_item_leaves}
use Rattle.mrc_cover.proofs.Kept.{IsAlive, Keeps, Kept, keeps_with}
use Rattle.mrc_cover.proofs.Obeyed.{Obeys, obeys}
use Rattle.mrc_cover.proofs.Rights.{Known-along, Known-first, Known-more, Known-second, MayHold}
use Rattle.mrc_cover.proofs.Rights.{receives-append}
use Rattle.mrc_cover.proofs.Sound.{ChangesOnly, Leaves, SoundWith, changes_nothing, changes_then}
use Rattle.mrc_cover.proofs.Sound.{leaves_then, regroup_hand, set_port_changes, set_port_sound}
use Rattle.mrc_cover.proofs.Stores.{live_class}

-- a change of fewer spaces
pub changes_weaker : {A B : ℕ → Type 0} {s z : Store} → ((t : ℕ) → A t → B t) → ChangesOnly A s z
    → ChangesOnly B s z
changes_weaker step a =
    record { classes = a.classes; next = a.next; others = λ t n. a.others t (λ h. n (step t h)) }

module _ (W : Wiring) (G : FactSet) (task : ℕ → ℕ) (t : ℕ) where
  -- the task may hold these rights
  abbrev pub Mine : Store → List Held → Type 0
  Mine s hs = Known (class_of s) (MayHold G (task t)) hs

  -- the items of an argument
  items_given : (s : Store) (hand : List Held) (xs : List Item)
      → SoundWith W G task s (items_rights xs ++ hand)
      → Mine s (items_rights xs) → Leaves W G task (λ u. u ≡ t) s hand (give_items t s xs).0
  items_given s hand [] sound known = record { sound = sound; changes = changes_nothing _ s }
  items_given s hand (x ∷ xs) sound known =
      let a = give_item_leaves W G task (λ u. u ≡ t) s (items_rights xs ++ hand) t x refl
      (regroup_hand (item_rights x) (items_rights xs) hand sound)
      (Known-first (item_rights x) (items_rights xs) known) in
      let b = items_given (give_item s t x).0 hand xs a.sound
      (Known-along a.changes.classes (Known-second (item_rights x) (items_rights xs) known)) in
      leaves_then a.changes b

  -- an argument
  arg_given : (s : Store) (hand : List Held) (x : QueuedArg)
      → SoundWith W G task s (arg_rights x ++ hand)
      → Mine s (arg_rights x) → Leaves W G task (λ u. u ≡ t) s hand (give_arg t s x).0
  arg_given s hand (QueuedData name size number bytes) sound known =
      record { sound = sound; changes = changes_nothing _ s }
  arg_given s hand (QueuedItems r xs) sound known = items_given s hand xs sound known

  -- all arguments
  args_given : (s : Store) (hand : List Held) (xs : List QueuedArg)
      → SoundWith W G task s (args_rights xs ++ hand)
      → Mine s (args_rights xs) → Leaves W G task (λ u. u ≡ t) s hand (give_args t s xs).0
  args_given s hand [] sound known = record { sound = sound; changes = changes_nothing _ s }
  args_given s hand (x ∷ xs) sound known =
      let a = arg_given s (args_rights xs
      ++ hand) x (regroup_hand (arg_rights x) (args_rights xs) hand sound)
      (Known-first (arg_rights x) (args_rights xs) known) in
      let b = args_given (give_arg t s x).0 hand xs a.sound
      (Known-along a.changes.classes (Known-second (arg_rights x) (args_rights xs) known)) in
      leaves_then a.changes b

  -- the reply right and all arguments
  pub received_given : (s : Store) (hand : List Held) (name receipts : ℕ) (m : Parcel)
      → SoundWith W G task s (parcel_rights m ++ hand) → Mine s (parcel_rights m)
      → Leaves W G task (λ u. u ≡ t) s hand (received s t name receipts m).0
  unfolding received
  received_given s hand name receipts m sound known =
      let a = give_item_leaves W G task (λ u. u ≡ t) s (args_rights m.args ++ hand) t m.reply refl
      (regroup_hand (item_rights m.reply) (args_rights m.args) hand sound)
      (Known-first (item_rights m.reply) (args_rights m.args) known) in
      let b = args_given (give_item s t m.reply).0 hand m.args a.sound
      (Known-along a.changes.classes
      (Known-second (item_rights m.reply) (args_rights m.args) known)) in
      leaves_then a.changes b

-- a name of the port's receive right
pub record IsSource (x : Space) (from : Source) : Type 0 where
  pub sends : ℕ
  pub in_set : Option ℕ
  pub at : get x from.name ≡ Some (ReceiveEntry from.port sends in_set)

-- a member with a message has the receive right
ready_is : (s : Store) (n : ℕ) (e : Entry) (p : ℕ) → ready_member s n e ≡ Some p
    → (k : ℕ) × (i : Option ℕ) × (e ≡ ReceiveEntry p k i)
ready_is s n (ReceiveEntry q k i) p z =
    let (has, same) = if_some (is_member n i && not (is_empty_queue (get s.ports q))) q p z in
    (k, i, ap (λ v. ReceiveEntry v k i) same)
ready_is s n (SendEntry q k) p z = absurd (not_None p (sym z))
ready_is s n (OnceEntry q) p z = absurd (not_None p (sym z))
ready_is s n SetEntry p z = absurd (not_None p (sym z))
ready_is s n (DeadEntry k) p z = absurd (not_None p (sym z))

-- the member that the search ends at has it
ready_found : (s : Store) (n low : ℕ) (es : List (ℕ × Entry)) (from : Source) → T (is_rising low es)
    → first_ready s n es ≡ Some from
    → (k : ℕ) × (i : Option ℕ) × (find_key from.name es ≡ Some (ReceiveEntry from.port k i))
ready_found s n low [] from r z = absurd (not_None from (sym z))
ready_found s n low (e ∷ es) from r z =
    let go : (o : Option ℕ) → ready_member s n e.1 ≡ o
    → or_source e.0 o (first_ready s n es) ≡ Some from
    → (k : ℕ) × (i : Option ℕ) × (find_key from.name (e ∷ es) ≡ Some (ReceiveEntry from.port k i)) =
    elim [
      | None ↦ λ a b.
          let rest = ready_found s n (e.0 + 1) es from (right_holds _ _ r) b in
          (rest.0, rest.1, find_later low e es from.name _ r rest.2)
      | Some p ↦ λ a b.
          let (k, i, is) = ready_is s n e.1 p a in
          let mid : Source = record { name = e.0; port = p } in
          let same : mid ≡ from = same_Some mid from b in
          subst (λ (v : Source). (k : ℕ) × (i : Option ℕ) ×
          (find_key v.name (e ∷ es) ≡ Some (ReceiveEntry v.port k i))) same
          (k, i, find_here e es ∙ ap (λ v. Some v) is)
    ] in
    go (ready_member s n e.1) refl z

-- the same for the whole space
first_ready_is : (s : Store) (n : ℕ) (x : Space) (from : Source)
    → first_ready s n x.list ≡ Some from → IsSource x from
unfolding get
first_ready_is s n x from z = let r = ready_found s n 0 x.list from x.rising z in
    record { sends = r.0; in_set = r.1; at = r.2 }

-- where a message is received from, the receiver has the receive right
source_is : (s : Store) (t n : ℕ) (o : Option Entry) → get (space s t) n ≡ o
    → Gives (IsSource (space s t)) (source_at s t n o)
source_is s t n None is = gives_err _ _
source_is s t n (Some (SendEntry p k)) is = gives_err _ _
source_is s t n (Some (ReceiveEntry p k (Some i))) is = gives_err _ _
source_is s t n (Some (ReceiveEntry p k None)) is =
    gives_ok record { sends = k; in_set = None; at = is }
source_is s t n (Some (OnceEntry p)) is = gives_err _ _
source_is s t n (Some SetEntry) is = record {
  holds = λ from z. first_ready_is s n (space s t) from
      ((found (first_ready s n (space s t).list) _).holds from z);
}
source_is s t n (Some (DeadEntry k)) is = gives_err _ _

-- the first message of a queue, and the rest
first_is : (ms : List Parcel) (r : Parcel × List Parcel) → first_parcel ms ≡ Some r → ms ≡ r.0 ∷ r.1
first_is [] r z = absurd (not_None r (sym z))
first_is (m ∷ ms) r z =
    let same : ◌≡◌ {A = Parcel × List Parcel} (m, ms) r = same_Some (m, ms) r z in
    ap (λ (v : Parcel × List Parcel). v.0 ∷ v.1) same

module _ (W : Wiring) (G : FactSet) where
  -- what the message carried, its receiver may hold (K6)
  pub receive_keeps : Obeys W G → (w : World) (t name limit : ℕ) → IsAlive w t → Kept W G w
      → Keeps W G (call_receive w t name limit)
  unfolding call_receive
  receive_keeps obeys w t name limit alive kept =
      let τ = task_class w in
      let s = w.store in
      bind _ _ (source_is s t name (get (space s t) name) refl) (λ from at.
      bind _ _ (found (get s.ports from.port) _) (λ x live.
      bind _ _ (found (first_parcel x.queue) _) (λ head is.
      let y : Port = record x { queue = head.1; receipts = (x.receipts + 1) % 2 ^ 32 } in
      let shape = first_is x.queue head is in
      let carried = rw shape at (kept.sound.covers.carried from.port x live) in
      let class : class_of s from.port ≡ Some x.class = live_class s from.port x live in
      let mine = (kept.sound.covers.held t from.name _ at.at).all.0 in
      let same : mine.0 ≡ x.class = same_Some _ _ (sym mine.1 ∙ class) in
      let receive : G (Hold (τ t) x.class Receive) = rw same at mine.2 in
      let s1 = set_port s from.port y in
      let a = set_port_sound W G τ s [] (parcel_rights head.0
      ++ []) from.port x y kept.sound live refl
      (λ q.
      let c = ap (λ v. receives q (queue_rights v)) shape in
      let d = receives-append q (parcel_rights head.0) (queue_rights head.1) in
      let e = receives-append q (parcel_rights head.0) [] in omega arith)
      (Known-second (parcel_rights head.0) (queue_rights head.1) carried)
      (kept.sound.covers.backups from.port x live) in
      let changes = set_port_changes s from.port x y live refl in
      let hers = Known-more (λ c r g. obeys.receive receive g)
      (Known-along changes.classes
      (Known-first (parcel_rights head.0) (queue_rights head.1) carried)) in
      let gained = received_given W G τ t s1 [] from.name x.receipts head.0 a hers in
      bind_ _ _ (not_refused _ _) (λ _ _.
      bind_ _ _
      (not_refused (is_over_full (space (received s1 t from.name x.receipts head.0).0 t)) _)
      (λ _ room.
      gives_ok (keeps_with W G w (received s1 t from.name x.receipts head.0).0 kept
      record {
        sound = gained.sound;
        changes =
            changes_weaker (λ u e. subst (IsAlive w) (sym e) alive)
            (changes_then changes gained.changes);
      }
      (λ u. elim (cases_eq u t) [
        | inl e ↦ rw e (ltb-false 4096 _ room)
        | inr n ↦ rw (gained.changes.others u n) (kept.few u)
      ])))))))
