-- What dead ports leave of rights, entries, messages and queues.
use Rattle.std.proofs.Common.{Bool, List, None, Option, Some, [], ap, arith, false, if◌then◌else◌}
use Rattle.std.proofs.Common.{map, nat_lt, refl, sym, true, ℕ, ◌++◌, ◌+◌, ◌==◌, ◌∙◌, ◌∷◌, ◌≡◌}
use Rattle.std.proofs.lemmas.Bool.{both_ways, ne_eqb}
use Rattle.std.specs.List.{AllByRecursion}
use Rattle.mrc_base.specs.declared.PortRight.{PortRight}
use Rattle.mrc_base.specs.declared.PortRight.TheVariants.{Receive, Send, SendOnce}
use Rattle.mrc_model.proofs.Maps.{not_None, same_Some}
use Rattle.mrc_model.specs.Covers.{KnownAt}
use Rattle.mrc_model.specs.Death.{has, perished_arg, perished_backup, perished_entry, perished_item}
use Rattle.mrc_model.specs.Death.{perished_parcel, perished_port}
use Rattle.mrc_model.specs.Map.{alter_all}
use Rattle.mrc_model.specs.Space.{dead_entry, is_entry_of}
use Rattle.mrc_model.specs.World.{Held, Parcel, Port, QueuedArg, QueuedData, QueuedItems, Space}
use Rattle.mrc_model.specs.World.{arg_rights, args_rights, entry_rights, if_sends, item_rights}
use Rattle.mrc_model.specs.World.{items_rights, one_if_receive, parcel_rights, queue_rights}
use Rattle.mrc_model.specs.World.{receives}
use Rattle.mrc_model.specs.declared.Backup.{Backup}
use Rattle.mrc_model.specs.declared.Backup.TheVariants.{Port as BackupPort, Dead as DeadBackup}
use Rattle.mrc_model.specs.declared.Backup.TheVariants.{Absent as NoBackup}
use Rattle.mrc_model.specs.declared.Entry.{Entry}
use Rattle.mrc_model.specs.declared.Entry.TheVariants.{DeadName as DeadEntry, SendOnce as OnceEntry}
use Rattle.mrc_model.specs.declared.Entry.TheVariants.{Receive as ReceiveEntry, Send as SendEntry}
use Rattle.mrc_model.specs.declared.Entry.TheVariants.{PortSet as SetEntry}
use Rattle.mrc_model.specs.declared.Item.{Item}
use Rattle.mrc_model.specs.declared.Item.TheVariants.{Dead as DeadItem, Null as NullItem}
use Rattle.mrc_model.specs.declared.Item.TheVariants.{Right as RightItem}
use Rattle.mrc_cover.proofs.Entries.{if_some, rights-dead_entry, rights_left}
use Rattle.mrc_cover.proofs.Rights.{right_on}

-- what dead ports leave of each entry of a space
abbrev pub perish : List ℕ → ℕ → Entry → Option Entry
perish dead n e = perished_entry dead e

-- what they leave of each space
abbrev pub perish_space : List ℕ → ℕ → Space → Option Space
perish_space dead t x = Some (alter_all (perish dead) x)

-- the rights on ports that stay
abbrev pub prune : List ℕ → List Held → List Held
prune dead [] = []
prune dead (h ∷ hs) = if has dead h.port then prune dead hs else h ∷ prune dead hs

-- of two lists
prune-append : (dead : List ℕ) (hs gs : List Held)
    → prune dead (hs ++ gs) ≡ prune dead hs ++ prune dead gs
prune-append dead [] gs = refl
prune-append dead (h ∷ hs) gs =
    elim (has dead h.port) as (λ b. (if b then prune dead (hs ++ gs) else h ∷ prune dead (hs ++ gs))
    ≡ (if b then prune dead hs else h ∷ prune dead hs) ++ prune dead gs) [
      | true ↦ prune-append dead hs gs
      | false ↦ ap (λ v. h ∷ v) (prune-append dead hs gs)
    ]

-- of a send right that may be there
prune-if_sends : (dead : List ℕ) (k p : ℕ)
    → prune dead (if_sends k p) ≡ (if has dead p then [] else if_sends k p)
prune-if_sends dead k p =
    let none : (d : Bool)
    → ◌≡◌ {A = List Held} [] (if d then [] else []) = elim [ true ↦ refl | false ↦ refl ] in
    elim (nat_lt 0 k) as (λ b. prune dead (if b then right_on p Send ∷ [] else [])
    ≡ (if has dead p then [] else if b then right_on p Send ∷ [] else [])) [
      | true ↦ refl
      | false ↦ none (has dead p)
    ]

-- an entry keeps its rights on ports that stay
pub rights-perished_entry : (dead : List ℕ) (e : Entry)
    → rights_left (perished_entry dead e) ≡ prune dead (entry_rights e)
rights-perished_entry dead (ReceiveEntry p k i) =
    let sends : (d : Bool) → has dead p ≡ d
    → prune dead (if_sends k p) ≡ (if d then [] else if_sends k p) =
    λ d e. prune-if_sends dead k p ∙ ap (λ (v : Bool). if v then [] else if_sends k p) e in
    let go : (d : Bool) → has dead p ≡ d
    → rights_left (if d then dead_entry k else Some (ReceiveEntry p k i))
    ≡ (if d then prune dead (if_sends k p) else right_on p Receive ∷ prune dead (if_sends k p)) =
    elim [
      | true ↦ λ e. rights-dead_entry k ∙ sym (sends true e)
      | false ↦ λ e. ap (λ v. right_on p Receive ∷ v) (sym (sends false e))
    ] in
    go (has dead p) refl
rights-perished_entry dead
    (SendEntry p k) =
    elim (has dead p) as (λ b. rights_left (if b then dead_entry k else Some (SendEntry p k))
    ≡ (if b then [] else right_on p Send ∷ [])) [
      | true ↦ rights-dead_entry k
      | false ↦ refl
    ]
rights-perished_entry dead
    (OnceEntry p) =
    elim (has dead p) as
    (λ b. rights_left (if b then Some (DeadEntry 1) else Some (OnceEntry p))
    ≡ (if b then [] else right_on p SendOnce ∷ [])) [
      | true ↦ refl
      | false ↦ refl
    ]
rights-perished_entry dead SetEntry = refl
rights-perished_entry dead (DeadEntry k) = refl

-- so does an item
rights-perished_item : (dead : List ℕ) (x : Item)
    → item_rights (perished_item dead x) ≡ prune dead (item_rights x)
rights-perished_item dead NullItem = refl
rights-perished_item dead DeadItem = refl
rights-perished_item dead
    (RightItem p r) = elim (has dead p) as (λ b. item_rights (if b then DeadItem else RightItem p r)
    ≡ (if b then [] else right_on p r ∷ [])) [
      | true ↦ refl
      | false ↦ refl
    ]

-- two equations of lists make one
both_parts : {a b c d : List Held} → a ≡ b → c ≡ d → a ++ c ≡ b ++ d
both_parts p q = cc

-- so do the items of an argument
rights-perished_items : (dead : List ℕ) (xs : List Item)
    → items_rights (map (perished_item dead) xs) ≡ prune dead (items_rights xs)
rights-perished_items dead [] = refl
rights-perished_items dead (x ∷ xs) = sym
    (prune-append dead (item_rights x) (items_rights xs)
    ∙ sym (both_parts (rights-perished_item dead x) (rights-perished_items dead xs)))

-- so does an argument
rights-perished_arg : (dead : List ℕ) (x : QueuedArg)
    → arg_rights (perished_arg dead x) ≡ prune dead (arg_rights x)
rights-perished_arg dead (QueuedData k s n bs) = refl
rights-perished_arg dead (QueuedItems r xs) = rights-perished_items dead xs

-- so do all arguments
rights-perished_args : (dead : List ℕ) (xs : List QueuedArg)
    → args_rights (map (perished_arg dead) xs) ≡ prune dead (args_rights xs)
rights-perished_args dead [] = refl
rights-perished_args dead (x ∷ xs) =
    both_parts (rights-perished_arg dead x) (rights-perished_args dead xs)
    ∙ sym (prune-append dead (arg_rights x) (args_rights xs))

-- so does a message
rights-perished_parcel : (dead : List ℕ) (m : Parcel)
    → parcel_rights (perished_parcel dead m) ≡ prune dead (parcel_rights m)
rights-perished_parcel dead m =
    both_parts (rights-perished_item dead m.reply) (rights-perished_args dead m.args)
    ∙ sym (prune-append dead (item_rights m.reply) (args_rights m.args))

-- so does a queue
pub rights-perished_queue : (dead : List ℕ) (ms : List Parcel)
    → queue_rights (map (perished_parcel dead) ms) ≡ prune dead (queue_rights ms)
rights-perished_queue dead [] = refl
rights-perished_queue dead (m ∷ ms) =
    both_parts (rights-perished_parcel dead m) (rights-perished_queue dead ms)
    ∙ sym (prune-append dead (parcel_rights m) (queue_rights ms))

-- no receive right of another port
not_counted : (p q : ℕ) (r : PortRight) → (q ≡ p → ⊥) → one_if_receive p q r ≡ 0
not_counted p q Receive n = rw (ne_eqb q p n)
not_counted p q Send n = refl
not_counted p q SendOnce n = refl

-- a port that stays keeps its receive rights
pub receives-prune : (dead : List ℕ) (p : ℕ) (hs : List Held) → has dead p ≡ false
    → receives p (prune dead hs) ≡ receives p hs
receives-prune dead p [] h = refl
receives-prune dead p (x ∷ xs) h =
    let rest = receives-prune dead p xs h in
    elim (has dead x.port) as (λ b. has dead x.port ≡ b
    → receives p (if b then prune dead xs else x ∷ prune dead xs)
    ≡ one_if_receive p x.port x.right + receives p xs) [
      | true ↦ λ e.
          let z = not_counted p x.port x.right (λ s. both_ways (has dead p) h (ap (has dead) (sym s)
          ∙ e)) in
          omega arith
      | false ↦ λ e. omega arith
    ] refl

-- rights on ports that stay are still known
pub known-prune : (k l : ℕ → Option ℕ) (F : ℕ → PortRight → Type 0) (dead : List ℕ) (hs : List Held)
    → ((p : ℕ) → has dead p ≡ false → l p ≡ k p) → AllByRecursion (KnownAt k F) hs
    → AllByRecursion (KnownAt l F) (prune dead hs)
known-prune k l F dead [] same h = tt
known-prune k l F dead (x ∷ xs) same h =
    let rest = known-prune k l F dead xs same h.1 in
    elim (has dead x.port) as (λ b. has dead x.port ≡ b
    → AllByRecursion (KnownAt l F) (if b then prune dead xs else x ∷ prune dead xs)) [
      | true ↦ λ e. rest
      | false ↦ λ e. ((h.0.0, same x.port e ∙ h.0.1, h.0.2), rest)
    ] refl

-- what is left of an entry is a port entry of the same port
pub perished_name : (dead : List ℕ) (e f : Entry) → perished_entry dead e ≡ Some f → (p : ℕ)
    → is_entry_of p f ≡ true
    → is_entry_of p e ≡ true
perished_name dead (ReceiveEntry q k i) f is p z =
    let go : (d : Bool) → (if d then dead_entry k else Some (ReceiveEntry q k i)) ≡ Some f
    → (q == p) ≡ true = elim [
      | true ↦ λ y. let (has, same) = if_some (nat_lt 0 k) (DeadEntry k) f y in absurd
          (both_ways false refl (rw (sym same) at z))
      | false ↦ λ y. rw (sym (same_Some (ReceiveEntry q k i) f y)) at z
    ] in
    go (has dead q) is
perished_name dead (SendEntry q k) f is p z =
    let go : (d : Bool) → (if d then dead_entry k else Some (SendEntry q k)) ≡ Some f
    → (q == p) ≡ true = elim [
      | true ↦ λ y. let (has, same) = if_some (nat_lt 0 k) (DeadEntry k) f y in absurd
          (both_ways false refl (rw (sym same) at z))
      | false ↦ λ y. rw (sym (same_Some (SendEntry q k) f y)) at z
    ] in
    go (has dead q) is
perished_name dead (OnceEntry q) f is p z =
    let go : (d : Bool) → (if d then Some (DeadEntry 1) else Some (OnceEntry q)) ≡ Some f
    → false ≡ true = elim [
      | true ↦ λ y. rw (sym (same_Some (DeadEntry 1) f y)) at z
      | false ↦ λ y. rw (sym (same_Some (OnceEntry q) f y)) at z
    ] in
    go (has dead q) is
perished_name dead SetEntry f is p z = rw (sym (same_Some SetEntry f is)) at z
perished_name dead (DeadEntry k) f is p z = rw (sym (same_Some (DeadEntry k) f is)) at z

-- a port that stays
pub port_stays : (dead : List ℕ) (q : ℕ) (x y : Port) → perished_port dead q x ≡ Some y
    → record x {
      queue = map
          (perished_parcel dead) x.queue;
      backup = perished_backup dead x.backup;
    } ≡ y
port_stays dead q x y is =
    let z : Port = record x {
      queue = map
          (perished_parcel dead) x.queue;
      backup = perished_backup dead x.backup;
    } in
    elim (has dead q) as (λ b. (if b then None else Some z) ≡ Some y → z ≡ y) [
      | true ↦ λ e. absurd (not_None y (sym e))
      | false ↦ λ e. same_Some z y e
    ] is

-- a request that still names a port named it before
pub backup_stays : (dead : List ℕ) (b : Backup) (q : ℕ) → perished_backup dead b ≡ BackupPort q
    → (b ≡ BackupPort q) × (has dead q ≡ false)
backup_stays dead NoBackup q e = cc
backup_stays dead DeadBackup q e = cc
backup_stays dead (BackupPort p) q e =
    elim (has dead p) as (λ d. has dead p ≡ d
    → (if d then DeadBackup else BackupPort p) ≡ BackupPort q
    → (BackupPort p ≡ BackupPort q) × (has dead q ≡ false)) [
      | true ↦ λ h z. cc
      | false ↦ λ h z.
          let same : p ≡ q = cc in
          (z, ap (has dead) (sym same) ∙ h)
    ] refl e
