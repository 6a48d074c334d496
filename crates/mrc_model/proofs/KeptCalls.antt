-- Each call leaves spaces that are spaces.
use Rattle.std.proofs.Common.{◌≡◌, ℕ, ◌+◌, ◌-◌, ◌≤◌, inl, inr, Bool, true, false, List, [], ◌∷◌}
use Rattle.std.proofs.Common.{◌++◌}
use Rattle.std.proofs.Common.{Option, Some, None, Ok, Err, refl, sym, ◌∙◌, ap, subst, arith, nat_lt}
use Rattle.std.proofs.Common.{◌==◌, if◌then◌else◌, ℤ, pos, negsuc}
use Rattle.std.specs.Option.{unwrap_or, option_and_then}
use Rattle.std.proofs.lemmas.Bool.{cases_eq, ltb-false}
use Rattle.mrc_base.specs.declared.PortRight.TheVariants.{Send, SendOnce}
use Rattle.mrc_base.specs.declared.Disp.{Disp}
use Rattle.mrc_base.specs.declared.Disp.TheVariants.{MoveReceive, MoveSend, MoveSendOnce, CopySend}
use Rattle.mrc_base.specs.declared.Disp.TheVariants.{MakeSend, MakeSendOnce}
use Rattle.mrc_base.specs.declared.Right.{Right}
use Rattle.mrc_base.specs.declared.Right.TheVariants as named
use Rattle.mrc_base.specs.Disposition.{given, disp_of_number}
use Rattle.mrc_base.specs.Limits.{limit_of_references}
use Rattle.mrc_model.specs.declared.Entry.{Entry}
use Rattle.mrc_model.specs.declared.Entry.TheVariants.{Receive as ReceiveEntry, Send as SendEntry}
use Rattle.mrc_model.specs.declared.Entry.TheVariants.{SendOnce as OnceEntry, PortSet as SetEntry}
use Rattle.mrc_model.specs.declared.Entry.TheVariants.{DeadName as DeadEntry}
use Rattle.mrc_model.specs.declared.Item.{Item}
use Rattle.mrc_model.specs.declared.Item.TheVariants.{Null as NullItem, Dead as DeadItem}
use Rattle.mrc_model.specs.declared.Item.TheVariants.{Right as RightItem}
use Rattle.mrc_model.specs.declared.Backup.{Backup}
use Rattle.mrc_model.specs.declared.Backup.TheVariants.{Absent as NoBackup, Dead as DeadBackup}
use Rattle.mrc_model.specs.declared.Backup.TheVariants.{Port as BackupPort}
use Rattle.mrc_model.specs.declared.FirstLine.{FirstLine}
use Rattle.mrc_model.specs.declared.FirstLine.TheVariants.{Task as TaskLine, Port as PortLine}
use Rattle.mrc_model.specs.declared.FirstLine.TheVariants.{Hold as HoldLine}
use Rattle.mrc_model.specs.Map.{Map, empty, get, insert, remove, alter_all, keys, next_key}
use Rattle.mrc_model.specs.Message.{Message, Arg, Data, Ports}
use Rattle.mrc_model.specs.Rights.{is_receive, is_once}
use Rattle.mrc_model.specs.Wiring.{Wiring, Shape, kernel_class}
use Rattle.mrc_model.specs.World.{Space, Store, World, Port, Parcel, QueuedArg, QueuedData}
use Rattle.mrc_model.specs.World.{QueuedItems, Held}
use Rattle.mrc_model.specs.World.{space, set_space, set_port, port_null, port_dead}
use Rattle.mrc_model.specs.Reply.{Reply, Refused, DeadTask, Try, Call}
use Rattle.mrc_model.specs.declared.Code.TheVariants.{KernInvalidValue, KernUrefsOverflow}
use Rattle.mrc_model.specs.Reply.{SendMessage, ReceiveMessage, Allocate, Deallocate, Destroy}
use Rattle.mrc_model.specs.Reply.{ModRefs}
use Rattle.mrc_model.specs.Reply.{InsertRight, ExtractRight, MoveMember, RequestNotification}
use Rattle.mrc_model.specs.Reply.{SetQlimit, Rename, Terminate, CreateTask}
use Rattle.mrc_model.specs.Space.{send_entry, dead_entry, take_from, put_entry, restart_port}
use Rattle.mrc_model.specs.Space.{restart, restart_if}
use Rattle.mrc_model.specs.Space.{take, unused, place, give_item}
use Rattle.mrc_model.specs.Space.{is_set}
use Rattle.mrc_model.specs.Space.{members_leave, IsEntry, set_of, IsSpace}
use Rattle.mrc_model.specs.Death.{Doomed, dying, queued_rights, perished_entry, bury}
use Rattle.mrc_model.specs.Death.{append_to, append}
use Rattle.mrc_model.specs.Death.{once_notice, notify_once, notify_backup, notify_port}
use Rattle.mrc_model.specs.Death.{notify_destroyed, has_receive, destroy}
use Rattle.mrc_model.specs.Destroyed.{Destroyed, ReceiveOf, EntryOf, TaskOf, cleared, receive_out}
use Rattle.mrc_model.specs.Destroyed.{entry_out, destroy_out, destroyed}
use Rattle.mrc_model.specs.Target.{entry_at, is_alive}
use Rattle.mrc_model.specs.CallSend.{dead_taken, take_live, take_named}
use Rattle.mrc_model.specs.CallSend.{take_item, take_reply_by}
use Rattle.mrc_model.specs.CallSend.{admit_item, take_items, take_arg, take_args}
use Rattle.mrc_model.specs.CallSend.{call_send}
use Rattle.mrc_model.specs.CallReceive.{give_items, give_arg, give_args, received}
use Rattle.mrc_model.specs.CallReceive.{call_receive}
use Rattle.mrc_model.specs.CallAllocate.{birth, allocate_entry, allocate_in}
use Rattle.mrc_model.specs.CallAllocate.{call_allocate}
use Rattle.mrc_model.specs.CallDeallocate.{Change, Remains, DestroysReceive, DestroysEntry, changed}
use Rattle.mrc_model.specs.CallDeallocate.{drop_one}
use Rattle.mrc_model.specs.CallDeallocate.{call_deallocate, call_destroy}
use Rattle.mrc_model.specs.CallModRefs.{plus, by_one, new_refs, change_refs, call_mod_refs}
use Rattle.mrc_model.specs.CallNames.{call_get_refs, call_type, call_names}
use Rattle.mrc_model.specs.CallInsertRight.{call_insert_right, call_extract_right}
use Rattle.mrc_model.specs.CallMoveMember.{leave, join, new_set, move_entry, call_move_member}
use Rattle.mrc_model.specs.CallRequestNotification.{take_backup, new_backup, give_backup}
use Rattle.mrc_model.specs.CallRequestNotification.{call_request_notification}
use Rattle.mrc_model.specs.CallSetQlimit.{call_set_qlimit}
use Rattle.mrc_model.specs.CallRename.{is_used, call_rename}
use Rattle.mrc_model.specs.CallTerminate.{call_terminate}
use Rattle.mrc_model.specs.CallCreateTask.{with_task, call_create_task}
use Rattle.mrc_model.specs.Step.{try_call, concluded, step}
use Rattle.mrc_model.specs.First.{First, no_world, add_task, add_line, add_lines, built, world_of}
use Rattle.mrc_model.specs.First.{first}
use Rattle.mrc_model.proofs.Maps.{same_Some, not_None, get-insert_same, get-insert_other, get-empty}
use Rattle.mrc_model.proofs.Maps.{get-alter_all}
use Rattle.mrc_model.proofs.Tries.{Gives, gives_ok, gives_err, bind, bind_, checked, not_refused}
use Rattle.mrc_model.proofs.Tries.{found, any_of, past}
use Rattle.mrc_model.proofs.Spaces.{get-unused}
use Rattle.mrc_model.proofs.KeptSpaces.{empty_is_space, insert_is_space, put_is_space, new_is_space}
use Rattle.mrc_model.proofs.KeptSpaces.{place_is_space}
use Rattle.mrc_model.proofs.KeptSpaces.{insert_at_is_space, left_is_space, renamed_is_space}
use Rattle.mrc_model.proofs.KeptSpaces.{perished_is_space}
use Rattle.mrc_model.proofs.KeptSpaces.{IsPart, itself, sends_part, dead_part}
use Rattle.mrc_model.proofs.KeptSpaces.{part_is, take_leaves}
use Rattle.mrc_model.proofs.KeptSpaces.{not_set, free_of_set, no_set, set_is}

-- all spaces of the store are spaces
pub record AreSpaces (s : Store) : Type 0 where
  pub of : (t : ℕ) → IsSpace (space s t)

-- one space changes
set_space_kept : (s : Store) (t : ℕ) (x : Space) → AreSpaces s → IsSpace x
    → AreSpaces (set_space s t x)
set_space_kept s t x all is = record {
  of = λ u. elim (cases_eq u t) [
    | inl e ↦ subst IsSpace (sym (ap (λ v. unwrap_or (get (insert s.spaces t x) v) empty) e
        ∙ ap (λ o. unwrap_or o empty) (get-insert_same s.spaces t x))) is
    | inr n ↦ subst IsSpace (sym (ap (λ o. unwrap_or o empty) (get-insert_other s.spaces t x u n)))
        (all.of u)
  ];
}

-- no space changes
same_kept : (s z : Store) → z.spaces ≡ s.spaces → AreSpaces s → AreSpaces z
same_kept s z same all = record {
  of = λ t. subst (λ (m : Map Space). IsSpace (unwrap_or (get m t) empty)) (sym same) (all.of t);
}

set_port_kept : (s : Store) (p : ℕ) (x : Port) → AreSpaces s → AreSpaces (set_port s p x)
set_port_kept s p x all = same_kept s (set_port s p x) refl all

-- taking

pub restart_spaces : (s : Store) (p : ℕ) (o : Option Port) → (restart_port s p o).spaces ≡ s.spaces
restart_spaces s p None = refl
restart_spaces s p (Some x) = refl

restart_kept : (b : Bool) (s : Store) (p : ℕ) → AreSpaces s → AreSpaces (restart_if b s p)
unfolding restart
restart_kept true s p all =
    same_kept s (restart_port s p (get s.ports p)) (restart_spaces s p (get s.ports p)) all
restart_kept false s p all = all

take_kept : (s : Store) (t n : ℕ) (x : Disp) (e1 e2 : Reply) → AreSpaces s
    → Gives (λ (got : Store × ℕ). AreSpaces got.0) (take s t n x e1 e2)
unfolding take
take_kept s t n x e1 e2 all =
    bind _ _ (found (get (space s t) n) e1) (λ e is.
    bind _ _ (found (take_from e x) e2) (λ got takes.
    let is_entry = (all.of t).entries n e is in
    let left = take_leaves e x got is_entry takes in
    let y = put_entry (space s t) n got.rest in
    let kept = put_is_space (space s t) n e got.rest (all.of t) is left.plain left.part in
    gives_ok (restart_kept (is_receive (given x)) (set_space s t y) got.port
    (set_space_kept s t y all kept))))

-- giving

give_kept : (s : Store) (t : ℕ) (i : Item) → AreSpaces s → AreSpaces (give_item s t i).0
unfolding give_item
give_kept s t NullItem all = all
give_kept s t DeadItem all = all
give_kept s t (RightItem p r) all =
    set_space_kept s t (place (space s t) p r).space all (place_is_space (space s t) p r (all.of t))

-- destruction

append_spaces : (s : Store) (p : ℕ) (m : Parcel) → (append s p m).spaces ≡ s.spaces
unfolding append
append_spaces s p m = go (get s.ports p)
  where
    go : (o : Option Port) → (append_to s p m o).spaces ≡ s.spaces
    go None = refl
    go (Some x) = refl

once_spaces : (s : Store) (hs : List Held) → (notify_once s hs).spaces ≡ s.spaces
once_spaces s [] = refl
once_spaces s (h ∷ hs) = go (is_once h.right) (λ z. once_spaces z hs)
  where
    go : (b : Bool) → ((z : Store) → (notify_once z hs).spaces ≡ z.spaces)
        → (notify_once (if b then append s h.port once_notice else s) hs).spaces ≡ s.spaces
    go true rest = rest (append s h.port once_notice) ∙ append_spaces s h.port once_notice
    go false rest = rest s

backup_spaces : (s : Store) (p : ℕ) (x : Port) (b : Backup)
    → (notify_backup s p x b).spaces ≡ s.spaces
backup_spaces s p x NoBackup = refl
backup_spaces s p x DeadBackup = refl
backup_spaces s p x (BackupPort b) = append_spaces _ b _

port_spaces : (s : Store) (p : ℕ) (o : Option Port) → (notify_port s p o).spaces ≡ s.spaces
port_spaces s p None = refl
port_spaces s p (Some x) = backup_spaces s p x x.backup

notified_spaces : (s : Store) (hs : List Held) (ps : List ℕ)
    → (notify_destroyed s hs ps).spaces ≡ s.spaces
notified_spaces s hs [] = refl
notified_spaces s hs (p ∷ ps) = go (has_receive p hs) (λ z. notified_spaces z hs ps)
  where
    go : (b : Bool) → ((z : Store) → (notify_destroyed z hs ps).spaces ≡ z.spaces)
        → (notify_destroyed (if b then notify_port s p (get s.ports p) else s) hs ps).spaces
        ≡ s.spaces
    go true rest = rest (notify_port s p (get s.ports p)) ∙ port_spaces s p (get s.ports p)
    go false rest = rest s

bury_kept : (s : Store) (dead : List ℕ) → AreSpaces s → AreSpaces (bury s dead)
unfolding bury
bury_kept s dead all = record { of = λ t. go t (get s.spaces t) refl }
  where
    perish : ℕ → Space → Option Space
    perish t x = Some (alter_all (λ n e. perished_entry dead e) x)

    go : (t : ℕ) (o : Option Space) → get s.spaces t ≡ o
        → IsSpace (unwrap_or
        (get (alter_all (λ u x. Some (alter_all (λ n e. perished_entry dead e) x)) s.spaces) t)
        empty)
    go t None e =
        subst (λ o. IsSpace (unwrap_or o empty))
        (sym (get-alter_all (λ u x. Some (alter_all (λ n e. perished_entry dead e) x)) s.spaces t
        ∙ ap (option_and_then
        (λ x. Some (alter_all (λ n e. perished_entry dead e) x))) e)) empty_is_space
    go t (Some x) e =
        subst (λ o. IsSpace (unwrap_or o empty))
        (sym (get-alter_all (λ u x. Some (alter_all (λ n e. perished_entry dead e) x)) s.spaces t
        ∙ ap (option_and_then (λ x. Some (alter_all (λ n e. perished_entry dead e) x))) e))
        (perished_is_space x dead (subst (λ o. IsSpace (unwrap_or o empty)) e (all.of t)))

destroy_kept : (s : Store) (d : Doomed) → AreSpaces s → AreSpaces (destroy s d)
unfolding destroy
destroy_kept s d all =
    let dead = dying s d in
    let gone = d.rights ++ queued_rights s dead in
    let after = bury s dead in
    same_kept after (notify_destroyed (notify_once after gone) gone (keys after.ports))
    (notified_spaces (notify_once after gone) gone (keys after.ports)
    ∙ once_spaces after gone) (bury_kept s dead all)

-- the spaces without a task's entries
cleared_kept : (s : Store) (t : ℕ) (o : Option Space) → AreSpaces s → AreSpaces (cleared s t o)
cleared_kept s t None all = all
cleared_kept s t (Some x) all = set_space_kept s t empty all empty_is_space

-- what a call destroys
pub destroyed_kept : (s : Store) (what : Destroyed) → AreSpaces s → AreSpaces (destroyed s what)
unfolding destroyed
destroyed_kept s (TaskOf t p) all =
    destroy_kept (cleared s t (get s.spaces t)) _ (cleared_kept s t (get s.spaces t) all)
destroyed_kept s (EntryOf t n) all = go (get (space s t) n) refl
  where
    go : (o : Option Entry) → get (space s t) n ≡ o → AreSpaces (destroy_out s (entry_out s t n o))
    go None at = all
    go (Some e) at =
        let y = members_leave (is_set e) n (remove (space s t) n) in
        destroy_kept (set_space s t y) _
        (set_space_kept s t y all (left_is_space (space s t) n e (all.of t) at))
destroyed_kept s (ReceiveOf t n) all = go (get (space s t) n) refl
  where
    go : (o : Option Entry) → get (space s t) n ≡ o
        → AreSpaces (destroy_out s (receive_out s t n o))
    go None at = all
    go (Some (ReceiveEntry p k i)) at =
        let few = (all.of t).entries n (ReceiveEntry p k i) at in
        let y = put_entry (space s t) n (send_entry p k) in
        destroy_kept (set_space s t y) _ (set_space_kept s t y all
        (put_is_space (space s t) n (ReceiveEntry p k i) (send_entry p k) (all.of t) at refl
        (sends_part _ p k few)))
    go (Some (SendEntry p k)) at = all
    go (Some (OnceEntry p)) at = all
    go (Some SetEntry) at = all
    go (Some (DeadEntry k)) at = all

-- calls

abbrev Ends : Try (World × Reply) → Type 0
Ends r = Gives (λ (end : World × Reply). AreSpaces end.0.store) r

-- the entry that a call works on has the name
pub same_entry : (w : World) (u n : ℕ) → Gives (λ e. get (space w.store u) n ≡ Some e) (entry_at w u n)
unfolding entry_at
same_entry w u n = found _ _

-- what a call may do with an entry
data MayChange (e : Entry) : Change → Type 0 where
  may_leave : {rest : Option Entry} → is_set e ≡ false → ((f : Entry) → rest ≡ Some f → IsPart e f)
      → MayChange e (Remains rest)
  may_keep : MayChange e (Remains (Some e))
  may_destroy_receive : MayChange e DestroysReceive
  may_destroy : MayChange e DestroysEntry

-- writing an entry over itself
rewritten_is_space : (x : Space) (n : ℕ) (e : Entry) → IsSpace x → get x n ≡ Some e
    → IsSpace (insert x n e)
rewritten_is_space x n e is at = record {
  entries = λ q f h. is.entries q f (sym (same q) ∙ h);
  sets = λ q m f h in_set. same m ∙ is.sets q m f (sym (same q) ∙ h) in_set;
}
  where
    same : (q : ℕ) → get (insert x n e) q ≡ get x q
    same q = elim (cases_eq q n) [
      | inl z ↦ ap (get (insert x n e)) z ∙ get-insert_same x n e ∙ sym at ∙ ap (get x) (sym z)
      | inr z ↦ get-insert_other x n e q z
    ]

changed_kept : (s : Store) (u n : ℕ) (e : Entry) (c : Change) → AreSpaces s
    → get (space s u) n ≡ Some e
    → MayChange e c → AreSpaces (changed s u n c)
changed_kept s u n e c all at (may_leave {rest} plain part) =
    set_space_kept s u (put_entry (space s u) n rest) all
    (put_is_space (space s u) n e rest (all.of u) at plain part)
changed_kept s u n e c all at (may_keep) =
    set_space_kept s u (insert (space s u) n e) all
    (rewritten_is_space (space s u) n e (all.of u) at)
changed_kept s u n e c all at (may_destroy_receive) = destroyed_kept s (ReceiveOf u n) all
changed_kept s u n e c all at (may_destroy) = destroyed_kept s (EntryOf u n) all

less_part : (p k m : ℕ) (i : Option ℕ) → m ≤ limit_of_references → (f : Entry)
    → Some (ReceiveEntry p m i) ≡ Some f → IsPart (ReceiveEntry p k i) f
less_part p k m i few f z =
    subst (IsPart (ReceiveEntry p k i)) (same_Some (ReceiveEntry p m i) f z)
    record { entry = few; set = λ v w. w }

drop_one_may : (e : Entry) (c : Change) → IsEntry e → drop_one e ≡ Some c → MayChange e c
drop_one_may (ReceiveEntry p k i) c h z = go (nat_lt 0 k) z
  where
    go : (b : Bool)
        → (if b then Some (Remains (Some (ReceiveEntry p (k - 1) i))) else None) ≡ Some c
        → MayChange (ReceiveEntry p k i) c
    go true w = subst (MayChange (ReceiveEntry p k i)) (same_Some _ c w)
        (may_leave refl (less_part p k (k - 1) i (omega arith)))
    go false w = absurd (not_None c (sym w))
drop_one_may (SendEntry p k) c h z =
    let few = h.1 in
    subst (MayChange (SendEntry p k)) (same_Some _ c z)
    (may_leave refl (sends_part _ p (k - 1) (omega arith)))
drop_one_may (OnceEntry p) c h z = subst (MayChange (OnceEntry p)) (same_Some _ c z) may_destroy
drop_one_may SetEntry c h z = absurd (not_None c (sym z))
drop_one_may (DeadEntry k) c h z =
    let few = h.1 in
    subst (MayChange (DeadEntry k)) (same_Some _ c z)
    (may_leave refl (dead_part _ (k - 1) (omega arith)))

few_refs : (o : Option ℕ) → Gives (λ n. n ≤ limit_of_references) (new_refs o)
few_refs None = gives_err _ _
few_refs (Some k) = go (nat_lt limit_of_references k) refl
  where
    go : (b : Bool) → nat_lt limit_of_references k ≡ b
        → Gives (λ n. n ≤ limit_of_references) (if b then Err (Refused KernUrefsOverflow) else Ok k)
    go true z = gives_err _ _
    go false z = gives_ok (ltb-false limit_of_references k z)

by_one_may : (e : Entry) (delta : ℤ) (c : Change) → MayChange e c
    → Gives (MayChange e) (by_one delta e c)
by_one_may e (pos n) c may = go (n == 0)
  where
    go : (b : Bool)
        → Gives (MayChange e) (if b then Ok (Remains (Some e)) else Err (Refused KernInvalidValue))
    go true = gives_ok may_keep
    go false = gives_err _ _
by_one_may e (negsuc n) c may = go (n == 0)
  where
    go : (b : Bool) → Gives (MayChange e) (if b then Ok c else Err (Refused KernInvalidValue))
    go true = gives_ok may
    go false = gives_err _ _

change_refs_may : (e : Entry) (right : Right) (delta : ℤ)
    → Gives (MayChange e) (change_refs e right delta)
change_refs_may (ReceiveEntry p n i) named.Send delta =
    bind_ _ _ (checked (nat_lt 0 n) _) (λ _ has.
    bind _ _ (few_refs (plus n delta)) (λ m few. gives_ok (may_leave refl (less_part p n m i few))))
change_refs_may (ReceiveEntry p n i) named.Receive delta =
    by_one_may _ delta DestroysReceive may_destroy_receive
change_refs_may (ReceiveEntry p n i) named.SendOnce delta = gives_err _ _
change_refs_may (ReceiveEntry p n i) named.PortSet delta = gives_err _ _
change_refs_may (ReceiveEntry p n i) named.DeadName delta = gives_err _ _
change_refs_may (SendEntry p n) named.Send delta =
    bind _ _ (few_refs (plus n delta)) (λ m few. gives_ok (may_leave refl (sends_part _ p m few)))
change_refs_may (SendEntry p n) named.Receive delta = gives_err _ _
change_refs_may (SendEntry p n) named.SendOnce delta = gives_err _ _
change_refs_may (SendEntry p n) named.PortSet delta = gives_err _ _
change_refs_may (SendEntry p n) named.DeadName delta = gives_err _ _
change_refs_may (OnceEntry p) named.Send delta = gives_err _ _
change_refs_may (OnceEntry p) named.Receive delta = gives_err _ _
change_refs_may (OnceEntry p) named.SendOnce delta = by_one_may _ delta DestroysEntry may_destroy
change_refs_may (OnceEntry p) named.PortSet delta = gives_err _ _
change_refs_may (OnceEntry p) named.DeadName delta = gives_err _ _
change_refs_may SetEntry named.Send delta = gives_err _ _
change_refs_may SetEntry named.Receive delta = gives_err _ _
change_refs_may SetEntry named.SendOnce delta = gives_err _ _
change_refs_may SetEntry named.PortSet delta = by_one_may _ delta DestroysEntry may_destroy
change_refs_may SetEntry named.DeadName delta = gives_err _ _
change_refs_may (DeadEntry n) named.Send delta = gives_err _ _
change_refs_may (DeadEntry n) named.Receive delta = gives_err _ _
change_refs_may (DeadEntry n) named.SendOnce delta = gives_err _ _
change_refs_may (DeadEntry n) named.PortSet delta = gives_err _ _
change_refs_may (DeadEntry n) named.DeadName delta =
    bind _ _ (few_refs (plus n delta)) (λ m few. gives_ok (may_leave refl (dead_part _ m few)))

-- items of messages

move : (k : ℕ) → k ≤ limit_of_references → (rest : Option Entry)
    → Some (dead_entry (k - 1)) ≡ Some rest
    → (f : Entry) → rest ≡ Some f → IsPart (DeadEntry k) f
move k few rest z f w = dead_part (DeadEntry k) (k - 1) (omega arith) f (same_Some _ rest z ∙ w)

dead_left : (e : Entry) (x : Disp) (rest : Option Entry) → IsEntry e
    → dead_taken (Some e) x ≡ Some rest
    → (is_set e ≡ false) × ((f : Entry) → rest ≡ Some f → IsPart e f)
dead_left (ReceiveEntry p k i) x rest h z = absurd (not_None rest (sym z))
dead_left (SendEntry p k) x rest h z = absurd (not_None rest (sym z))
dead_left (OnceEntry p) x rest h z = absurd (not_None rest (sym z))
dead_left SetEntry x rest h z = absurd (not_None rest (sym z))
dead_left (DeadEntry k) MoveSend rest h z = (refl, move k h.1 rest z)
dead_left (DeadEntry k) MoveSendOnce rest h z = (refl, move k h.1 rest z)
dead_left (DeadEntry k) CopySend rest h z = (
  refl,
  λ f w. part_is (DeadEntry k) (DeadEntry k) f (itself (DeadEntry k) h) (same_Some _ rest z
      ∙ w),
)
dead_left (DeadEntry k) MoveReceive rest h z = absurd (not_None rest (sym z))
dead_left (DeadEntry k) MakeSend rest h z = absurd (not_None rest (sym z))
dead_left (DeadEntry k) MakeSendOnce rest h z = absurd (not_None rest (sym z))

named_kept : (s : Store) (t n : ℕ) (x : Disp) (fault : Reply) → AreSpaces s
    → Gives (λ (got : Store × Item). AreSpaces got.0)
    (take_named s t n x fault (dead_taken (get (space s t) n) x))
named_kept s t n x fault all = go (get (space s t) n) refl
  where
    live : Gives (λ (got : Store × Item). AreSpaces got.0) (take_live s t n x fault)
    live = bind _ _ (take_kept s t n x fault fault all) (λ got kept. gives_ok kept)

    by_rest : (e : Entry) → get (space s t) n ≡ Some e → (r : Option (Option Entry))
        → dead_taken (Some e) x ≡ r
        → Gives (λ (got : Store × Item). AreSpaces got.0) (take_named s t n x fault r)
    by_rest e at None z = live
    by_rest e at (Some rest) z =
        let left = dead_left e x rest ((all.of t).entries n e at) z in
        gives_ok (set_space_kept s t (put_entry (space s t) n rest) all
        (put_is_space (space s t) n e rest (all.of t) at left.0 left.1))

    go : (o : Option Entry) → get (space s t) n ≡ o
        → Gives (λ (got : Store × Item). AreSpaces got.0)
        (take_named s t n x fault (dead_taken o x))
    go None at = live
    go (Some e) at = by_rest e at (dead_taken (Some e) x) refl

item_kept : (s : Store) (t n : ℕ) (x : Disp) (fault : Reply) → AreSpaces s
    → Gives (λ (got : Store × Item). AreSpaces got.0) (take_item s t n x fault)
unfolding take_item
item_kept s t n x fault all = go (n == port_null) (n == port_dead)
  where
    go : (a b : Bool) → Gives (λ (got : Store × Item). AreSpaces got.0)
        (if a then Ok (s, NullItem) else if b then Ok (s, DeadItem)
        else take_named s t n x fault (dead_taken (get (space s t) n) x))
    go true b = gives_ok all
    go false true = gives_ok all
    go false false = named_kept s t n x fault all

reply_kept : (s : Store) (t n : ℕ) (o : Option Disp) (fault : Reply) → AreSpaces s
    → Gives (λ (got : Store × Item). AreSpaces got.0) (take_reply_by s t n o fault)
reply_kept s t n (Some x) fault all = item_kept s t n x fault all
reply_kept s t n None fault all = go (n == port_null) (n == port_dead)
  where
    go : (a b : Bool) → Gives (λ (got : Store × Item). AreSpaces got.0)
        (if a then Ok (s, NullItem) else if b then Ok (s, DeadItem) else Err fault)
    go true b = gives_ok all
    go false true = gives_ok all
    go false false = gives_err _ _

items_kept : (W : Wiring) (own t : ℕ) (x : Disp) (sort i : ℕ) (s : Store) (ns : List ℕ)
    → AreSpaces s
    → Gives (λ (got : Store × List Item). AreSpaces got.0) (take_items W own t x sort i s ns)
items_kept W own t x sort i s [] all = gives_ok all
items_kept W own t x sort i s (n ∷ ns) all =
    bind _ _ (item_kept s t n x _ all) (λ got kept.
    bind_ _ _ (any_of (admit_item W own got.0 sort i got.1)) (λ _ _.
    bind _ _ (items_kept W own t x sort i got.0 ns kept) (λ rest after. gives_ok after)))

arg_kept : (W : Wiring) (own t sort i : ℕ) (s : Store) (a : Arg) → AreSpaces s
    → Gives (λ (got : Store × QueuedArg). AreSpaces got.0) (take_arg W own t sort i s a)
arg_kept W own t sort i s (Data name size number bytes) all = gives_ok all
arg_kept W own t sort i s (Ports disp names) all =
    bind _ _ (found (disp_of_number disp) _) (λ x _.
    bind _ _ (items_kept W own t x sort i s names all) (λ got kept. gives_ok kept))

args_kept : (W : Wiring) (own t i : ℕ) (shapes : List Shape) (s : Store) (as' : List Arg)
    → AreSpaces s
    → Gives (λ (got : Store × List QueuedArg). AreSpaces got.0) (take_args W own t i shapes s as')
args_kept W own t i shapes s [] all = gives_ok all
args_kept W own t i shapes s (a ∷ more) all =
    bind _ _ (arg_kept W own t _ i s a all) (λ got kept.
    bind _ _ (args_kept W own t (i + 1) _ got.0 more kept) (λ rest after. gives_ok after))

send_kept : (W : Wiring) (w : World) (t : ℕ) (m : Message) → AreSpaces w.store
    → Ends (call_send W w t m)
unfolding call_send
send_kept W w t m all =
    bind _ _ (found (disp_of_number m.remote_disp) _) (λ x _.
    bind_ _ _ (any_of _) (λ _ _.
    bind _ _ (take_kept w.store t m.remote x _ _ all) (λ got kept.
    bind _ _ (any_of _) (λ dest _.
    bind _ _ (any_of _) (λ form _.
    bind _ _ (reply_kept got.0 t m.local (disp_of_number m.local_disp) _ kept) (λ reply after.
    bind_ _ _ (any_of _) (λ _ _.
    bind_ _ _ (any_of _) (λ _ _.
    bind _ _ (args_kept W _ t 0 _ reply.0 m.args after) (λ args last.
    bind_ _ _ (any_of _) (λ _ _.
    gives_ok
    (same_kept args.0 (append args.0 got.1 _) (append_spaces args.0 got.1 _) last)))))))))))

-- receiving

give_items_kept : (t : ℕ) (s : Store) (xs : List Item) → AreSpaces s
    → AreSpaces (give_items t s xs).0
give_items_kept t s [] all = all
give_items_kept t s (x ∷ xs) all = give_items_kept t (give_item s t x).0 xs (give_kept s t x all)

give_arg_kept : (t : ℕ) (s : Store) (a : QueuedArg) → AreSpaces s → AreSpaces (give_arg t s a).0
give_arg_kept t s (QueuedData name size number bytes) all = all
give_arg_kept t s (QueuedItems r xs) all = give_items_kept t s xs all

give_args_kept : (t : ℕ) (s : Store) (as' : List QueuedArg) → AreSpaces s
    → AreSpaces (give_args t s as').0
give_args_kept t s [] all = all
give_args_kept t s (a ∷ more) all =
    give_args_kept t (give_arg t s a).0 more (give_arg_kept t s a all)

received_kept : (s : Store) (t name receipts : ℕ) (m : Parcel) → AreSpaces s
    → AreSpaces (received s t name receipts m).0
unfolding received
received_kept s t name receipts m all =
    give_args_kept t (give_item s t m.reply).0 m.args (give_kept s t m.reply all)

receive_kept : (w : World) (t name limit : ℕ) → AreSpaces w.store
    → Ends (call_receive w t name limit)
unfolding call_receive
receive_kept w t name limit all =
    bind _ _ (any_of _) (λ from _.
    bind _ _ (any_of _) (λ x _.
    bind _ _ (any_of _) (λ head _.
    bind_ _ _ (any_of _) (λ _ _.
    bind_ _ _ (any_of _) (λ _ _.
    gives_ok
    (received_kept _ t from.name x.receipts head.0 (set_port_kept w.store from.port _ all)))))))

-- allocate

new_entry_kept : (s : Store) (u : ℕ) (e : Entry) → AreSpaces s → IsEntry e → set_of e ≡ None
    → IsSpace (insert (space s u) (unused (space s u)) e)
new_entry_kept s u e all h none =
    insert_is_space (space s u) (unused (space s u)) e (all.of u)
    (free_of_set (space s u) (unused (space s u)) (get-unused (space s u))) h
    (λ m z. no_set m _ (sym none ∙ z))

birth_kept : (s : Store) (t c : ℕ) → AreSpaces s → AreSpaces (birth s t c)
birth_kept s t c all =
    let x = insert (space s t) (unused (space s t)) (ReceiveEntry s.next 0 None) in
    let y = new_entry_kept s t (ReceiveEntry s.next 0 None) all (omega arith) refl in
    same_kept (set_space s t x) (birth s t c) refl (set_space_kept s t x all y)

allocate_entry_kept : (w : World) (u kind : ℕ) (e : Entry) → AreSpaces w.store → IsEntry e
    → set_of e ≡ None
    → Ends (allocate_entry w u kind e)
allocate_entry_kept w u kind e all h none =
    bind_ _ _ (any_of _) (λ _ _.
    bind_ _ _ (any_of _) (λ _ _.
    gives_ok (set_space_kept w.store u _ all (new_entry_kept w.store u e all h none))))

allocate_in_kept : (W : Wiring) (w : World) (u : ℕ) (right : Right) (kind : ℕ) → AreSpaces w.store
    → Ends (allocate_in W w u right kind)
allocate_in_kept W w u named.Send kind all = gives_err _ _
allocate_in_kept W w u named.SendOnce kind all = gives_err _ _
allocate_in_kept W w u named.Receive kind all =
    bind _ _ (any_of _) (λ c _.
    bind_ _ _ (any_of _) (λ _ _.
    bind_ _ _ (any_of _) (λ _ _. gives_ok (birth_kept w.store u c all))))
allocate_in_kept W w u named.PortSet kind all = allocate_entry_kept w u kind SetEntry all tt refl
allocate_in_kept W w u named.DeadName kind all =
    allocate_entry_kept w u kind (DeadEntry 1) all (omega arith, omega arith) refl

allocate_kept : (W : Wiring) (w : World) (t task : ℕ) (right : Right) (kind : ℕ) → AreSpaces w.store
    → Ends (call_allocate W w t task right kind)
unfolding call_allocate
allocate_kept W w t task right kind all =
    bind _ _ (any_of _) (λ u _. allocate_in_kept W w u right kind all)

-- the calls that drop rights

deallocate_kept : (w : World) (t task name : ℕ) → AreSpaces w.store
    → Ends (call_deallocate w t task name)
unfolding call_deallocate
deallocate_kept w t task name all =
    bind _ _ (any_of _) (λ u _.
    bind _ _ (same_entry w u name) (λ e at.
    bind _ _ (found (drop_one e) _) (λ c got.
    gives_ok (changed_kept w.store u name e c all at
    (drop_one_may e c ((all.of u).entries name e at) got)))))

destroy_call_kept : (w : World) (t task name : ℕ) → AreSpaces w.store
    → Ends (call_destroy w t task name)
unfolding call_destroy
destroy_call_kept w t task name all =
    bind _ _ (any_of _) (λ u _.
    bind _ _ (any_of _) (λ e _. gives_ok (destroyed_kept w.store (EntryOf u name) all)))

mod_refs_kept : (w : World) (t task name : ℕ) (right : Right) (delta : ℤ) → AreSpaces w.store
    → Ends (call_mod_refs w t task name right delta)
unfolding call_mod_refs
mod_refs_kept w t task name right delta all =
    bind _ _ (any_of _) (λ u _.
    bind _ _ (same_entry w u name) (λ e at.
    bind _ _ (change_refs_may e right delta)
    (λ c may. gives_ok (changed_kept w.store u name e c all at may))))

-- rights between tasks

insert_right_kept : (W : Wiring) (w : World) (t task name right : ℕ) (x : Disp)
    → AreSpaces w.store
    → Ends (call_insert_right W w t task name right x)
unfolding call_insert_right
insert_right_kept W w t task name right x all =
    bind _ _ (any_of _) (λ u _.
    bind_ _ _ (any_of _) (λ _ _.
    bind_ _ _ (any_of _) (λ _ _.
    bind _ _ (take_kept w.store t right x _ _ all) (λ got kept.
    bind_ _ _ (any_of _) (λ _ _.
    bind _ _ (insert_at_is_space (space got.0 u) name got.1 (given x) (kept.of u)) (λ y is.
    gives_ok (set_space_kept got.0 u y kept is)))))))

extract_right_kept : (W : Wiring) (w : World) (t task name : ℕ) (x : Disp) → AreSpaces w.store
    → Ends (call_extract_right W w t task name x)
unfolding call_extract_right
extract_right_kept W w t task name x all =
    bind _ _ (any_of _) (λ u _.
    bind _ _ (take_kept w.store u name x _ _ all) (λ got kept.
    bind_ _ _ (any_of _) (λ _ _.
    bind_ _ _ (any_of _) (λ _ _. gives_ok (give_kept got.0 t (RightItem got.1 (given x)) kept)))))

-- sets

set_joined : (w : World) (u n : ℕ)
    → Gives (λ i. (m : ℕ) → i ≡ Some m → get (space w.store u) m ≡ Some SetEntry) (join w u n)
set_joined w u n =
    bind _ _ (same_entry w u n) (λ e at.
    bind_ _ _ (checked (is_set e) _) (λ _ set.
    gives_ok (λ m z. ap (get (space w.store u)) (sym (same_Some n m z)) ∙ at
    ∙ ap Some (set_is e set))))

set_left : (w : World) (u : ℕ) (i : Option ℕ)
    → Gives (λ j. (m : ℕ) → j ≡ Some m → get (space w.store u) m ≡ Some SetEntry) (leave i)
set_left w u None = gives_err _ _
set_left w u (Some i) = gives_ok (λ m z. no_set m _ z)

new_set_is : (w : World) (u n : ℕ) (i : Option ℕ)
    → Gives (λ j. (m : ℕ) → j ≡ Some m → get (space w.store u) m ≡ Some SetEntry) (new_set w u n i)
new_set_is w u n i = go (n == port_null)
  where
    go : (b : Bool) → Gives (λ j. (m : ℕ) → j ≡ Some m → get (space w.store u) m ≡ Some SetEntry)
        (if b then leave i else join w u n)
    go true = set_left w u i
    go false = set_joined w u n

move_entry_kept : (w : World) (u member n : ℕ) (e : Entry) → AreSpaces w.store
    → get (space w.store u) member ≡ Some e → Ends (move_entry w u member n e)
move_entry_kept w u member n (ReceiveEntry p k i) all at =
    bind _ _ (new_set_is w u n i) (λ j set.
    gives_ok (set_space_kept w.store u _ all
    (insert_is_space (space w.store u) member (ReceiveEntry p k j) (all.of u)
    (not_set (space w.store u) member (ReceiveEntry p k i) at refl)
    ((all.of u).entries member (ReceiveEntry p k i) at) set)))
move_entry_kept w u member n (SendEntry p k) all at = gives_err _ _
move_entry_kept w u member n (OnceEntry p) all at = gives_err _ _
move_entry_kept w u member n SetEntry all at = gives_err _ _
move_entry_kept w u member n (DeadEntry k) all at = gives_err _ _

move_member_kept : (w : World) (t task member n : ℕ) → AreSpaces w.store
    → Ends (call_move_member w t task member n)
unfolding call_move_member
move_member_kept w t task member n all =
    bind _ _ (any_of _) (λ u _.
    bind _ _ (same_entry w u member) (λ e at. move_entry_kept w u member n e all at))

-- requests

backup_kept : (W : Wiring) (s : Store) (t n : ℕ) (x : Disp) → AreSpaces s
    → Gives (λ (got : Store × Backup). AreSpaces got.0) (new_backup W s t n x)
backup_kept W s t n x all = go (n == port_null)
  where
    taken_backup : Gives (λ (got : Store × Backup). AreSpaces got.0) (take_backup W s t n x)
    taken_backup =
        bind_ _ _ (any_of _) (λ _ _.
        bind _ _ (take_kept s t n x _ _ all) (λ got kept.
        bind _ _ (any_of _) (λ y _.
        bind_ _ _ (any_of _) (λ _ _. gives_ok kept))))

    go : (b : Bool) → Gives (λ (got : Store × Backup). AreSpaces got.0)
        (if b then Ok (s, NoBackup) else take_backup W s t n x)
    go true = gives_ok all
    go false = taken_backup

give_backup_kept : (s : Store) (t : ℕ) (b : Backup) → AreSpaces s → AreSpaces (give_backup s t b).0
give_backup_kept s t NoBackup all = give_kept s t NullItem all
give_backup_kept s t DeadBackup all = give_kept s t DeadItem all
give_backup_kept s t (BackupPort b) all = give_kept s t (RightItem b SendOnce) all

request_kept : (W : Wiring) (w : World) (t task name id sync notify : ℕ) (x : Disp)
    → AreSpaces w.store
    → Ends (call_request_notification W w t task name id sync notify x)
unfolding call_request_notification
request_kept W w t task name id sync notify x all =
    bind _ _ (any_of _) (λ u _.
    bind_ _ _ (any_of _) (λ _ _.
    bind _ _ (any_of _) (λ e _.
    bind _ _ (any_of _) (λ p _.
    bind _ _ (backup_kept W w.store t notify x all) (λ got kept.
    bind_ _ _ (any_of _) (λ _ _.
    bind _ _ (any_of _) (λ y _.
    bind_ _ _ (any_of _) (λ _ _.
    bind_ _ _ (any_of _) (λ _ _.
    gives_ok (give_backup_kept _ t y.backup (set_port_kept got.0 p _ kept)))))))))))

qlimit_kept : (w : World) (t task name limit : ℕ) → AreSpaces w.store
    → Ends (call_set_qlimit w t task name limit)
unfolding call_set_qlimit
qlimit_kept w t task name limit all =
    bind _ _ (any_of _) (λ u _.
    bind_ _ _ (any_of _) (λ _ _.
    bind _ _ (any_of _) (λ e _.
    bind _ _ (any_of _) (λ p _.
    bind _ _ (any_of _) (λ y _. gives_ok (set_port_kept w.store p _ all))))))

-- a name that is not used has no entry
pub not_used : (o : Option Entry) → is_used o ≡ false → o ≡ None
not_used None e = refl
not_used (Some x) e = cc

rename_kept : (w : World) (t task old new : ℕ) → AreSpaces w.store
    → Ends (call_rename w t task old new)
unfolding call_rename
rename_kept w t task old new all =
    bind _ _ (any_of _) (λ u _.
    bind_ _ _ (any_of _) (λ _ _.
    bind _ _ (same_entry w u old) (λ e at.
    bind_ _ _ (not_refused (is_used (get (space w.store u) new)) _) (λ _ unused.
    gives_ok (set_space_kept w.store u _ all
    (renamed_is_space (space w.store u) old new e (all.of u) at
    (not_used (get (space w.store u) new) unused)))))))

terminate_kept : (w : World) (t task : ℕ) → AreSpaces w.store → Ends (call_terminate w t task)
unfolding call_terminate
terminate_kept w t task all =
    bind _ _ (any_of _) (λ u _.
    bind _ _ (any_of _) (λ x _. gives_ok (destroyed_kept w.store (TaskOf u x.kernel) all)))

-- a new task

with_task_kept : (w : World) (number class kernel : ℕ) → AreSpaces w.store
    → AreSpaces (with_task w number class kernel).store
with_task_kept w number class kernel all =
    let s = w.store in
    let x : Space = insert empty 1 (SendEntry s.next 1) in
    let is = new_is_space empty 1 s.next Send empty_is_space (get-empty 1) in
    same_kept (set_space s number x) (with_task w number class kernel).store refl
    (set_space_kept s number x all is)

create_task_kept : (w : World) (t task : ℕ) → AreSpaces w.store → Ends (call_create_task w t task)
unfolding call_create_task
create_task_kept w t task all =
    bind _ _ (any_of _) (λ u _.
    bind _ _ (any_of _) (λ x _.
    bind _ _ (any_of _) (λ c _.
    bind_ _ _ (any_of _) (λ _ _.
    bind_ _ _ (any_of _) (λ _ _.
    gives_ok (give_kept _ t (RightItem w.store.next Send)
    (with_task_kept w (next_key w.tasks) x.class c all)))))))

nothing_changed : (w : World) (reply : Reply) → AreSpaces w.store → Ends (Ok (w, reply))
nothing_changed w reply all = gives_ok all

call_kept : (W : Wiring) (w : World) (t : ℕ) (call : Call) → AreSpaces w.store
    → Ends (try_call W w t call)
unfolding call_get_refs call_type call_names
call_kept W w t (SendMessage m) all = send_kept W w t m all
call_kept W w t (ReceiveMessage name limit) all = receive_kept w t name limit all
call_kept W w t (Allocate task right kind) all = allocate_kept W w t task right kind all
call_kept W w t (Deallocate task name) all = deallocate_kept w t task name all
call_kept W w t (Destroy task name) all = destroy_call_kept w t task name all
call_kept W w t (ModRefs task name right delta) all = mod_refs_kept w t task name right delta all
call_kept W w t (InsertRight task name right disp) all =
    insert_right_kept W w t task name right disp all
call_kept W w t (ExtractRight task name disp) all = extract_right_kept W w t task name disp all
call_kept W w t (MoveMember task member set) all = move_member_kept w t task member set all
call_kept W w t (RequestNotification task name id sync notify disp) all =
    request_kept W w t task name id sync notify disp all
call_kept W w t (SetQlimit task name limit) all = qlimit_kept w t task name limit all
call_kept W w t (Rename task old new) all = rename_kept w t task old new all
call_kept W w t (Terminate task) all = terminate_kept w t task all
call_kept W w t (CreateTask task) all = create_task_kept w t task all
-- each other one changes nothing
call_kept W w t call all = search (past, nothing_changed)

-- each step
pub step_kept : (W : Wiring) (w : World) (t : ℕ) (call : Call) → AreSpaces w.store
    → AreSpaces (step W w t call).0.store
unfolding step
step_kept W w t call all = go (is_alive (get w.tasks t))
  where
    by_try : (r : Try (World × Reply)) → Ends r → AreSpaces (concluded w r).0.store
    by_try (Ok r) ends = ends.holds r refl
    by_try (Err e) ends = all

    go : (b : Bool)
        → AreSpaces (concluded w (if b then try_call W w t call else Err DeadTask)).0.store
    go true = by_try (try_call W w t call) (call_kept W w t call all)
    go false = all

-- the first state

no_world_kept : AreSpaces no_world.store
no_world_kept = record {
  of = λ t. subst IsSpace (sym (ap (λ o. unwrap_or o empty) (get-empty t))) empty_is_space;
}

add_task_kept : (W : Wiring) (f : First) → AreSpaces f.world.store
    → AreSpaces (add_task W f).world.store
add_task_kept W f all = with_task_kept f.world f.tasks f.tasks (kernel_class W f.tasks) all

add_line_kept : (W : Wiring) (f : First) (l : FirstLine) → AreSpaces f.world.store
    → Gives (λ (g : First). AreSpaces g.world.store) (add_line W f l)
add_line_kept W f TaskLine all = bind_ _ _ (any_of _) (λ _ _. gives_ok (add_task_kept W f all))
add_line_kept W f (PortLine t) all =
    bind_ _ _ (any_of _) (λ _ _.
    bind_ _ _ (any_of _) (λ _ _.
    bind_ _ _ (any_of _) (λ _ _. gives_ok (birth_kept f.world.store t f.ports all))))
add_line_kept W f (HoldLine t p r) all =
    bind_ _ _ (any_of _) (λ _ _.
    bind_ _ _ (any_of _) (λ _ _.
    bind _ _ (any_of _) (λ x _.
    bind_ _ _ (any_of _) (λ _ _. gives_ok (give_kept f.world.store t (RightItem p r) all)))))

add_lines_kept : (W : Wiring) (ls : List FirstLine) (f : First) → AreSpaces f.world.store
    → Gives (λ (g : First). AreSpaces g.world.store) (add_lines W f ls)
add_lines_kept W [] f all = gives_ok all
add_lines_kept W (l ∷ ls) f all =
    bind _ _ (add_line_kept W f l all) (λ g kept. add_lines_kept W ls g kept)

-- the first state
pub first_kept : (W : Wiring) → AreSpaces (first W).store
unfolding first
first_kept W =
    go (built W)
    (add_lines_kept W W.lines record { world = no_world; tasks = 0; ports = 0 } no_world_kept)
  where
    go : (r : Try First) → Gives (λ (g : First). AreSpaces g.world.store) r
        → AreSpaces (world_of r).store
    go (Ok f) gives = gives.holds f refl
    go (Err e) gives = no_world_kept
