-- Work that was planned does what follows from a destruction.
use Rattle.std.proofs.Common.{◌≡◌, ℕ, zero, suc, ◌+◌, true, ◌&&◌, List, ◌++◌, length}
use Rattle.std.proofs.Common.{map, Option, Some, None, refl, sym, ◌∙◌, ap, subst, arith, filter}
use Rattle.mrc_model.specs.Map.{Map, keys, len, alter_all}
use Rattle.mrc_model.specs.Rising.{alter_list}
use Rattle.mrc_model.specs.World.{Space, Store, Held}
use Rattle.mrc_model.specs.Death.{Doomed, has, has_receive, queued_on, queued_rights, dies, rounds}
use Rattle.mrc_model.specs.Death.{dying, bury}
use Rattle.mrc_model.specs.Death.{notify_once, notify_destroyed, perished_port, destroy}
use Rattle.mrc_model.specs.Destroyed as model
use Rattle.mrc_model.specs.Destroyed.{destroyed, destroy_out, taken_out}
use Rattle.mrc_death.specs.Losing.{is_losing}
use Rattle.mrc_death.specs.Plans.{HasRoom, Work, work_done, once_ports, kept_ports, tell_once}
use Rattle.mrc_death.specs.Plans.{tell_destroyed, carried_out, IsReadyFor, IsWorkOf, IsPlanOf}
use Rattle.mrc_death.specs.Taking.{AreTaken}
use Rattle.mrc_death.specs.declared.taking.Taken.{Taken}
use Rattle.mrc_death.specs.Removing.{CanRemove, removed_from}
use Rattle.mrc_death.specs.declared.removal.Removal.{Removal}
use Rattle.mrc_death.proofs.Rooms.{room_less, room_spaces, room_bury, room_told}
use Rattle.mrc_death.proofs.Burying.{bury_same, queued_same}
use Rattle.mrc_death.proofs.Telling.{once_told, destroyed_told}

-- who dies hangs on the ports alone
rounds_same : (s : Store) (m : Map Space) (d : Doomed) (n : ℕ)
    → rounds n (record s { spaces = m }) d ≡ rounds n s d
rounds_same s m d zero = refl
rounds_same s m d (suc n) =
    ap (λ dead. filter (dies s d dead) (keys s.ports)) (rounds_same s m d n)

dying_same : (s : Store) (m : Map Space) (d : Doomed)
    → dying (record s { spaces = m }) d ≡ dying s d
unfolding dying
dying_same s m d = rounds_same s m d (len s.ports)

-- what follows where these ports die
abbrev follows : Store → Doomed → List ℕ → Store
follows s d dead =
    let gone = d.rights ++ queued_rights s dead in
    let after = bury s dead in
    notify_destroyed (notify_once after gone) gone (keys after.ports)

-- it hangs on which ports those are alone
follows_same : (s : Store) (d : Doomed) (xs ys : List ℕ) (same : has xs ≡ has ys)
    → follows s d xs ≡ follows s d ys
follows_same s d xs ys same = λ i.
    let gone = d.rights ++ queued_same xs ys same s.ports.list i in
    let after = bury_same xs ys same s i in
    notify_destroyed (notify_once after gone) gone (keys after.ports)

destroy_follows : (s : Store) (d : Doomed) → destroy s d ≡ follows s d (dying s d)
unfolding destroy
destroy_follows s d = refl

-- the ports of a table after a burial
keys_buried : (s : Store) (dead : List ℕ)
    → keys (bury s dead).ports ≡ map (λ e. e.0) (alter_list (perished_port dead) s.ports.list)
unfolding bury keys alter_all
keys_buried s dead = refl

-- the right half of a test that holds
right_half : (a b c : _) → c ≡ (a && b) → a ≡ true → c ≡ b
right_half a b c e h = e ∙ ap (λ x. x && b) h

-- a live port is lost where its receive right goes
lost_live : (s : Store) (d : Doomed) (dead lost : List ℕ)
    → has dead ≡ has (dying s d)
    → ((p : ℕ) → has lost p ≡ is_losing s d p)
    → (p : ℕ) → has (map (λ e. e.0) s.ports.list) p ≡ true
    → has lost p ≡ has_receive p (d.rights ++ queued_on dead s.ports.list)
unfolding keys
lost_live s d dead lost same is p live =
    right_half _ _ _ (is p) live
    ∙ ap (λ hs. has_receive p (d.rights ++ hs)) (sym (queued_same _ _ same s.ports.list))

-- the work is what follows
pub work_follows : (s : Store) (t : ℕ) (r : Removal) (d : Doomed) (dead lost : List ℕ)
    → ((p : ℕ) → has dead p ≡ has (dying s d) p)
    → ((p : ℕ) → has lost p ≡ is_losing s d p)
    → work_done s (record {
      task = t;
      removal = r;
      dead = dead;
      once = once_ports (d.rights ++ queued_rights s dead);
      lost = kept_ports dead lost s.ports.list;
    }) ≡ destroy (removed_from s t r) d
work_follows s t r d dead lost die lose =
    let s1 = removed_from s t r in
    let same : has dead ≡ has (dying s d) = λ i p. die p i in
    let same1 : has dead ≡ has (dying s1 d) = same ∙ ap has (sym (dying_same s s1.spaces d)) in
    let gone = d.rights ++ queued_on dead s.ports.list in
    let after = bury s1 dead in
    sym (destroyed_told dead lost gone (tell_once after (once_ports gone)) s.ports.list
    (lost_live s d dead lost same lose))
    ∙ ap (λ z. notify_destroyed z gone (map (λ e. e.0)
    (alter_list (perished_port dead) s.ports.list)))
    (sym (once_told after gone))
    ∙ ap (notify_destroyed (notify_once after gone) gone) (sym (keys_buried s1 dead))
    ∙ follows_same s1 d dead (dying s1 d) same1
    ∙ sym (destroy_follows s1 d)

-- where the work is done in turn
module _ (s s1 s2 : Store) (w : Work) (ready : IsReadyFor s w)
    (put : s1 ≡ removed_from s w.task w.removal) (buried : s2 ≡ bury s1 w.dead) where
  buried_room : HasRoom (length w.once + length w.lost) s2
  buried_room =
      subst (HasRoom (length w.once + length w.lost)) (sym (buried ∙ ap (λ z. bury z w.dead) put))
      (room_bury _ (removed_from s w.task w.removal) w.dead (room_spaces _ s _ ready.room))

  -- there is room for the send-once notices
  pub once_room : HasRoom (length w.once) s2
  once_room = room_less _ _ s2 (omega arith) buried_room

  -- and then for the others
  pub lost_room : (s3 : Store) → s3 ≡ tell_once s2 w.once → HasRoom (length w.lost) s3
  lost_room s3 told =
      subst (HasRoom (length w.lost)) (sym told) (room_told (length w.lost) s2 w.once buried_room)

  -- all of it was done
  pub all_done : (s3 s4 : Store)
      → s3 ≡ tell_once s2 w.once
      → s4 ≡ tell_destroyed s3 w.lost
      → s4 ≡ work_done s w
  all_done s3 s4 told last =
      last ∙ ap (λ z. tell_destroyed z w.lost) (told
      ∙ ap (λ z. tell_once z w.once) (buried ∙ ap (λ z. bury z w.dead) put))

-- a plan with work
pub some_done : (s z : Store) (w : Work) → z ≡ work_done s w → z ≡ carried_out s (Some w)
unfolding carried_out
some_done s z w done = done

-- a plan without
pub none_done : (s : Store) → s ≡ carried_out s None
unfolding carried_out
none_done s = refl

-- nothing is destroyed where nothing is taken out
pub nothing_destroyed : (s : Store) (what : model.Destroyed)
    → taken_out s what ≡ None
    → carried_out s None ≡ destroyed s what
unfolding carried_out destroyed
nothing_destroyed s what none = ap (destroy_out s) (sym none)

-- what follows from what is taken out is what is destroyed
pub plan_destroys : (s : Store) (what : model.Destroyed) (t : ℕ) (r : Removal) (d : Doomed)
    (w : Work)
    → taken_out s what ≡ Some (record { store = removed_from s t r; doomed = d })
    → work_done s w ≡ destroy (removed_from s t r) d
    → carried_out s (Some w) ≡ destroyed s what
unfolding carried_out destroyed
plan_destroys s what t r d w out follows = follows ∙ ap (destroy_out s) (sym out)

-- the work that was planned
pub work_planned : (s : Store) (t : ℕ) (r : Removal) (d : Doomed) (dead lost once kept : List ℕ)
    (rights seen : List Held)
    → ((p : ℕ) → has dead p ≡ has (dying s d) p)
    → ((p : ℕ) → has lost p ≡ is_losing s d p)
    → rights ≡ d.rights ++ queued_rights s dead
    → seen ≡ rights
    → once ≡ once_ports seen
    → kept ≡ kept_ports dead lost s.ports.list
    → work_done s (record { task = t; removal = r; dead = dead; once = once; lost = kept })
    ≡ destroy (removed_from s t r) d
work_planned s t r d dead lost once kept rights seen die lose all deref told stay =
    let work : List ℕ → List ℕ → Work =
    λ o k. record { task = t; removal = r; dead = dead; once = o; lost = k } in
    ap (λ o. work_done s (work o kept)) (told ∙ ap once_ports (deref ∙ all))
    ∙ ap (λ k. work_done s (work (once_ports (d.rights ++ queued_rights s dead)) k)) stay
    ∙ work_follows s t r d dead lost die lose

-- room for as many
pub room_as : (s : Store) (a b m n v w : ℕ)
    → a ≡ v
    → v ≡ m
    → b ≡ w
    → w ≡ n
    → HasRoom (a + b) s
    → HasRoom (m + n) s
room_as s a b m n v w one two three four =
    subst (λ k. HasRoom k s) (λ i. (one ∙ two) i + (three ∙ four) i)

-- where nothing is taken out the plan has no work
pub plan_none : (s : Store) (what : model.Destroyed) (o : Option Taken)
    → AreTaken s o (taken_out s what)
    → o ≡ None
    → IsPlanOf s what None
plan_none s what o are is = record {
  ready = tt;
  exact = nothing_destroyed s what (subst (λ z. AreTaken s z (taken_out s what)) is are);
}

-- it can be removed from the task's space
pub can_remove : (s : Store) (what : model.Destroyed) (o : Option Taken) (t : Taken)
    → AreTaken s o (taken_out s what)
    → o ≡ Some t
    → CanRemove s t.task t.removal
can_remove s what o t are is = (subst (λ z. AreTaken s z (taken_out s what)) is are).0

-- the plan of what is taken out
pub plan_some : (s : Store) (what : model.Destroyed) (o : Option Taken) (t : Taken) (w : Work)
    → AreTaken s o (taken_out s what)
    → o ≡ Some t
    → IsWorkOf s t w
    → IsPlanOf s what (Some w)
plan_some s what o t w are is work = record {
  ready = work.ready;
  exact = plan_destroys s what t.task t.removal t.doomed w
      (subst (λ z. AreTaken s z (taken_out s what)) is are).1 work.exact;
}
