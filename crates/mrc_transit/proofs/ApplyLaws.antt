-- What carrying out a plan comes to.
use Rattle.std.proofs.Common.{◌≡◌, ℕ, ◌≤◌, true, false, List, [], ◌∷◌, length, drop}
use Rattle.std.proofs.Common.{Option, Some, None, Result, Ok, Err, refl, inl, inr}
use Rattle.std.proofs.Common.{sym, ◌∙◌, ap, subst}
use Rattle.std.specs.Prelude.{IsOk, is_err}
use Rattle.std.proofs.lemmas.Bool.{cases_eq}
use Rattle.std.proofs.lemmas.List.{drop_all}
use Rattle.mrc_model.specs.Map.{get, insert}
use Rattle.mrc_model.specs.World.{Space, Port, Parcel, Store, set_space, set_port}
use Rattle.mrc_model.specs.Space.{restart, restart_port}
use Rattle.mrc_model.specs.Death.{append, append_to}
use Rattle.mrc_model.proofs.Maps.{same_Some, get-insert_same, get-insert_other}
use Rattle.mrc_model.proofs.KeptCalls.{restart_spaces as same_spaces}
use Rattle.mrc_ports.specs.Queues.{is_full_for, is_out_of_room, with_message}
use Rattle.mrc_names.specs.Leaving.{patched}
use Rattle.mrc_transit.specs.Staging.{Scratch, restart_each, staged, taken_of}
use Rattle.mrc_transit.specs.SendPlans.{SendPlan, sent, taking_of, IsReady}

-- the receipts of ports, one after the other

pub restart_done : (s z : Store) (k : ℕ) (ps : List ℕ)
    → restart_each s ps ≡ restart_each z (drop k ps)
    → length ps ≤ k
    → restart_each s ps ≡ z
restart_done s z k ps far most = far ∙ ap (restart_each z) (drop_all k ps most)

-- what is put and restarted is what the scratch leaves of the takings
pub put_staged : (s m z : Store) (t : ℕ) (x : Space) (scratch : Scratch)
    → m ≡ set_space s t (patched x scratch.rests)
    → (ps : List ℕ)
    → z ≡ restart_each m ps
    → ps ≡ scratch.moved
    → z ≡ staged s t (taken_of x scratch)
unfolding staged
put_staged s m z t x scratch put ps left same =
    left ∙ ap (restart_each m) same ∙ ap (λ k. restart_each k scratch.moved) put

-- no space but the sender's changes

pub restart_spaces : (s : Store) (p : ℕ) → (restart s p).spaces ≡ s.spaces
unfolding restart
restart_spaces s p = same_spaces s p (get s.ports p)

each_spaces : (ps : List ℕ) (s : Store) → (restart_each s ps).spaces ≡ s.spaces
each_spaces [] s = refl
each_spaces (p ∷ ps) s = each_spaces ps (restart s p) ∙ restart_spaces s p

append_spaces : (s : Store) (p : ℕ) (m : Parcel) (o : Option Port)
    → (append_to s p m o).spaces ≡ s.spaces
append_spaces s p m None = refl
append_spaces s p m (Some x) = refl

pub sent_spaces : (s : Store) (plan : SendPlan)
    → (sent s plan).spaces ≡ insert s.spaces plan.sender (taking_of s plan).space
unfolding sent staged append
sent_spaces s plan =
    append_spaces _ plan.destination plan.parcel _
    ∙ each_spaces plan.moved (set_space s plan.sender (taking_of s plan).space)

-- and no port is born

restart_next_at : (s : Store) (p : ℕ) (o : Option Port) → (restart_port s p o).next ≡ s.next
restart_next_at s p None = refl
restart_next_at s p (Some x) = refl

pub restart_next : (s : Store) (p : ℕ) → (restart s p).next ≡ s.next
unfolding restart
restart_next s p = restart_next_at s p (get s.ports p)

each_next : (ps : List ℕ) (s : Store) → (restart_each s ps).next ≡ s.next
each_next [] s = refl
each_next (p ∷ ps) s = each_next ps (restart s p) ∙ restart_next s p

append_next : (s : Store) (p : ℕ) (m : Parcel) (o : Option Port) → (append_to s p m o).next ≡ s.next
append_next s p m None = refl
append_next s p m (Some x) = refl

pub sent_next : (s : Store) (plan : SendPlan) → (sent s plan).next ≡ s.next
unfolding sent staged append
sent_next s plan =
    append_next _ plan.destination plan.parcel _
    ∙ each_next plan.moved (set_space s plan.sender (taking_of s plan).space)

-- a live port keeps its queue and its limit

-- the port is live, with this port's queue and limit
abbrev IsLike : Port → Store → ℕ → Type 0
IsLike x s p =
    (y : Port) × (get s.ports p ≡ Some y) × (y.queue ≡ x.queue) × (y.limit ≡ x.limit)

like_at : (s : Store) (q p : ℕ) (x : Port) (o : Option Port)
    → get s.ports q ≡ o
    → IsLike x s p
    → IsLike x (restart_port s q o) p
like_at s q p x None at like = like
like_at s q p x (Some z) at (y, there, queue, limit) = elim (cases_eq p q) [
  | inl same ↦
      let is : z ≡ y = same_Some z y (sym at ∙ ap (get s.ports) (sym same) ∙ there) in (
        record z { receipts = 0 },
        ap (get (set_port s q (record z { receipts = 0 })).ports) same
            ∙ get-insert_same s.ports q (record z { receipts = 0 }),
        ap (λ (k : Port). k.queue) is ∙ queue,
        ap (λ (k : Port). k.limit) is ∙ limit,
      )
  | inr other ↦ (
    y,
    get-insert_other s.ports q (record z { receipts = 0 }) p other ∙ there,
    queue,
    limit,
  )
]

like_each : (ps : List ℕ) (s : Store) (p : ℕ) (x : Port)
    → IsLike x s p
    → IsLike x (restart_each s ps) p
unfolding restart
like_each [] s p x like = like
like_each (q ∷ ps) s p x like =
    like_each ps (restart s q) p x (like_at s q p x (get s.ports q) refl like)

-- what is put behind the others
appended : (s : Store) (p : ℕ) (m : Parcel) (y : Port)
    → get s.ports p ≡ Some y
    → append s p m ≡ set_port s p (with_message y m)
unfolding append
appended s p m y at = ap (append_to s p m) at

-- an answer is a value or a fault
pub ok_not_err : {A B : Type 0} (r : Result A B) → IsOk r → is_err r ≡ true → ⊥
ok_not_err (Ok a) ok err = cc
ok_not_err (Err b) ok err = cc

module _ {A B : Type 0} (s z v : Store) (plan : SendPlan) (ready : IsReady s plan) (r : Result A B)
    (put : z ≡ staged s plan.sender (taking_of s plan))
    (queued : (x : Port) → get z.ports plan.destination ≡ Some x
    → is_full_for x plan.parcel.by_once ≡ false
    → is_out_of_room x ≡ false
    → IsOk r × (v ≡ set_port z plan.destination (with_message x plan.parcel))) where
  still : IsLike ready.port z plan.destination
  unfolding staged
  still =
      subst (λ y. IsLike ready.port y plan.destination) (sym put)
      (like_each plan.moved _ plan.destination ready.port
      (ready.port, ready.live, refl, refl))

  not_full : is_full_for still.0 plan.parcel.by_once ≡ false
  not_full =
      (λ i. is_full_for (record still.0 { queue = still.2 i; limit = still.3 i })
      plan.parcel.by_once) ∙ ready.not_full

  has_room : is_out_of_room still.0 ≡ false
  has_room =
      (λ i. is_out_of_room (record still.0 { queue = still.2 i; limit = still.3 i }))
      ∙ ready.room

  done : IsOk r × (v ≡ set_port z plan.destination (with_message still.0 plan.parcel))
  done = queued still.0 still.1 not_full has_room

  -- the message is queued
  pub apply_queued : is_err r ≡ true → ⊥
  apply_queued = ok_not_err r done.0

  pub apply_done : v ≡ sent s plan
  unfolding sent
  apply_done =
      done.1 ∙ sym (appended z plan.destination plan.parcel still.0 still.1)
      ∙ ap (λ y. append y plan.destination plan.parcel) put
