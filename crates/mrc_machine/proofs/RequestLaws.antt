-- What a port-destroyed request comes to, from what each step of code tells.
use Rattle.std.proofs.Common.{◌≡◌, ℕ, Bool, true, false, Option, Some, None, Ok, Err, refl}
use Rattle.std.proofs.Common.{sym, ◌∙◌, ap, subst, ◌==◌, if◌then◌else◌}
use Rattle.std.specs.Prelude.{◌&&◌, ◌||◌, IsOk, IsSome, unwrap_or, option_map}
use Rattle.mrc_base.specs.declared.PortRight.TheVariants.{SendOnce}
use Rattle.mrc_base.specs.declared.Disp.{Disp}
use Rattle.mrc_base.specs.declared.Disp.TheVariants.{MoveReceive, MoveSend, MoveSendOnce, CopySend}
use Rattle.mrc_base.specs.declared.Disp.TheVariants.{MakeSend, MakeSendOnce}
use Rattle.mrc_base.specs.Disposition.{given}
use Rattle.mrc_model.specs.declared.Entry.{Entry}
use Rattle.mrc_model.specs.declared.Backup.{Backup}
use Rattle.mrc_model.specs.declared.Backup.TheVariants.{Absent as NoBackup, Dead as DeadBackup}
use Rattle.mrc_model.specs.declared.Backup.TheVariants.{Port as BackupPort}
use Rattle.mrc_model.specs.declared.Denied.TheVariants.{NotDestroyed, NotTaken, NotGiven}
use Rattle.mrc_model.specs.declared.Verb.TheVariants.{Takes, Gives}
use Rattle.mrc_model.specs.declared.Code.TheVariants.{KernInvalidTask, KernInvalidValue}
use Rattle.mrc_model.specs.declared.Code.TheVariants.{KernInvalidCapability, KernNoSpace}
use Rattle.mrc_model.specs.Rights.{is_receive}
use Rattle.mrc_model.specs.Death.{port_destroyed_id}
use Rattle.mrc_model.specs.Map.{Map, empty, get, insert}
use Rattle.mrc_model.specs.Wiring.{Wiring, accepts_destroyed}
use Rattle.mrc_model.specs.World.{Space, Port, Store, World, space, set_space, set_port}
use Rattle.mrc_model.specs.World.{port_null, port_dead, class_of}
use Rattle.mrc_model.specs.Reply.{Reply, Name, Refused, DeniedBy, Try, ◌>>=◌, ◌>>◌, check}
use Rattle.mrc_model.specs.Reply.{refuse_if, or_refuse}
use Rattle.mrc_model.specs.Space.{take, is_full, restart_if, place, give_item}
use Rattle.mrc_model.specs.Target.{with_store, with_space, bad_name, wrong_right, entry_at}
use Rattle.mrc_model.specs.CallSend.{dead_taken, is_dead_taken}
use Rattle.mrc_model.specs.CallRequestNotification.{received_port, is_notify_disp, take_backup}
use Rattle.mrc_model.specs.CallRequestNotification.{new_backup, is_live_backup, give_backup}
use Rattle.mrc_model.specs.CallRequestNotification.{backup_item}
use Rattle.mrc_model.specs.Trust.{may_on}
use Rattle.mrc_model.specs.CallRequestNotification.{call_request_notification}
use Rattle.std.proofs.Common.{inl, inr}
use Rattle.std.proofs.lemmas.Bool.{cases_eq, ne_eqb}
use Rattle.mrc_model.proofs.Maps.{get-insert_same, get-insert_other, not_None, same_Some}
use Rattle.mrc_map.proofs.SameMaps.{same_map}
use Rattle.mrc_names.specs.Takes.{take_right, taken_port, give_right}
use Rattle.mrc_ports.proofs.TableLaws.{insert_twice}
use Rattle.mrc_machine.specs.Housing.{target_of}
use Rattle.mrc_machine.specs.Requests.{received_at, live_named, named_backup, request_left}
use Rattle.mrc_machine.specs.Requests.{given_backup, with_backup}
use Rattle.mrc_machine.proofs.TakeLaws.{on_taken, take_by_space, given_parts}
use Rattle.mrc_machine.proofs.TargetLaws.{target_none, target_some}
use Rattle.mrc_machine.proofs.Trying.{bind_bind, ok_bind, err_bind, same_Ok, not_Err}

-- taking a send-once right from a store is taking it from a space

-- such a disposition gives a send-once right
gives_once : (x : Disp) → is_notify_disp x ≡ true → is_receive (given x) ≡ false
gives_once MoveSendOnce is = refl
gives_once MakeSendOnce is = refl
gives_once MoveReceive is = cc
gives_once MoveSend is = cc
gives_once CopySend is = cc
gives_once MakeSend is = cc

-- the request of what was taken
abbrev live_taken : Wiring → Store × ℕ → Try (Store × Backup)
live_taken W got =
    or_refuse (get got.0.ports got.1) bad_name
    >>= λ (y : Port). check (accepts_destroyed W y.class) (DeniedBy NotDestroyed)
    >> Ok (got.0, BackupPort got.1)

abbrev live_port : Wiring → Store → ℕ → Try Backup
live_port W s b =
    or_refuse (get s.ports b) bad_name
    >>= λ (y : Port). check (accepts_destroyed W y.class) (DeniedBy NotDestroyed)
    >> Ok (BackupPort b)

-- what is done with the request
abbrev in_store : Store → ℕ → Try Space → Backup → Try (Store × Backup)
in_store s t left b = left >>= λ y. Ok (set_space s t y, b)

module _ (W : Wiring) (s : Store) (t : ℕ) (x : Disp)
    (once : is_receive (given x) ≡ false) where
  live_by_port : (got : Space × ℕ)
      → live_taken W (restart_if false (set_space s t got.0) got.1, got.1)
      ≡ (live_port W s got.1 >>= in_store s t (Ok got.0))
  unfolding ◌>>=◌ ◌>>◌ or_refuse check
  live_by_port got = go (get s.ports got.1)
    where
      inner : (b : Bool)
          → (check b (DeniedBy NotDestroyed) >> Ok (set_space s t got.0, BackupPort got.1))
          ≡ ((check b (DeniedBy NotDestroyed) >> Ok (BackupPort got.1))
          >>= in_store s t (Ok got.0))
      inner true = refl
      inner false = refl

      go : (o : Option Port)
          → (or_refuse o bad_name
          >>= λ (y : Port). check (accepts_destroyed W y.class) (DeniedBy NotDestroyed)
          >> Ok (set_space s t got.0, BackupPort got.1))
          ≡ ((or_refuse o bad_name
          >>= λ (y : Port). check (accepts_destroyed W y.class) (DeniedBy NotDestroyed)
          >> Ok (BackupPort got.1))
          >>= in_store s t (Ok got.0))
      go None = refl
      go (Some y) = inner (accepts_destroyed W y.class)

  -- for what is taken from the space
  live_by_space : (m : Try (Space × ℕ))
      → (m >>= on_taken s t x >>= live_taken W)
      ≡ (m >>= (λ (y, p). Ok p) >>= live_port W s >>= in_store s t (m >>= λ got. Ok got.0))
  unfolding ◌>>=◌
  live_by_space (Ok got) =
      ap (λ b. live_taken W (restart_if b (set_space s t got.0) got.1, got.1)) once
      ∙ live_by_port got
  live_by_space (Err e) = refl

  -- the definitions' request, where a right is named
  live_backup : (n : ℕ)
      → take_backup W s t n x
      ≡ (live_named W s t n x
      >>= in_store s t (take_right (space s t) n x >>= λ got. Ok got.0))
  unfolding ◌>>=◌ ◌>>◌ refuse_if taken_port
  live_backup n =
      go (n == port_dead || is_dead_taken (dead_taken (get (space s t) n) x))
    where
      m : Try (Space × ℕ)
      m = take_right (space s t) n x

      go : (b : Bool)
          → (refuse_if b (Refused KernInvalidCapability)
          >> (take s t n x bad_name wrong_right >>= live_taken W))
          ≡ ((refuse_if b (Refused KernInvalidCapability)
          >> (m >>= (λ (y, p). Ok p) >>= live_port W s))
          >>= in_store s t (m >>= λ got. Ok got.0))
      go true = refl
      go false = ap (λ k. k >>= live_taken W) (take_by_space s t n x) ∙ live_by_space m

-- a space that is put where it stands
set_back : (s : Store) (t : ℕ) → IsSome (get s.spaces t) → set_space s t (space s t) ≡ s
set_back s t has = go (get s.spaces t) refl has
  where
    same : (y : Space) → get s.spaces t ≡ Some y → insert s.spaces t y ≡ s.spaces
    same y at = same_map _ _ (λ q. elim (cases_eq q t) [
      | inl k ↦
          ap (get (insert s.spaces t y)) k ∙ get-insert_same s.spaces t y ∙ sym at
          ∙ ap (get s.spaces) (sym k)
      | inr other ↦ get-insert_other s.spaces t y q other
    ])

    go : (o : Option Space)
        → get s.spaces t ≡ o
        → IsSome o
        → set_space s t (unwrap_or o empty) ≡ s
    go None at some = cc
    go (Some y) at some = ap (λ (m : Map Space). record s { spaces = m }) (same y at)

-- the definitions' request by its parts
new_by_parts : (W : Wiring) (s : Store) (t n : ℕ) (x : Disp)
    → is_receive (given x) ≡ false
    → IsSome (get s.spaces t)
    → new_backup W s t n x
    ≡ (named_backup W s t n x >>= in_store s t (request_left (space s t) n x))
unfolding ◌>>=◌ named_backup request_left
new_by_parts W s t n x once has =
    elim (n == port_null) as (λ b. (if b then Ok (s, NoBackup) else take_backup W s t n x)
    ≡ ((if b then Ok NoBackup else live_named W s t n x)
    >>= in_store s t (if b then Ok (space s t)
    else (take_right (space s t) n x >>= λ got. Ok got.0)))) [
      | true ↦ ap (λ (z : Store). Ok (z, NoBackup)) (sym (set_back s t has))
      | false ↦ live_backup W s t x once n
    ]

-- where a request is named, its right can be taken
pub left_there : (W : Wiring) (s : Store) (t n : ℕ) (x : Disp) (b : Backup)
    → named_backup W s t n x ≡ Ok b
    → (y : Space) × (request_left (space s t) n x ≡ Ok y)
unfolding ◌>>=◌ ◌>>◌ refuse_if named_backup request_left taken_port
left_there W s t n x b named = whole (n == port_null) named
  where
    m : Try (Space × ℕ)
    m = take_right (space s t) n x

    of_taken : (k : Try (Space × ℕ))
        → (k >>= (λ (y, p). Ok p) >>= live_port W s) ≡ Ok b
        → (y : Space) × ((k >>= λ got. Ok got.0) ≡ Ok y)
    of_taken (Ok got) is = (got.0, refl)
    of_taken (Err e) is = absurd (not_Err _ _ (sym is))

    live : (c : Bool)
        → (refuse_if c (Refused KernInvalidCapability)
        >> (m >>= (λ (y, p). Ok p) >>= live_port W s)) ≡ Ok b
        → (y : Space) × ((m >>= λ got. Ok got.0) ≡ Ok y)
    live true is = absurd (not_Err _ _ (sym is))
    live false is = of_taken m is

    whole : (c : Bool)
        → (if c then Ok NoBackup else live_named W s t n x) ≡ Ok b
        → (y : Space) × ((if c then Ok (space s t) else (m >>= λ got. Ok got.0)) ≡ Ok y)
    whole true is = (space s t, refl)
    whole false is =
        live (n == port_dead || is_dead_taken (dead_taken (get (space s t) n) x)) is

-- the port of a receive right, from what code tells

module _ (w : World) (u n : ℕ) (x : Space) (copy : x ≡ space w.store u) where
  held_is : (o : Option Entry) → get x n ≡ o → get (space w.store u) n ≡ o
  held_is o at = ap (λ (y : Space). get y n) (sym copy) ∙ at

  pub no_entry : get x n ≡ None → received_at w u n ≡ Err bad_name
  unfolding received_at entry_at ◌>>=◌ or_refuse
  no_entry at = rw (held_is None at) refl

  pub receives_as : (e : Entry) (o : Option ℕ)
      → get x n ≡ Some e
      → received_port e ≡ o
      → received_at w u n ≡ or_refuse o wrong_right
  unfolding received_at entry_at ◌>>=◌ or_refuse
  receives_as e o at is = rw (held_is (Some e) at) (ap (λ k. or_refuse k wrong_right) is)

pub or_wrong : (p : ℕ) → ◌≡◌ {A = Try ℕ} (or_refuse (Some p) wrong_right) (Ok p)
unfolding or_refuse
or_wrong p = refl

pub or_right : ◌≡◌ {A = Try ℕ} (or_refuse None wrong_right) (Err wrong_right)
unfolding or_refuse
or_right = refl

-- what a request leaves of the space, from what code tells

pub left_whole : (x : Space) (n : ℕ) (d : Disp) → n ≡ 0 → request_left x n d ≡ Ok x
unfolding request_left
left_whole x n d none = rw none refl

module _ (x : Space) (n : ℕ) (d : Disp) (some : n ≡ 0 → ⊥) where
  left_taken : request_left x n d ≡ (take_right x n d >>= λ got. Ok got.0)
  unfolding request_left
  left_taken = rw (ne_eqb n 0 some) refl

  -- the space after the taking, where one comes to be
  pub taken_for : (y : Space)
      → request_left x n d ≡ Ok y
      → (p : ℕ) × (take_right x n d ≡ Ok (y, p))
  unfolding ◌>>=◌
  taken_for y is = go (take_right x n d) (sym left_taken ∙ is)
    where
      go : (m : Try (Space × ℕ))
          → (m >>= λ got. Ok got.0) ≡ Ok y
          → (p : ℕ) × (m ≡ Ok (y, p))
      go (Ok got) same = (got.1, ap (λ k. Ok (k, got.1)) (same_Ok _ _ same))
      go (Err e) same = absurd (not_Err _ _ (sym same))

  pub left_of : (y : Space) (p : ℕ) → take_right x n d ≡ Ok (y, p) → request_left x n d ≡ Ok y
  left_of y p is = left_taken ∙ ok_bind _ (y, p) _ is

  pub not_left : (e : Reply) → take_right x n d ≡ Err e → IsOk (request_left x n d) → ⊥
  not_left e is ok = go (request_left x n d) (left_taken ∙ err_bind _ _ e is) ok
    where
      go : (m : Try Space) → m ≡ Err e → IsOk m → ⊥
      go (Ok y) same has = not_Err _ _ same
      go (Err k) same has = cc

-- the request of a name, from what code tells

pub backup_none : (W : Wiring) (s : Store) (t n : ℕ) (x : Disp)
    → n ≡ 0
    → named_backup W s t n x ≡ Ok NoBackup
unfolding named_backup
backup_none W s t n x none = rw none refl

module _ (W : Wiring) (s : Store) (t n : ℕ) (x : Disp) (some : n ≡ 0 → ⊥) where
  backup_live : named_backup W s t n x ≡ live_named W s t n x
  unfolding named_backup
  backup_live = rw (ne_eqb n 0 some) refl

  pub backup_dead :
      (n == port_dead || is_dead_taken (dead_taken (get (space s t) n) x)) ≡ true
      → named_backup W s t n x ≡ Err (Refused KernInvalidCapability)
  unfolding ◌>>◌ refuse_if
  backup_dead dead = backup_live ∙ rw dead refl

  module _ (lives :
      (n == port_dead || is_dead_taken (dead_taken (get (space s t) n) x)) ≡ false) where
    pub backup_untaken : (e : Reply)
        → take_right (space s t) n x ≡ Err e
        → named_backup W s t n x ≡ Err e
    unfolding ◌>>=◌ ◌>>◌ refuse_if taken_port
    backup_untaken e is = backup_live ∙ rw (lives, is) refl

    module _ (b : ℕ) (port : taken_port (space s t) n x ≡ Ok b) where
      by_taken : named_backup W s t n x ≡ live_port W s b
      unfolding ◌>>=◌ ◌>>◌ refuse_if
      by_taken = backup_live ∙ rw (lives, port) refl

      pub backup_gone : get s.ports b ≡ None → named_backup W s t n x ≡ Err bad_name
      unfolding ◌>>=◌ or_refuse
      backup_gone none = by_taken ∙ rw none refl

      pub backup_class : (c : ℕ) (answer : Bool)
          → class_of s b ≡ Some c
          → answer ≡ accepts_destroyed W c
          → named_backup W s t n x
          ≡ (check answer (DeniedBy NotDestroyed) >> Ok (BackupPort b))
      unfolding ◌>>=◌ or_refuse
      backup_class c answer of told = by_taken ∙ go (get s.ports b) of
        where
          go : (o : Option Port)
              → option_map (λ (y : Port). y.class) o ≡ Some c
              → (or_refuse o bad_name
              >>= λ (y : Port). check (accepts_destroyed W y.class) (DeniedBy NotDestroyed)
              >> Ok (BackupPort b))
              ≡ (check answer (DeniedBy NotDestroyed) >> Ok (BackupPort b))
          go None is = absurd (not_None c (sym is))
          go (Some y) is =
              ap (λ k. check k (DeniedBy NotDestroyed) >> Ok (BackupPort b))
              (ap (accepts_destroyed W) (same_Some y.class c is) ∙ sym told)

      pub backup_denied : (c : ℕ) (answer : Bool)
          → class_of s b ≡ Some c
          → answer ≡ accepts_destroyed W c
          → answer ≡ false
          → named_backup W s t n x ≡ Err (DeniedBy NotDestroyed)
      unfolding ◌>>◌ check
      backup_denied c answer of told denied = backup_class c answer of told ∙ rw denied refl

      pub backup_is : (c : ℕ) (answer : Bool)
          → class_of s b ≡ Some c
          → answer ≡ accepts_destroyed W c
          → answer ≡ true
          → named_backup W s t n x ≡ Ok (BackupPort b)
      unfolding ◌>>◌ check
      backup_is c answer of told granted = backup_class c answer of told ∙ rw granted refl

-- whether code found a dead right under a name
pub dead_at : (s : Store) (t n : ℕ) (x : Disp) {y : Space}
    → y ≡ space s t
    → (o : Option Entry)
    → o ≡ get y n
    → (b : Bool)
    → b ≡ is_dead_taken (dead_taken o x)
    → is_dead_taken (dead_taken (get (space s t) n) x) ≡ b
dead_at s t n x copy o at b told =
    ap (λ (k : Space). is_dead_taken (dead_taken (get k n) x)) (sym copy)
    ∙ ap (λ k. is_dead_taken (dead_taken k x)) (sym at) ∙ sym told

-- a port whose request is known is there
pub port_there : (s : Store) (p : ℕ) (b : Backup)
    → option_map (λ (y : Port). y.backup) (get s.ports p) ≡ Some b
    → (y : Port) × (get s.ports p ≡ Some y) × (y.backup ≡ b)
port_there s p b is = go (get s.ports p) refl is
  where
    go : (o : Option Port)
        → get s.ports p ≡ o
        → option_map (λ (y : Port). y.backup) o ≡ Some b
        → (y : Port) × (get s.ports p ≡ Some y) × (y.backup ≡ b)
    go None at told = absurd (not_None b (sym told))
    go (Some y) at told = (y, at, same_Some y.backup b told)

pub port_gone : (s : Store) (p : ℕ)
    → option_map (λ (y : Port). y.backup) (get s.ports p) ≡ None
    → get s.ports p ≡ None
port_gone s p is = go (get s.ports p) refl is
  where
    go : (o : Option Port)
        → get s.ports p ≡ o
        → option_map (λ (y : Port). y.backup) o ≡ None
        → get s.ports p ≡ None
    go None at told = at
    go (Some y) at told = absurd (not_None y.backup told)

-- a space with room takes the right of a request
pub given_new : (x y : Space) (p n : ℕ)
    → give_right x p SendOnce ≡ Ok (y, n)
    → given_backup x (BackupPort p) ≡ (y, n)
given_new x y p n is =
    let parts = given_parts x y p n SendOnce is in
    λ i. (sym parts.0 i, sym parts.1 i)

-- giving the previous request back

-- a store whose ports are known
given_in_store : (s : Store) (t : ℕ) (x : Space) (p : ℕ) (y : Port) (k : Backup)
    → give_backup (set_port (set_space s t x) p y) t k
    ≡ (set_port (set_space s t (given_backup x k).0) p y, (given_backup x k).1)
unfolding give_item
given_in_store s t x p y NoBackup = refl
given_in_store s t x p y DeadBackup = refl
given_in_store s t x p y (BackupPort b) =
    let here : space (set_port (set_space s t x) p y) t ≡ x =
    ap (λ o. unwrap_or o empty) (get-insert_same s.spaces t x) in
    ap (λ z. (
      set_space (set_port (set_space s t x) p y) t (place z b SendOnce).space,
      (place z b SendOnce).name,
    )) here
    ∙ ap (λ (m : Map Space). (
      set_port (record s { spaces = m }) p y,
      (place x b SendOnce).name,
    )) (insert_twice s.spaces t x (place x b SendOnce).space)

-- what code makes of the store
pub request_stored : (w v z : World) (t p : ℕ) (x : Space) (b : Backup) (y : Port)
    → z ≡ with_space w t x
    → v ≡ with_store z (with_backup z.store p b (get z.store.ports p))
    → get w.store.ports p ≡ Some y
    → v ≡ with_store w (set_port (set_space w.store t x) p (record y { backup = b }))
request_stored w v z t p x b y put set there =
    set
    ∙ ap (λ (k : World). with_store k (with_backup k.store p b (get k.store.ports p))) put
    ∙ ap (λ o. with_store w (with_backup (set_space w.store t x) p b o)) there

-- the call

module _ (W : Wiring) (w : World) (t task name id sync n : ℕ) (x : Disp) where
  pub request_no_task : target_of w t task ≡ None
      → call_request_notification W w t task name id sync n x ≡ Err (Refused KernInvalidTask)
  unfolding call_request_notification ◌>>=◌
  request_no_task none = rw (target_none w t task KernInvalidTask none) refl

  -- what is answered where the port has the new request, and the store is this
  abbrev answered : ℕ → Store × Backup → Port → Try (World × Reply)
  answered p got y =
      let given = give_backup (set_port got.0 p (record y { backup = got.1 })) t y.backup in
      Ok (with_store w given.0, Name given.1)

  abbrev replaced : ℕ → ℕ → Store × Backup → Try (World × Reply)
  replaced u p got =
      check (may_on W w Gives t u (backup_item got.1)) (DeniedBy NotGiven)
      >> (or_refuse (get got.0.ports p) bad_name
      >>= λ (y : Port).
      check (may_on W w Takes t u (backup_item y.backup)) (DeniedBy NotTaken)
      >> (refuse_if (is_live_backup y.backup && is_full (space got.0 t)) (Refused KernNoSpace)
      >> answered p got y))

  module _ (u : ℕ) (task_is : target_of w t task ≡ Some u) where
    pub request_no_kind : (id == port_destroyed_id && (sync == 0 && is_notify_disp x)) ≡ false
        → call_request_notification W w t task name id sync n x ≡ Err (Refused KernInvalidValue)
    unfolding call_request_notification ◌>>=◌ ◌>>◌ check
    request_no_kind none = rw (target_some w t task u KernInvalidTask task_is, none) refl

    module _ (is_kind : (id == port_destroyed_id && (sync == 0 && is_notify_disp x)) ≡ true) where
      once : is_receive (given x) ≡ false
      once = gives_once x (go (id == port_destroyed_id) (sync == 0) is_kind)
        where
          go : (a b : Bool) → (a && (b && is_notify_disp x)) ≡ true → is_notify_disp x ≡ true
          go true true is = is
          go true false is = cc
          go false b is = cc

      by_port : call_request_notification W w t task name id sync n x
          ≡ (received_at w u name >>= λ p. new_backup W w.store t n x >>= replaced u p)
      unfolding call_request_notification received_at ◌>>◌ check
      by_port =
          ok_bind _ u _ (target_some w t task u KernInvalidTask task_is)
          ∙ rw is_kind (sym (bind_bind (entry_at w u name)
          (λ e. or_refuse (received_port e) wrong_right)
          (λ p. new_backup W w.store t n x >>= replaced u p)))

      pub request_no_name : (e : Reply)
          → received_at w u name ≡ Err e
          → call_request_notification W w t task name id sync n x ≡ Err e
      request_no_name e is = by_port ∙ err_bind _ _ e is

      module _ (p : ℕ) (at : received_at w u name ≡ Ok p)
          (has : IsSome (get w.store.spaces t)) where
        by_parts : call_request_notification W w t task name id sync n x
            ≡ (named_backup W w.store t n x
            >>= in_store w.store t (request_left (space w.store t) n x)
            >>= replaced u p)
        by_parts =
            by_port ∙ ok_bind _ p _ at
            ∙ ap (λ (m : Try (Store × Backup)). m >>= replaced u p)
            (new_by_parts W w.store t n x once has)

        pub request_no_backup : (e : Reply)
            → named_backup W w.store t n x ≡ Err e
            → call_request_notification W w t task name id sync n x ≡ Err e
        request_no_backup e is =
            by_parts ∙ err_bind _ _ e (err_bind _ (in_store w.store t
            (request_left (space w.store t) n x)) e is)

        module _ (b : Backup) (named : named_backup W w.store t n x ≡ Ok b)
            (a : Space) (left : request_left (space w.store t) n x ≡ Ok a) where
          by_left : call_request_notification W w t task name id sync n x
              ≡ replaced u p (set_space w.store t a, b)
          by_left =
              by_parts ∙ ok_bind _ (set_space w.store t a, b) _
              (ok_bind _ b _ named ∙ ok_bind _ a _ left)

          pub request_not_given : may_on W w Gives t u (backup_item b) ≡ false
              → call_request_notification W w t task name id sync n x ≡ Err (DeniedBy NotGiven)
          unfolding ◌>>◌ check
          request_not_given limited = by_left ∙ rw limited refl

          module _ (gives : may_on W w Gives t u (backup_item b) ≡ true) where
            pub request_no_port : get w.store.ports p ≡ None
                → call_request_notification W w t task name id sync n x ≡ Err bad_name
            unfolding ◌>>=◌ ◌>>◌ or_refuse check
            request_no_port none = by_left ∙ rw (gives, none) refl

            module _ (y : Port) (there : get w.store.ports p ≡ Some y) where
              pub request_not_taken : may_on W w Takes t u (backup_item y.backup) ≡ false
                  → call_request_notification W w t task name id sync n x
                  ≡ Err (DeniedBy NotTaken)
              unfolding ◌>>=◌ ◌>>◌ or_refuse check
              request_not_taken limited = by_left ∙ rw (gives, there, limited) refl

              module _ (takes : may_on W w Takes t u (backup_item y.backup) ≡ true) where
                by_store : call_request_notification W w t task name id sync n x
                    ≡ (refuse_if (is_live_backup y.backup && is_full a) (Refused KernNoSpace)
                    >> answered p (set_space w.store t a, b) y)
                unfolding ◌>>=◌ ◌>>◌ or_refuse check
                by_store =
                    let here : space (set_space w.store t a) t ≡ a =
                    ap (λ o. unwrap_or o empty) (get-insert_same w.store.spaces t a) in
                    by_left ∙ rw (gives, there, takes) (ap (λ (k : Space).
                    refuse_if (is_live_backup y.backup && is_full k) (Refused KernNoSpace)
                    >> answered p (set_space w.store t a, b) y) here)

                pub request_full : (is_live_backup y.backup && is_full a) ≡ true
                    → call_request_notification W w t task name id sync n x
                    ≡ Err (Refused KernNoSpace)
                unfolding ◌>>◌ refuse_if
                request_full full = by_store ∙ rw full refl

                module _ (room : (is_live_backup y.backup && is_full a) ≡ false) where
                  by_room : call_request_notification W w t task name id sync n x
                      ≡ answered p (set_space w.store t a, b) y
                  unfolding ◌>>◌ refuse_if
                  by_room = by_store ∙ rw room refl

                  pub request_goes : IsOk (call_request_notification W w t task name id sync n x)
                  request_goes = subst IsOk (sym by_room) refl

                  pub request_done : (z : Space) (got : ℕ) (v : World)
                      → given_backup a y.backup ≡ (z, got)
                      → v ≡ with_store w
                      (set_port (set_space w.store t z) p (record y { backup = b }))
                      → call_request_notification W w t task name id sync n x ≡ Ok (v, Name got)
                  request_done z got v given is =
                      by_room
                      ∙ ap (λ (k : Store × ℕ). Ok (with_store w k.0, Name k.1))
                      (given_in_store w.store t a p (record y { backup = b }) y.backup
                      ∙ ap (λ (k : Space × ℕ).
                      (set_port (set_space w.store t k.0) p (record y { backup = b }), k.1)) given)
                      ∙ ap (λ (k : World). Ok (k, Name got)) (sym is)

-- what the previous request's right is, from what code tells of the port
pub takes_previous : (W : Wiring) (w : World) (t u : ℕ) (b k : Backup) (answer : Bool)
    → b ≡ k
    → answer ≡ may_on W w Takes t u (backup_item k)
    → may_on W w Takes t u (backup_item b) ≡ answer
takes_previous W w t u b k answer same told =
    ap (λ (z : Backup). may_on W w Takes t u (backup_item z)) same ∙ sym told
