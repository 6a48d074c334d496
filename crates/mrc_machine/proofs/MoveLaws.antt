-- What moving a right between two tasks comes to, from what each step of code tells.
use Rattle.std.proofs.Common.{◌≡◌, ℕ, Bool, true, false, Option, inl, inr}
use Rattle.std.proofs.Common.{Some, None, Ok, Err, refl}
use Rattle.std.proofs.Common.{sym, ◌∙◌, ap, subst, ◌==◌, if◌then◌else◌}
use Rattle.std.specs.Prelude.{◌||◌, IsOk, unwrap_or}
use Rattle.std.proofs.lemmas.Bool.{cases_eq, eq-eqb, ne_eqb}
use Rattle.mrc_base.specs.declared.memory.OrMemory.{OrMemory}
use Rattle.mrc_base.specs.declared.memory.OrMemory.TheVariants.{Fault, Memory}
use Rattle.mrc_base.specs.declared.PortRight.{PortRight}
use Rattle.mrc_base.specs.declared.Disp.{Disp}
use Rattle.mrc_base.specs.Disposition.{given}
use Rattle.mrc_model.specs.declared.Code.{Code}
use Rattle.mrc_model.specs.declared.Code.TheVariants.{KernInvalidTask, KernInvalidValue}
use Rattle.mrc_model.specs.declared.Code.TheVariants.{KernNoSpace}
use Rattle.mrc_model.specs.declared.Code.TheVariants.{KernInvalidCapability}
use Rattle.mrc_model.specs.declared.Item.TheVariants.{Right as RightItem}
use Rattle.mrc_model.specs.declared.Denied.TheVariants.{NotTaken, NotGiven}
use Rattle.mrc_model.specs.declared.Verb.{Verb}
use Rattle.mrc_model.specs.declared.Verb.TheVariants.{Takes, Gives}
use Rattle.mrc_model.specs.Wiring.{Wiring}
use Rattle.mrc_model.specs.Trust.{may_on}
use Rattle.mrc_model.specs.Rights.{is_receive}
use Rattle.mrc_model.specs.Map.{Map, empty, get, insert}
use Rattle.mrc_model.specs.World.{Space, Port, Store, World, space, set_space, task_class}
use Rattle.mrc_model.specs.Reply.{Reply, Done, Name, Refused, DeniedBy, Try, ◌>>=◌}
use Rattle.mrc_model.specs.Reply.{◌>>◌, check, refuse_if}
use Rattle.mrc_model.specs.Space.{restart, restart_port, restart_if, insert_at, give_item}
use Rattle.mrc_model.specs.Space.{is_full, place}
use Rattle.mrc_model.specs.Target.{is_reserved, with_store, with_space}
use Rattle.mrc_model.specs.CallSend.{dead_taken, is_dead_taken}
use Rattle.mrc_model.specs.CallInsertRight.{call_insert_right, call_extract_right}
use Rattle.mrc_model.proofs.Maps.{if_true, if_false, get-insert_same, get-insert_other}
use Rattle.mrc_names.specs.Takes.{take_right, taken_port, move_right, give_right}
use Rattle.mrc_names.specs.Refusals.{IsRefusal}
use Rattle.mrc_names.proofs.MovingLaws.{move_is, move_err}
use Rattle.mrc_names.proofs.SpaceExits.{port_of_taken}
use Rattle.mrc_machine.specs.Housing.{target_of}
use Rattle.mrc_machine.specs.Moves.{moved, space_beside, with_moved}
use Rattle.mrc_machine.proofs.StoreLaws.{space_moved}
use Rattle.mrc_machine.proofs.TargetLaws.{target_none, target_some}
use Rattle.mrc_machine.proofs.TakeLaws.{on_taken, take_by_space}
use Rattle.mrc_machine.proofs.TakeLaws.{given_parts, not_given}
use Rattle.mrc_machine.specs.Calls.{IsRefusedBy, refusal_of}
use Rattle.mrc_machine.proofs.Trying.{bind_bind, then_bind, ok_bind, err_bind}
use Rattle.mrc_machine.proofs.Trying.{ok_goes}
use Rattle.mrc_map.proofs.SameMaps.{same_map}
use Rattle.mrc_ports.proofs.TableLaws.{insert_twice}

-- a right that went, by what each step of code leaves

restart_put_at : (s : Store) (p u : ℕ) (y : Space) (o : Option Port)
    → restart_port (set_space s u y) p o ≡ set_space (restart_port s p o) u y
restart_put_at s p u y None = refl
restart_put_at s p u y (Some x) = refl

restart_put : (b : Bool) (s : Store) (p u : ℕ) (y : Space)
    → restart_if b (set_space s u y) p ≡ set_space (restart_if b s p) u y
unfolding restart
restart_put true s p u y = restart_put_at s p u y (get s.ports p)
restart_put false s p u y = refl

-- two spaces in any order
pub swap_spaces : (m : Map Space) (t u : ℕ) (x y : Space)
    → (u ≡ t → ⊥)
    → insert (insert m u y) t x ≡ insert (insert m t x) u y
swap_spaces m t u x y apart = same_map _ _ (λ q. elim (cases_eq q t) [
  | inl here ↦
      ap (get (insert (insert m u y) t x)) here ∙ get-insert_same (insert m u y) t x
      ∙ sym (get-insert_same m t x)
      ∙ sym (get-insert_other (insert m t x) u y t (λ k. apart (sym k)))
      ∙ ap (get (insert (insert m t x) u y)) (sym here)
  | inr off ↦ elim (cases_eq q u) [
    | inl there ↦
        get-insert_other (insert m u y) t x q off ∙ ap (get (insert m u y)) there
        ∙ get-insert_same m u y ∙ sym (get-insert_same (insert m t x) u y)
        ∙ ap (get (insert (insert m t x) u y)) (sym there)
    | inr far ↦
        get-insert_other (insert m u y) t x q off ∙ get-insert_other m u y q far
        ∙ sym (get-insert_other m t x q off) ∙ sym (get-insert_other (insert m t x) u y q far)
  ]
])

-- the space of another task stays
pub other_space : (w v : World) (t u : ℕ) (y : Space)
    → (u ≡ t → ⊥)
    → v ≡ with_space w u y
    → space v.store t ≡ space w.store t
other_space w v t u y apart is =
    ap (λ (z : World). space z.store t) is
    ∙ ap (λ o. unwrap_or o empty) (get-insert_other w.store.spaces u y t (λ k. apart (sym k)))

-- between two tasks: first it is given, then it goes
pub moved_across : (w w1 w2 w3 : World) (t u p : ℕ) (h y : Space) (r : PortRight)
    → (u ≡ t → ⊥)
    → w1 ≡ with_space w u y
    → w2 ≡ with_space w1 t h
    → w3 ≡ with_store w2 (restart_if (is_receive r) w2.store p)
    → w3 ≡ with_store w (moved w.store t h p r u y)
moved_across w w1 w2 w3 t u p h y r apart one two three =
    three
    ∙ ap (λ (v : World). with_store v (restart_if (is_receive r) v.store p))
    (two ∙ ap (λ (v : World). with_space v t h) one)
    ∙ ap (λ (m : Map Space). with_store w
    (restart_if (is_receive r) (record w.store { spaces = m }) p))
    (swap_spaces w.store.spaces t u h y apart)
    ∙ ap (with_store w) (restart_put (is_receive r) (set_space w.store t h) p u y)

-- within one task
pub moved_within : (w w1 w2 : World) (t p : ℕ) (h y : Space) (r : PortRight)
    → w1 ≡ with_space w t y
    → w2 ≡ with_store w1 (restart_if (is_receive r) w1.store p)
    → w2 ≡ with_store w (moved w.store t h p r t y)
moved_within w w1 w2 t p h y r one two =
    two ∙ ap (λ (v : World). with_store v (restart_if (is_receive r) v.store p)) one
    ∙ ap (λ (m : Map Space). with_store w
    (restart_if (is_receive r) (record w.store { spaces = m }) p))
    (sym (insert_twice w.store.spaces t h y))
    ∙ ap (with_store w) (restart_put (is_receive r) (set_space w.store t h) p t y)

-- what a task may do to another

-- tasks of one class may do all
pub may_own : (W : Wiring) (w : World) (v : Verb) (t p : ℕ) (r : PortRight)
    → may_on W w v t t (RightItem p r) ≡ true
may_own W w v t p r = rw (eq-eqb (task_class w t) (task_class w t) refl) refl

-- from what code tells of the right that a disposition gives
pub may_given : (W : Wiring) (w : World) (v : Verb) (t u p : ℕ) (r : PortRight) (x : Disp)
    (b : Bool)
    → r ≡ given x
    → b ≡ may_on W w v t u (RightItem p r)
    → may_on W w v t u (RightItem p (given x)) ≡ b
may_given W w v t u p r x b right is =
    ap (λ k. may_on W w v t u (RightItem p k)) (sym right) ∙ sym is

-- a right that goes under a name

module _ (W : Wiring) (w : World) (t n u name : ℕ) (x : Disp) where
  pub moved_not_taken : (e : Reply)
      → take_right (space w.store t) n x ≡ Err e
      → with_moved W w t n x u name ≡ Err e
  unfolding with_moved ◌>>=◌
  moved_not_taken e is = rw is refl

  module _ (h : Space) (p : ℕ) (took : take_right (space w.store t) n x ≡ Ok (h, p)) where
    pub moved_denied : may_on W w Gives t u (RightItem p (given x)) ≡ false
        → with_moved W w t n x u name ≡ Err (DeniedBy NotGiven)
    unfolding with_moved ◌>>=◌ ◌>>◌ check
    moved_denied limited = rw (took, limited) refl

    module _ (trusted : may_on W w Gives t u (RightItem p (given x)) ≡ true) where
      moved_by : with_moved W w t n x u name
          ≡ (insert_at (space_beside w.store t u h) name p (given x)
          >>= λ y. Ok (with_store w (moved w.store t h p (given x) u y)))
      unfolding with_moved ◌>>=◌ ◌>>◌ check
      moved_by = rw (took, trusted) refl

      module _ (z : Space) (second : z ≡ space_beside w.store t u h) (r : PortRight)
          (right : r ≡ given x) where
        at_second : insert_at (space_beside w.store t u h) name p (given x) ≡ insert_at z name p r
        at_second = ap (λ k. insert_at k name p (given x)) (sym second)
            ∙ ap (insert_at z name p) (sym right)

        pub moved_not_put : (e : OrMemory Code)
            → IsRefusal e (insert_at z name p r)
            → IsRefusedBy (refusal_of e) (with_moved W w t n x u name)
        moved_not_put (Fault code) refused =
            moved_by ∙ err_bind _ _ (Refused code) (at_second ∙ refused)
        moved_not_put Memory refused =
            subst IsOk (sym moved_by) (ok_goes _ _ (λ y. refl) (subst IsOk (sym at_second) refused))

        pub moved_put : (y : Space) (v : World)
            → insert_at z name p r ≡ Ok y
            → v ≡ with_store w (moved w.store t h p r u y)
            → with_moved W w t n x u name ≡ Ok v
        moved_put y v put is =
            moved_by ∙ ok_bind _ y _ (at_second ∙ put)
            ∙ ap (λ k. Ok (with_store w (moved w.store t h p k u y))) (sym right) ∙ ap Ok (sym is)

-- the space beside another task's is its own; beside its own, it is what is left
pub beside_other : (s : Store) (t u : ℕ) (h : Space)
    → (u ≡ t → ⊥)
    → space s u ≡ space_beside s t u h
beside_other s t u h apart = sym (if_false (u == t) h (space s u) (ne_eqb u t apart))

pub beside_same : (s : Store) (t u : ℕ) (h : Space) → u ≡ t → h ≡ space_beside s t u h
beside_same s t u h same = sym (if_true (u == t) h (space s u) (eq-eqb u t same))

-- a right that goes under a name of its own task
pub moved_own : (W : Wiring) (w w1 w2 : World) (t n name p : ℕ) (x : Disp) (y : Space) (r :
    PortRight)
    → taken_port (space w.store t) n x ≡ Ok p
    → move_right (space w.store t) n x name ≡ Ok y
    → r ≡ given x
    → w1 ≡ with_space w t y
    → w2 ≡ with_store w1 (restart_if (is_receive r) w1.store p)
    → with_moved W w t n x t name ≡ Ok w2
moved_own W w w1 w2 t n name p x y r port put right one two =
    let (h, took) = port_of_taken (space w.store t) n p x port in
    moved_put W w t n t name x h p took (may_own W w Gives t p (given x)) h (beside_same w.store t t
    h refl) r right y w2
    (ap (insert_at h name p) right ∙ sym (move_is (space w.store t) n name x h p took) ∙ put)
    (moved_within w w1 w2 t p h y r one two)

-- how it is refused there

reason : {A : Type 0} → Try A → Reply
reason (Ok a) = Done
reason (Err why) = why

own_not_taken : (W : Wiring) (w : World) (t n name : ℕ) (x : Disp) (e : OrMemory Code) (why : Reply)
    → take_right (space w.store t) n x ≡ Err why
    → IsRefusal e (move_right (space w.store t) n x name)
    → IsRefusedBy (refusal_of e) (with_moved W w t n x t name)
unfolding reason
own_not_taken W w t n name x (Fault code) why is refused =
    moved_not_taken W w t n t name x why is
    ∙ ap Err (ap reason (sym (move_err (space w.store t) n name x why is) ∙ refused))
own_not_taken W w t n name x Memory why is ok =
    let never : IsOk {T = Space} {E = Reply} (Err why) =
    subst IsOk (move_err (space w.store t) n name x why is) ok in cc

pub own_refused : (W : Wiring) (w : World) (t n name : ℕ) (x : Disp) (e : OrMemory Code)
    → IsRefusal e (move_right (space w.store t) n x name)
    → IsRefusedBy (refusal_of e) (with_moved W w t n x t name)
own_refused W w t n name x e refused = go (take_right (space w.store t) n x) refl
  where
    go : (m : Try (Space × ℕ))
        → take_right (space w.store t) n x ≡ m
        → IsRefusedBy (refusal_of e) (with_moved W w t n x t name)
    go (Err why) is = own_not_taken W w t n name x e why is refused
    go (Ok got) is =
        moved_not_put W w t n t name x got.0 got.1 is (may_own W w Gives t got.1 (given x)) got.0
        (beside_same w.store t t got.0 refl) (given x) refl e
        (subst (IsRefusal e) (move_is (space w.store t) n name x got.0 got.1 is) refused)

-- inserting a right

-- what is answered for a right that was taken from t, and is given to u
abbrev inserted : Wiring → World → ℕ → ℕ → ℕ → Disp → Space × ℕ → Try (World × Reply)
inserted W w t u name x got =
    check (may_on W w Gives t u (RightItem got.1 (given x))) (DeniedBy NotGiven)
    >> (insert_at (if u == t then got.0 else space w.store u) name got.1 (given x)
    >>= λ y. Ok (with_store w (moved w.store t got.0 got.1 (given x) u y), Done))

module _ (W : Wiring) (w : World) (t task name right : ℕ) (x : Disp) where
  pub insert_no_task : target_of w t task ≡ None
      → call_insert_right W w t task name right x ≡ Err (Refused KernInvalidTask)
  unfolding call_insert_right ◌>>=◌
  insert_no_task none = rw (target_none w t task KernInvalidTask none) refl

  module _ (u : ℕ) (task_is : target_of w t task ≡ Some u) where
    pub insert_bad_name : is_reserved name ≡ true
        → call_insert_right W w t task name right x ≡ Err (Refused KernInvalidValue)
    unfolding call_insert_right ◌>>=◌ ◌>>◌ refuse_if
    insert_bad_name reserved = rw (target_some w t task u KernInvalidTask task_is, reserved) refl

    module _ (plain : is_reserved name ≡ false) where
      pub insert_gives_none :
          (is_reserved right || is_dead_taken (dead_taken (get (space w.store t) right) x)) ≡ true
          → call_insert_right W w t task name right x ≡ Err (Refused KernInvalidCapability)
      unfolding call_insert_right ◌>>=◌ ◌>>◌ refuse_if
      insert_gives_none none =
          rw (target_some w t task u KernInvalidTask task_is, plain, none) refl

      module _ (gives : (is_reserved right
          || is_dead_taken (dead_taken (get (space w.store t) right) x)) ≡ false) where
        insert_by_spaces : call_insert_right W w t task name right x
            ≡ (take_right (space w.store t) right x >>= inserted W w t u name x)
        unfolding call_insert_right ◌>>=◌ ◌>>◌ refuse_if
        insert_by_spaces =
            let trusted : ℕ → Try (Unit {0}) = λ p.
            check (may_on W w Gives t u (RightItem p (given x))) (DeniedBy NotGiven) in
            let last : Store × ℕ → Try (World × Reply) = λ got.
            trusted got.1 >> (insert_at (space got.0 u) name got.1 (given x)
            >>= λ y. Ok (with_store w (set_space got.0 u y), Done)) in
            rw (target_some w t task u KernInvalidTask task_is, plain, gives)
            (ap (λ m. m >>= last) (take_by_space w.store t right x)
            ∙ bind_bind (take_right (space w.store t) right x) (on_taken w.store t x) last
            ∙ ap (λ (f : Space × ℕ → Try (World × Reply)).
            take_right (space w.store t) right x >>= f)
            (λ i got. trusted got.1
            >> (insert_at (space_moved w.store t u got.1 (is_receive (given x)) got.0 i) name
            got.1 (given x)
            >>= λ y. Ok (with_store w (moved w.store t got.0 got.1 (given x) u y), Done))))

        -- what comes of the moving comes of the call
        pub insert_is : call_insert_right W w t task name right x
            ≡ (with_moved W w t right x u name >>= λ v. Ok (v, Done))
        unfolding with_moved ◌>>=◌
        insert_is =
            let last : World → Try (World × Reply) = λ v. Ok (v, Done) in
            let done : Space × ℕ → Space → Try World = λ got y.
            Ok (with_store w (moved w.store t got.0 got.1 (given x) u y)) in
            let put : Space × ℕ → Try Space = λ got.
            insert_at (space_beside w.store t u got.0) name got.1 (given x) in
            let trusted : Space × ℕ → Try (Unit {0}) = λ got.
            check (may_on W w Gives t u (RightItem got.1 (given x))) (DeniedBy NotGiven) in
            insert_by_spaces
            ∙ sym (bind_bind (take_right (space w.store t) right x)
            (λ got. trusted got >> (put got >>= done got)) last
            ∙ ap (λ (f : Space × ℕ → Try (World × Reply)).
            take_right (space w.store t) right x >>= f)
            (λ i got. (then_bind (trusted got) (put got >>= done got) last
            ∙ ap (λ (r : Try (World × Reply)). trusted got >> r)
            (bind_bind (put got) (done got) last)) i))

-- extracting a right

-- what is answered for a right that was taken from u, and is given to t
abbrev extracted : Wiring → World → ℕ → ℕ → Disp → Space × ℕ → Try (World × Reply)
extracted W w t u x got =
    let y = if t == u then got.0 else space w.store t in
    check (may_on W w Takes t u (RightItem got.1 (given x))) (DeniedBy NotTaken)
    >> (refuse_if (is_full y) (Refused KernNoSpace)
    >> Ok (
      with_store w (moved w.store u got.0 got.1 (given x) t (place y got.1 (given x)).space),
      Name (place y got.1 (given x)).name,
    ))

module _ (W : Wiring) (w : World) (t task name : ℕ) (x : Disp) where
  pub extract_no_task : target_of w t task ≡ None
      → call_extract_right W w t task name x ≡ Err (Refused KernInvalidTask)
  unfolding call_extract_right ◌>>=◌
  extract_no_task none = rw (target_none w t task KernInvalidTask none) refl

  module _ (u : ℕ) (task_is : target_of w t task ≡ Some u) where
    extract_by_spaces : call_extract_right W w t task name x
        ≡ (take_right (space w.store u) name x >>= extracted W w t u x)
    unfolding call_extract_right give_item ◌>>=◌
    extract_by_spaces =
        let given_at : Store → ℕ → Space → Try (World × Reply) = λ s p y.
        refuse_if (is_full y) (Refused KernNoSpace)
        >> Ok (
          with_store w (set_space s t (place y p (given x)).space),
          Name (place y p
              (given x)).name,
        ) in
        let trusted : ℕ → Try (Unit {0}) = λ p.
        check (may_on W w Takes t u (RightItem p (given x))) (DeniedBy NotTaken) in
        let last : Store × ℕ → Try (World × Reply) = λ got.
        trusted got.1 >> given_at got.0 got.1 (space got.0 t) in
        rw (target_some w t task u KernInvalidTask task_is)
        (ap (λ m. m >>= last) (take_by_space w.store u name x)
        ∙ bind_bind (take_right (space w.store u) name x) (on_taken w.store u x) last
        ∙ ap (λ (f : Space × ℕ → Try (World × Reply)).
        take_right (space w.store u) name x >>= f)
        (λ i got. trusted got.1 >> given_at (restart_if (is_receive (given x))
        (set_space w.store u got.0) got.1) got.1
        (space_moved w.store u t got.1 (is_receive (given x)) got.0 i)))

    module _ (g : Space) (copy : g ≡ space w.store u) where
      pub extract_not_taken : (e : Reply)
          → take_right g name x ≡ Err e
          → call_extract_right W w t task name x ≡ Err e
      extract_not_taken e refused =
          extract_by_spaces ∙ err_bind _ (extracted W w t u x) e
          (ap (λ y. take_right y name x) (sym copy) ∙ refused)

      module _ (h y : Space) (p : ℕ)
          (taken : take_right g name x ≡ Ok (h, p))
          (second : y ≡ (if t == u then h else space w.store t)) where
        extract_taken : call_extract_right W w t task name x ≡ extracted W w t u x (h, p)
        extract_taken =
            extract_by_spaces ∙ ok_bind _ (h, p) (extracted W w t u x)
            (ap (λ z. take_right z name x) (sym copy) ∙ taken)

        pub extract_denied : may_on W w Takes t u (RightItem p (given x)) ≡ false
            → call_extract_right W w t task name x ≡ Err (DeniedBy NotTaken)
        unfolding ◌>>◌ check
        extract_denied limited = extract_taken ∙ rw limited refl

        module _ (trusted : may_on W w Takes t u (RightItem p (given x)) ≡ true) where
          pub extract_full : is_full y ≡ true
              → call_extract_right W w t task name x ≡ Err (Refused KernNoSpace)
          unfolding ◌>>◌ check refuse_if
          extract_full full =
              let at : is_full (if t == u then h else space w.store t) ≡ true =
              ap is_full (sym second) ∙ full in
              extract_taken ∙ rw (trusted, at) refl

          pub extract_room : is_full y ≡ false → IsOk (call_extract_right W w t task name x)
          unfolding ◌>>◌ check refuse_if
          extract_room room =
              let at : is_full (if t == u then h else space w.store t) ≡ false =
              ap is_full (sym second) ∙ room in
              subst IsOk (sym extract_taken) (rw (trusted, at) refl)

          module _ (room : is_full y ≡ false) (r : PortRight) (r_is : r ≡ given x) where
            pub extract_not_given : (e : OrMemory Code)
                → IsRefusal e (give_right y p r)
                → IsRefusedBy (refusal_of e) (call_extract_right W w t task name x)
            extract_not_given (Fault code) refused =
                absurd (not_given y p r (Refused code) room refused)
            extract_not_given Memory refused = extract_room room

            pub extract_given : (z : Space) (n : ℕ) (q : PortRight) (v : World)
                → give_right y p r ≡ Ok (z, n)
                → q ≡ given x
                → v ≡ with_store w (moved w.store u h p q t z)
                → call_extract_right W w t task name x ≡ Ok (v, Name n)
            unfolding ◌>>◌ check refuse_if
            extract_given z n q v put q_is done =
                let parts = given_parts y z p n r put in
                let at : is_full (if t == u then h else space w.store t) ≡ false =
                ap is_full (sym second) ∙ room in
                let here : place y p r ≡ place (if t == u then h else space w.store t) p (given x) =
                ap (place y p) r_is ∙ ap (λ k. place k p (given x)) second in
                let space_is = parts.0 ∙ ap (λ k. k.space) here in
                let name_is = parts.1 ∙ ap (λ k. k.name) here in
                let whole = done ∙ ap (λ k. with_store w (moved w.store u h p k t z)) q_is
                ∙ ap (λ k. with_store w (moved w.store u h p (given x) t k)) space_is in
                extract_taken ∙ rw (trusted, at) (λ i. Ok (sym whole i, Name (sym name_is i)))
