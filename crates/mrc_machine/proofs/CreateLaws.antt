-- What making a task comes to, from what each step of code tells.
use Rattle.std.proofs.Common.{◌≡◌, ℕ, ◌<◌, Bool, true, false, Option, Some, None, Ok, Err, refl}
use Rattle.std.proofs.Common.{sym}
use Rattle.std.proofs.Common.{◌∙◌, ◌+◌, ◌^◌, ap, subst, nat_le, nat_lt, if◌then◌else◌}
use Rattle.std.specs.Prelude.{◌||◌, IsOk, IsSome}
use Rattle.std.specs.Option.{option_and_then, unwrap_or}
use Rattle.std.proofs.lemmas.Bool.{le-leb, lt-leb, ltb-false}
use Rattle.mrc_base.specs.Limits.{limit_of_ports, limit_of_births}
use Rattle.mrc_model.specs.CallCreateTask.{limit_of_task_numbers}
use Rattle.mrc_base.specs.declared.memory.OrMemory.{OrMemory}
use Rattle.mrc_base.specs.declared.memory.OrMemory.TheVariants.{Fault, Memory}
use Rattle.mrc_base.specs.declared.PortRight.TheVariants.{Send}
use Rattle.mrc_model.specs.declared.Code.{Code}
use Rattle.mrc_model.specs.declared.Code.TheVariants.{KernInvalidArgument, KernNoSpace}
use Rattle.mrc_model.specs.declared.Code.TheVariants.{KernResourceShortage}
use Rattle.mrc_model.specs.Map.{Map, empty, get, insert, len, next_key, remove}
use Rattle.mrc_model.specs.World.{Space, Store, Task, World, class_of, space}
use Rattle.mrc_model.specs.World.{task_class}
use Rattle.mrc_model.specs.declared.Entry.TheVariants.{Send as SendEntry}
use Rattle.mrc_model.specs.CallAllocate.{new_port}
use Rattle.mrc_model.specs.Reply.{Created, Refused, ◌>>=◌, ◌>>◌, or_refuse, refuse_if}
use Rattle.mrc_model.specs.declared.Entry.{Entry}
use Rattle.mrc_model.specs.Space.{is_full, place, put_entry, give_item}
use Rattle.mrc_model.specs.Target.{with_space, with_store}
use Rattle.mrc_model.specs.declared.Item.TheVariants.{Right as RightItem}
use Rattle.mrc_model.specs.CallCreateTask.{call_create_task, is_short_of_tasks, with_task}
use Rattle.mrc_model.proofs.Maps.{get-insert_same, get-insert_other, get-next_key, not_None}
use Rattle.mrc_map.specs.Entries.{below}
use Rattle.mrc_names.specs.Refusals.{IsRefusal}
use Rattle.mrc_names.specs.Takes.{give_right}
use Rattle.mrc_ports.specs.Tables.{table_of, is_short, with_home}
use Rattle.mrc_ports.proofs.TableLaws.{below_is, remove_next}
use Rattle.mrc_machine.specs.Housing.{target_of, kernel_class_of, IsHoused}
use Rattle.mrc_machine.proofs.HousingLaws.{housed_task, next_number, space_back}
use Rattle.mrc_machine.proofs.AllocateLaws.{put_after}
use Rattle.mrc_machine.proofs.MoveLaws.{swap_spaces}
use Rattle.mrc_machine.proofs.TakeLaws.{given_parts, not_given}
use Rattle.mrc_machine.proofs.TargetLaws.{target_none, target_some}

-- a space that is there
some_space : (o : Option Space) → IsSome o → Some (unwrap_or o empty) ≡ o
some_space None has = cc
some_space (Some x) has = refl

-- one of three tests

first_two : (a b c : Bool) → (a || b) ≡ true → (a || b || c) ≡ true
first_two true b c is = refl
first_two false true c is = refl
first_two false false c is = cc

last_one : (a b c : Bool) → (a || b) ≡ false → (a || b || c) ≡ c
last_one true b c is = cc
last_one false true c is = cc
last_one false false c is = refl

-- what code tells of shortages

short_by_table : (w : World) → is_short (table_of w.store) ≡ true → is_short_of_tasks w ≡ true
short_by_table w short =
    first_two (nat_le limit_of_ports (len w.store.ports))
    (nat_le limit_of_births w.store.next)
    (nat_le limit_of_task_numbers (next_key w.tasks)) short

short_by_tasks : (w : World) (b : Bool)
    → is_short (table_of w.store) ≡ false
    → nat_le limit_of_task_numbers (next_key w.tasks) ≡ b
    → is_short_of_tasks w ≡ b
short_by_tasks w b few is =
    last_one (nat_le limit_of_ports (len w.store.ports))
    (nat_le limit_of_births w.store.next)
    (nat_le limit_of_task_numbers (next_key w.tasks)) few
    ∙ is

-- a number that is not below the limit
not_below : (limit k : ℕ) → below limit k ≡ None → nat_le limit k ≡ true
not_below limit k is = go (nat_lt k limit) refl is
  where
    go : (b : Bool) → nat_lt k limit ≡ b → (if b then Some k else None) ≡ None
        → nat_le limit k ≡ true
    go true t z = absurd (not_None k z)
    go false t z = le-leb limit k (ltb-false k limit t)

module _ (w : World) (t task : ℕ) where
  pub create_no_task : target_of w t task ≡ None
      → call_create_task w t task ≡ Err (Refused KernInvalidArgument)
  unfolding call_create_task ◌>>=◌
  create_no_task none = rw (target_none w t task KernInvalidArgument none) refl

  module _ (u : ℕ) (task_is : target_of w t task ≡ Some u) where
    pub create_no_class : kernel_class_of w u ≡ None
        → call_create_task w t task ≡ Err (Refused KernInvalidArgument)
    unfolding call_create_task ◌>>=◌ or_refuse
    create_no_class none = go (get w.tasks u) refl none
      where
        go : (o : Option Task)
            → get w.tasks u ≡ o
            → option_and_then (λ (x : Task). class_of w.store x.kernel) o ≡ None
            → call_create_task w t task ≡ Err (Refused KernInvalidArgument)
        go None at is = rw (target_some w t task u KernInvalidArgument task_is, at) refl
        go (Some x) at is = rw (target_some w t task u KernInvalidArgument task_is, at, is) refl

    module _ (c : ℕ) (class_is : kernel_class_of w u ≡ Some c) where
      -- the task, whose kernel port is live
      found : (x : Task) × (get w.tasks u ≡ Some x) × (class_of w.store x.kernel ≡ Some c)
      found = go (get w.tasks u) refl class_is
        where
          go : (o : Option Task)
              → get w.tasks u ≡ o
              → option_and_then (λ (x : Task). class_of w.store x.kernel) o ≡ Some c
              → (x : Task) × (get w.tasks u ≡ Some x) × (class_of w.store x.kernel ≡ Some c)
          go None at is = absurd (not_None c (sym is))
          go (Some x) at is = (x, at, is)

      pub create_full : is_full (space w.store t) ≡ true
          → call_create_task w t task ≡ Err (Refused KernNoSpace)
      unfolding call_create_task ◌>>=◌ ◌>>◌ or_refuse refuse_if
      create_full full =
          let (x, at, has) = found in
          rw (target_some w t task u KernInvalidArgument task_is, at, has, full) refl

      module _ (room : is_full (space w.store t) ≡ false) where
        shortage : is_short_of_tasks w ≡ true
            → call_create_task w t task ≡ Err (Refused KernResourceShortage)
        unfolding call_create_task ◌>>=◌ ◌>>◌ or_refuse refuse_if
        shortage short =
            let (x, at, has) = found in
            rw (target_some w t task u KernInvalidArgument task_is, at, has, room, short) refl

        pub create_short : is_short (table_of w.store) ≡ true
            → call_create_task w t task ≡ Err (Refused KernResourceShortage)
        create_short short = shortage (short_by_table w short)

        module _ (few : is_short (table_of w.store) ≡ false) where
          pub create_last : below limit_of_task_numbers (next_key w.tasks) ≡ None
              → call_create_task w t task ≡ Err (Refused KernResourceShortage)
          create_last none = shortage (short_by_tasks w true few
              (not_below limit_of_task_numbers (next_key w.tasks) none))

          module _ (child : ℕ)
              (next : below limit_of_task_numbers (next_key w.tasks) ≡ Some child) where
            -- the world with the new task
            made : World
            made = with_task w (next_key w.tasks) (task_class w u) c

            enough : is_short_of_tasks w ≡ false
            enough =
                let (is, low) = below_is limit_of_task_numbers (next_key w.tasks) child next in
                short_by_tasks w false few (lt-leb limit_of_task_numbers (next_key w.tasks) low)

            created : call_create_task w t task
                ≡ Ok (
                  with_store made (give_item made.store t (RightItem w.store.next Send)).0,
                  Created (next_key w.tasks)
                      (give_item made.store t (RightItem w.store.next Send)).1,
                )
            unfolding call_create_task ◌>>=◌ ◌>>◌ or_refuse refuse_if made
            created =
                let (x, at, has) = found in
                rw (target_some w t task u KernInvalidArgument task_is, at, has, room, enough) refl

            pub create_goes : IsOk (call_create_task w t task)
            create_goes = subst IsOk (sym created) refl

            -- the caller is another task
            apart : IsSome (get w.tasks t) → t ≡ next_key w.tasks → ⊥
            apart there same =
                let none : false ≡ true = subst (λ o. IsSome o)
                (ap (get w.tasks) same ∙ get-next_key w.tasks) there in cc

            -- which keeps its space
            made_space : IsSome (get w.tasks t) → space made.store t ≡ space w.store t
            unfolding made
            made_space there = ap (λ o. unwrap_or o empty)
                (get-insert_other w.store.spaces (next_key w.tasks) _ t (apart there))

            module _ (y : Space) (copy : y ≡ space w.store t) (p : ℕ) (p_is : p ≡ w.store.next)
              where
                pub create_not_given : (e : OrMemory Code)
                    → IsRefusal e (give_right y p Send)
                    → IsRefusal e (call_create_task w t task)
                create_not_given (Fault code) refused =
                    absurd (not_given y p Send (Refused code) (ap is_full copy ∙ room) refused)
                create_not_given Memory refused = create_goes

                pub create_done : (z : Space) (n wired : ℕ) (v1 v2 : World)
                    → IsSome (get w.tasks t)
                    → give_right y p Send ≡ Ok (z, n)
                    → wired ≡ task_class w u
                    → v1 ≡ with_task w child wired c
                    → v2 ≡ with_space v1 t z
                    → call_create_task w t task ≡ Ok (v2, Created child n)
                unfolding give_item made
                create_done z n wired v1 v2 there given class begin put =
                    let parts = given_parts y z p n Send given in
                    let number = (below_is limit_of_task_numbers (next_key w.tasks) child next).0 in
                    let here : place y p Send ≡ place (space made.store t) w.store.next Send =
                    ap (λ k. place k p Send) (copy ∙ sym (made_space there))
                    ∙ ap (λ k. place (space made.store t) k Send) p_is in
                    let made_is : v1 ≡ made =
                    begin ∙ ap (λ k. with_task w k wired c) (sym number)
                    ∙ ap (λ k. with_task w (next_key w.tasks) k c) class in
                    let whole : v2 ≡ with_space made t
                    (place (space made.store t) w.store.next Send).space =
                    put ∙ ap (λ k. with_space k t z) made_is
                    ∙ ap (with_space made t) (parts.0 ∙ ap (λ k. k.space) here) in
                    let name = parts.1 ∙ ap (λ k. k.name) here in
                    created ∙ (λ i. Ok (sym whole i, Created (number i) (sym name i)))

-- where the caller was given its right first
pub given_first : (w w1 v : World) (t child wired c : ℕ) (y : Space)
    → IsSome (get w.tasks t)
    → below limit_of_task_numbers (next_key w.tasks) ≡ Some child
    → w1 ≡ with_space w t y
    → v ≡ with_task w1 child wired c
    → v ≡ with_space (with_task w child wired c) t y
given_first w w1 v t child wired c y there next gave begin =
    let number = (below_is limit_of_task_numbers (next_key w.tasks) child next).0 in
    let apart : t ≡ child → ⊥ = λ same.
    let none : false ≡ true = subst (λ o. IsSome o)
    (ap (get w.tasks) (same ∙ sym number) ∙ get-next_key w.tasks) there in cc in
    begin ∙ ap (λ (k : World). with_task k child wired c) gave
    ∙ ap (λ (m : Map Space). record (with_task w child wired c) {
      store = record (with_task w child wired c).store { spaces = m };
    }) (swap_spaces w.store.spaces child t (insert empty 1 (SendEntry w.store.next 1)) y apart)

-- the caller has that space
pub own_space : (w v : World) (t : ℕ) (y : Space) → v ≡ with_space w t y → space v.store t ≡ y
own_space w v t y is =
    ap (λ (k : World). space k.store t) is
    ∙ ap (λ o. unwrap_or o empty) (get-insert_same w.store.spaces t y)

-- the right is taken back
pub gone_back : (w w1 v : World) (t n : ℕ) (y : Space) (former : Option Entry)
    → IsSome (get w.store.spaces t)
    → w1 ≡ with_space w t y
    → put_entry y n former ≡ space w.store t
    → v ≡ with_space w1 t (put_entry (space w1.store t) n former)
    → v ≡ w
gone_back w w1 v t n y former there gave back left =
    let own : space w1.store t ≡ y = own_space w w1 t y gave in
    put_after w w1 v t y (space w.store t) gave
    (left ∙ ap (with_space w1 t) (ap (λ k. put_entry k n former) own ∙ back))
    ∙ space_back w t (space w.store t) (some_space (get w.store.spaces t) there)

-- a task that begins

-- the world with a task of one number and a space of another
abbrev begun : World → ℕ → ℕ → Space → Task → ℕ → World
begun w t h x task class = record {
  tasks = insert w.tasks t task;
  store = record {
    next = w.store.next + 1;
    spaces = insert w.store.spaces h x;
    ports = insert w.store.ports w.store.next (new_port class);
  };
}

-- from what each step of code tells
module _ (ts us : Map Task) (s : Store) (w : World) (t key : ℕ) (task : Task)
    (h : IsHoused record { tasks = ts; store = s })
    (view : ◌≡◌ {A = World} record { tasks = ts; store = s } w)
    (next : below limit_of_task_numbers (next_key w.tasks) ≡ Some t)
    (key_is : key ≡ t)
    (task_is : us ≡ insert ts key task) where
  -- the number is the next one among the tasks, and among the spaces
  next_task_is : next_key ts ≡ key
  next_task_is =
      ap (λ (v : World). next_key v.tasks) view
      ∙ (below_is limit_of_task_numbers (next_key w.tasks) t next).0 ∙ sym key_is

  next_space_is : next_key s.spaces ≡ key
  next_space_is = sym (next_number ts s h) ∙ next_task_is

  pub begun_housed : (z : Store) (x : Space) (class kernel wired : ℕ)
      → z ≡ with_home s x class
      → kernel ≡ w.store.next
      → task ≡ record { alive = true; kernel = kernel; class = wired }
      → IsHoused record { tasks = us; store = z }
  begun_housed z x class kernel wired is kernel_is is_task =
      let (same, low) = below_is limit_of_task_numbers (next_key w.tasks) t next in
      housed_task ts us s z key x task h (subst (λ n. n < 2 ^ 32) (same ∙ sym key_is) low)
      next_task_is
      (ap (λ (y : Task). y.kernel) is_task ∙ kernel_is
      ∙ sym (ap (λ (v : World). v.store.next) view))
      (ap (λ (y : Store). y.spaces) is ∙ ap (λ k. insert s.spaces k x) next_space_is)
      (ap (λ (y : Store). y.next) is) task_is

  pub begun_is : (z : Store) (x : Space) (class kernel wired : ℕ)
      → z ≡ with_home s x class
      → kernel ≡ w.store.next
      → x ≡ insert empty 1 (SendEntry kernel 1)
      → task ≡ record { alive = true; kernel = kernel; class = wired }
      → ◌≡◌ {A = World} record { tasks = us; store = z } (with_task w t wired class)
  begun_is z x class kernel wired is kernel_is space_is is_task =
      let whole : ◌≡◌ {A = World} record { tasks = us; store = z }
      (begun record { tasks = ts; store = s } key (next_key s.spaces) x task class) =
      λ i. record { tasks = task_is i; store = is i } in
      let kernel' = ap (λ k. insert empty 1 (SendEntry k 1)) kernel_is in
      let own : task ≡ record { alive = true; kernel = w.store.next; class = wired } =
      is_task ∙ ap (λ k. record { alive = true; kernel = k; class = wired }) kernel_is in
      whole
      ∙ ap (λ (v : World). begun v key (next_key s.spaces) x task class) view
      ∙ ap (λ k. begun w key k x task class) (next_space_is ∙ key_is)
      ∙ ap (λ k. begun w k t x task class) key_is
      ∙ ap (λ y. begun w t t y task class) (space_is ∙ kernel')
      ∙ ap (λ y. begun w t t (insert empty 1 (SendEntry w.store.next 1)) y class) own

  -- where there was no memory for its space or its port
  tasks_back : (out : Map Task) → out ≡ remove us key → out ≡ ts
  tasks_back out is =
      is ∙ ap (λ m. remove m key) task_is ∙ remove_next ts key task next_task_is

  pub undone_housed : (out : Map Task) (z : Store)
      → out ≡ remove us key
      → z ≡ s
      → IsHoused record { tasks = out; store = z }
  undone_housed out z is same =
      subst (λ (v : World). IsHoused v)
      (λ i. record { tasks = sym (tasks_back out is) i; store = sym same i }) h

  pub undone_is : (out : Map Task) (z : Store)
      → out ≡ remove us key
      → z ≡ s
      → ◌≡◌ {A = World} record { tasks = out; store = z } w
  undone_is out z is same =
      let back : ◌≡◌ {A = World} record { tasks = out; store = z }
      record { tasks = ts; store = s } =
      λ i. record { tasks = tasks_back out is i; store = same i } in
      back ∙ view
