-- What is held in the first state is what its lines give.
use Rattle.std.proofs.Common.{◌≡◌, ℕ, zero, suc, ◌+◌, ◌<◌, ◌≤◌, ◌⊎◌, inl, inr, Bool, true, false}
use Rattle.std.proofs.Common.{List, [], ◌∷◌, ◌++◌, length, Option, Some, None, Ok, Err, refl, sym}
use Rattle.std.proofs.Common.{◌∙◌, ap, subst, arith, ◌==◌, nat_lt, if◌then◌else◌}
use Rattle.std.specs.Prelude.{slice_get, is_ok}
use Rattle.std.specs.Option.{unwrap_or, option_map}
use Rattle.std.proofs.lemmas.Bool.{cases_eq, ltb-true, ltb-false, lt-ltb, eqb-true}
use Rattle.mrc_base.specs.declared.PortRight.{PortRight}
use Rattle.mrc_base.specs.declared.PortRight.TheVariants.{Send, Receive, SendOnce}
use Rattle.mrc_model.specs.declared.Entry.{Entry}
use Rattle.mrc_model.specs.declared.Entry.TheVariants.{Receive as ReceiveEntry, Send as SendEntry}
use Rattle.mrc_model.specs.declared.Entry.TheVariants.{SendOnce as OnceEntry, PortSet as SetEntry}
use Rattle.mrc_model.specs.declared.Entry.TheVariants.{DeadName as DeadEntry}
use Rattle.mrc_model.specs.declared.Item.TheVariants.{Right as RightItem}
use Rattle.mrc_model.specs.declared.FirstLine.{FirstLine}
use Rattle.mrc_model.specs.declared.FirstLine.TheVariants.{Task as TaskLine, Port as PortLine}
use Rattle.mrc_model.specs.declared.FirstLine.TheVariants.{Hold as HoldLine}
use Rattle.mrc_model.specs.IsIn.{IsIn, here, later}
use Rattle.mrc_model.specs.Rights.{is_receive}
use Rattle.mrc_model.specs.Map.{Map, empty, get, insert}
use Rattle.mrc_model.specs.Wiring.{Wiring, kernel_class}
use Rattle.mrc_model.specs.World.{Space, Port, Store, Task, Held, space, class_of, task_class}
use Rattle.mrc_model.specs.World.{entry_rights, if_sends}
use Rattle.mrc_model.specs.Reply.{Try}
use Rattle.mrc_model.specs.Space.{unused, is_entry_of, entry_of, one_more, joined, place_at, place}
use Rattle.mrc_model.specs.Space.{give_item}
use Rattle.mrc_model.specs.Target.{with_store}
use Rattle.mrc_model.specs.CallAllocate.{new_port, birth}
use Rattle.mrc_model.specs.First.{First, no_world, add_task, add_lines, built, world_of, is_sound}
use Rattle.mrc_model.specs.First.{first}
use Rattle.mrc_model.specs.Breach.{Holding, Holds}
use Rattle.mrc_model.specs.FirstHoldings.{line_holdings, line_classes, HasGiven}
use Rattle.mrc_model.proofs.Maps.{same_Some, not_None, get-insert_same, get-insert_other, get-empty}
use Rattle.mrc_model.proofs.Maps.{origin-insert}
use Rattle.mrc_model.proofs.Tries.{Gives, gives_ok, bind, bind_, found, checked, not_refused}
use Rattle.mrc_model.proofs.Spaces.{get-unused, entry_of-some}

abbrev held : ℕ → PortRight → Held
held p r = record { port = p; right = r }

-- members of lists

pub in_cons : {X : Type 0} (x y : X) (ys : List X) → IsIn x (y ∷ ys) → (x ≡ y) ⊎ IsIn x ys
in_cons x y ys (here) = inl refl
in_cons x y ys (later h) = inr h

pub in_one : {X : Type 0} (x y : X) → IsIn x (y ∷ []) → x ≡ y
in_one x y (here) = refl
in_one x y (later h) = elim h [ ]

-- what a space shows

-- an entry of the space shows the right
abbrev pub Shows : Space → Held → Type 0
Shows x h = (n : ℕ) × (e : Entry) × (get x n ≡ Some e) × IsIn h (entry_rights e)

-- y shows what x shows, and the right h
pub record ShowsToo (x y : Space) (h : Held) : Type 0 where
  pub from : (g : Held) → Shows y g → (g ≡ h) ⊎ Shows x g
  pub kept : (g : Held) → Shows x g → Shows y g
  pub given : Shows y h

-- an entry under a new name
shows_new : (x : Space) (n : ℕ) (e : Entry) (h : Held) → get x n ≡ None → entry_rights e ≡ h ∷ []
    → ShowsToo x (insert x n e) h
shows_new x n e h free is = record {
  from = λ g s. elim (origin-insert x n e s.0 s.1 s.2) [
    | inl at ↦ inl (in_one g h (subst (IsIn g) (ap entry_rights (sym at.1) ∙ is) s.3))
    | inr at ↦ inr (s.0, s.1, at.1, s.3)
  ];
  kept =
      λ g s. (
        s.0,
        s.1,
        get-insert_other x n e s.0
            (λ z. not_None s.1 (sym s.2 ∙ ap (get x) z ∙ free)) ∙ s.2,
        s.3,
      );
  given = (n, e, get-insert_same x n e, subst (IsIn h) (sym is) here);
}

-- an entry in the place of one that shows less
shows_over : (x : Space) (n : ℕ) (e f : Entry) (h : Held) → get x n ≡ Some e
    → ((g : Held) → IsIn g (entry_rights f) → (g ≡ h) ⊎ IsIn g (entry_rights e))
    → ((g : Held) → IsIn g (entry_rights e) → IsIn g (entry_rights f)) → IsIn h (entry_rights f)
    → ShowsToo x (insert x n f) h
shows_over x n e f h was from kept given = record {
  from = λ g s. elim (origin-insert x n f s.0 s.1 s.2) [
    | inl at ↦ elim (from g
        (subst (λ v. IsIn g (entry_rights v)) (sym at.1) s.3)) [
          | inl z ↦ inl z
          | inr z ↦ inr
              (n, e, was, z)
        ]
    | inr at ↦ inr (s.0, s.1, at.1, s.3)
  ];
  kept = λ g s. elim (cases_eq s.0 n) [
    | inl z ↦ (
      n,
      f,
      get-insert_same x n f,
      (let same = same_Some s.1 e (sym s.2 ∙ ap (get x) z ∙ was) in
          kept g (subst (λ v. IsIn g (entry_rights v)) same s.3)),
    )
    | inr z ↦ (s.0, s.1, get-insert_other x n f s.0 z ∙ s.2, s.3)
  ];
  given = (n, f, get-insert_same x n f, given);
}

-- a right that joins the port's entry

in_sends : (k q : ℕ) (g : Held) → IsIn g (if_sends k q) → g ≡ held q Send
in_sends k q g h =
    let go : (b : Bool) → IsIn g (if b then (held q Send) ∷ [] else []) → g ≡ held q Send = elim [
      | true ↦ λ z. in_one g (held q Send) z
      | false ↦ λ z. elim z [ ]
    ] in
    go (nat_lt 0 k) h

sends_in : (k q : ℕ) → 0 < k → IsIn (held q Send) (if_sends k q)
sends_in k q h =
    subst (λ b. IsIn (held q Send) (if b then (held q Send) ∷ [] else [])) (sym (lt-ltb 0 k h)) here

one_more_some : (k : ℕ) → 0 < one_more k
one_more_some k = let go : (b : Bool) → nat_lt k 65535 ≡ b → 0 < (if b then k + 1 else k) = elim
    [ true ↦ λ z. omega arith | false ↦ λ z. let l = ltb-false k 65535 z in omega arith ] in go
    (nat_lt k 65535) refl

more_sends : (k q : ℕ) (g : Held) → IsIn g (if_sends k q) → IsIn g (if_sends (one_more k) q)
more_sends k q g h = rw (in_sends k q g h) (sends_in (one_more k) q (one_more_some k))

at_port : (q p : ℕ) → (q == p) ≡ true → held q Send ≡ held p Send
at_port q p is = ap (λ z. held z Send) (eqb-true q p is)

joined_from : (p : ℕ) (e : Entry) → is_entry_of p e ≡ true → (g : Held)
    → IsIn g (entry_rights (joined e Send)) → (g ≡ held p Send) ⊎ IsIn g (entry_rights e)
joined_from p (ReceiveEntry q k i) is g h =
    elim (in_cons g (held q Receive) (if_sends (one_more k) q) h) [
      | inl z ↦ inr (subst (λ v. IsIn v ((held q Receive) ∷ if_sends k q)) (sym z) here)
      | inr z ↦ inl (in_sends (one_more k) q g z ∙ at_port q p is)
    ]
joined_from p (SendEntry q k) is g h = inr h
joined_from p (OnceEntry q) is g h = inr h
joined_from p SetEntry is g h = inr h
joined_from p (DeadEntry k) is g h = inr h

joined_kept : (e : Entry) (g : Held) → IsIn g (entry_rights e)
    → IsIn g (entry_rights (joined e Send))
joined_kept (ReceiveEntry q k i) g h = elim (in_cons g (held q Receive) (if_sends k q) h) [
  | inl z ↦ subst (λ v. IsIn v ((held q Receive) ∷ if_sends (one_more k) q)) (sym z) here
  | inr z ↦ later (more_sends k q g z)
]
joined_kept (SendEntry q k) g h = h
joined_kept (OnceEntry q) g h = h
joined_kept SetEntry g h = h
joined_kept (DeadEntry k) g h = h

joined_given : (p : ℕ) (e : Entry) → is_entry_of p e ≡ true
    → IsIn (held p Send) (entry_rights (joined e Send))
joined_given p (ReceiveEntry q k i) is =
    subst (λ v. IsIn v ((held q Receive) ∷ if_sends (one_more k) q)) (at_port q p is)
    (later (sends_in (one_more k) q (one_more_some k)))
joined_given p (SendEntry q k) is = subst (λ v. IsIn v ((held q Send) ∷ [])) (at_port q p is) here
joined_given p (OnceEntry q) is = cc
joined_given p SetEntry is = cc
joined_given p (DeadEntry k) is = cc

-- what is given is shown, and all else stays
place_shows : (x : Space) (p : ℕ) (r : PortRight) → is_receive r ≡ false
    → ShowsToo x (place x p r).space (held p r)
place_shows x p Send z =
    let go : (o : Option (ℕ × Entry)) → entry_of x p ≡ o
    → ShowsToo x (place_at x p Send o).space (held p Send) = elim [
      | None ↦ λ none. shows_new x (unused x) (SendEntry p 1) _ (get-unused x) refl
      | Some e ↦ λ some. let at = entry_of-some x p e some in
          shows_over x e.0 e.1 (joined e.1 Send) _ at.0 (joined_from p e.1 at.1) (joined_kept e.1)
          (joined_given p e.1 at.1)
    ] in
    go (entry_of x p) refl
place_shows x p Receive z = cc
place_shows x p SendOnce z = shows_new x (unused x) (OnceEntry p) _ (get-unused x) refl

-- what stores show

abbrev holding : ℕ → Held → Holding
holding t h = record { task = t; port = h.port; right = h.right }

-- z shows what s shows, and these holdings
pub record Leads (s z : Store) (gs : List Holding) : Type 0 where
  pub from : (t : ℕ) (h : Held) → Shows (space z t) h → IsIn (holding t h) gs ⊎ Shows (space s t) h
  pub kept : (t : ℕ) (h : Held) → Shows (space s t) h → Shows (space z t) h
  pub given : (t : ℕ) (h : Held) → IsIn (holding t h) gs → Shows (space z t) h

leads_none : (s : Store) → Leads s s []
leads_none s = record { from = λ t h x. inr x; kept = λ t h x. x; given = λ t h x. elim x [ ] }

-- one space changes
leads_one : (s z : Store) (t : ℕ) (y : Space) (h : Held) → z.spaces ≡ insert s.spaces t y
    → ShowsToo (space s t) y h → Leads s z (holding t h ∷ [])
leads_one s z t y h is too =
    let here_is : space z t ≡ y = ap (λ m. unwrap_or (get m t) empty) is
    ∙ ap (λ o. unwrap_or o empty) (get-insert_same s.spaces t y) in
    let other : (u : ℕ) → (u ≡ t → ⊥)
    → space z u ≡ space s u = λ u n. ap (λ m. unwrap_or (get m u) empty) is
    ∙ ap (λ o. unwrap_or o empty) (get-insert_other s.spaces t y u n) in
    record {
      from = λ u g x. elim (cases_eq u t) [
        | inl e ↦ elim (too.from g (subst (λ v. Shows v g) (ap (space z) e ∙ here_is) x)) [
          | inl same ↦ inl (subst (λ v. IsIn v (holding t h ∷ [])) (ap (holding t) (sym same)
              ∙ ap (λ v. holding v g) (sym e)) here)
          | inr before ↦ inr (subst (λ v. Shows (space s v) g) (sym e) before)
        ]
        | inr n ↦ inr (subst (λ v. Shows v g) (other u n) x)
      ];
      kept = λ u g x. elim (cases_eq u t) [
        | inl e ↦ subst (λ v. Shows v g) (sym (ap (space z) e
            ∙ here_is)) (too.kept g (subst (λ v. Shows (space s v) g) e x))
        | inr n ↦ subst (λ v. Shows v g) (sym (other u n)) x
      ];
      given = λ u g x. let same = in_one (holding u g) (holding t h) x in
          let e : u ≡ t = ap (λ (v : Holding). v.task) same in
          let at : g ≡ h = ap (λ (v : Holding). held v.port v.right) same in
          subst (λ v. Shows v g) (sym (ap (space z) e
          ∙ here_is)) (subst (Shows y) (sym at) too.given);
    }

leads_more : (s y z : Store) (h : Holding) (hs : List Holding) → Leads s y (h ∷ []) → Leads y z hs
    → Leads s z (h ∷ hs)
leads_more s y z h hs a b = record {
  from = λ t g x. elim (b.from t g x) [
    | inl there ↦ inl (later there)
    | inr before ↦ elim (a.from t g before) [
      | inl one ↦ inl (subst (λ v. IsIn v (h ∷ hs))
          (sym (in_one (holding t g) h one)) here)
      | inr first ↦ inr first
    ]
  ];
  kept = λ t g x. b.kept t g (a.kept t g x);
  given = λ t g x. elim (in_cons (holding t g) h hs x) [
    | inl same ↦ b.kept t g (a.given t g (subst (λ v. IsIn v (h ∷ [])) (sym same) here))
    | inr there ↦ b.given t g there
  ];
}

-- classes by birth number

at_end : (cs : List ℕ) (c : ℕ) → slice_get (cs ++ c ∷ []) (length cs) ≡ Some c
at_end [] c = refl
at_end (b ∷ cs) c = at_end cs c

not_end : (cs : List ℕ) (c p : ℕ) → (p ≡ length cs → ⊥)
    → slice_get (cs ++ c ∷ []) p ≡ slice_get cs p
not_end [] c zero n = absurd (n refl)
not_end [] c (suc p) n = refl
not_end (b ∷ cs) c zero n = refl
not_end (b ∷ cs) c (suc p) n = not_end cs c p (λ z. n (ap suc z))

append_one : (cs : List ℕ) (c : ℕ) (more : List ℕ) → (cs ++ c ∷ []) ++ more ≡ cs ++ c ∷ more
append_one [] c more = refl
append_one (b ∷ cs) c more = ap (λ v. b ∷ v) (append_one cs c more)

append_none : (cs : List ℕ) → cs ++ [] ≡ cs
append_none [] = refl
append_none (b ∷ cs) = ap (λ v. b ∷ v) (append_none cs)

length_more : (cs : List ℕ) (c : ℕ) → length (cs ++ c ∷ []) ≡ length cs + 1
length_more [] c = refl
length_more (b ∷ cs) c = let rest = length_more cs c in omega arith

abbrev class_in : Map Port → ℕ → Option ℕ
class_in m p = option_map (λ (x : Port). x.class) (get m p)

class_more : (m : Map Port) (n : ℕ) (cs : List ℕ) (c : ℕ) → n ≡ length cs
    → ((p : ℕ) → class_in m p ≡ slice_get cs p) → (p : ℕ)
    → class_in (insert m n (new_port c)) p ≡ slice_get (cs ++ c ∷ []) p
class_more m n cs c is all p = elim (cases_eq p n) [
  | inl e ↦ ap (class_in (insert m n (new_port c))) e
      ∙ ap (option_map (λ (x : Port). x.class)) (get-insert_same m n (new_port c))
      ∙ sym (at_end cs c) ∙ ap (slice_get (cs ++ c ∷ [])) (sym is ∙ sym e)
  | inr no_more ↦ ap (option_map (λ (x : Port). x.class))
      (get-insert_other m n (new_port c) p no_more) ∙ all p ∙ sym
      (not_end cs c p (λ z. no_more (z ∙ sym is)))
]

-- the lines, one after the other

-- the state after some lines, which made ports of these classes
pub record Tidy (f : First) (cs : List ℕ) : Type 0 where
  pub absent : (t : ℕ) → f.tasks ≤ t → get f.world.store.spaces t ≡ None
  pub own : (t : ℕ) → task_class f.world t ≡ t
  pub next : f.world.store.next ≡ length cs
  pub classes : (p : ℕ) → class_of f.world.store p ≡ slice_get cs p

-- a send right of the task
abbrev pub own_right : ℕ → ℕ → Holding
own_right t p = record { task = t; port = p; right = Send }

-- what the state has after further lines
pub record Ends (W : Wiring) (f : First) (cs : List ℕ) (ls : List FirstLine)
    (g : First) : Type 0 where
  pub leads : Leads f.world.store g.world.store (line_holdings f.tasks f.world.store.next ls)
  pub classes : (p : ℕ)
      → class_of g.world.store p ≡ slice_get (cs ++ line_classes W f.tasks f.ports ls) p
  pub own : (t : ℕ) → task_class g.world t ≡ t
  pub kernels : (t : ℕ) (x : Task) → get g.world.tasks t ≡ Some x
      → (get f.world.tasks t ≡ Some x)
      ⊎ IsIn (own_right t x.kernel) (line_holdings f.tasks f.world.store.next ls)

-- a new task's send right to its kernel port is what its line gives
own_here : (f : First) (made : Task) (t : ℕ) (x : Task) (more : List Holding)
    → made.kernel ≡ f.world.store.next → t ≡ f.tasks → made ≡ x
    → IsIn (own_right t x.kernel) (own_right f.tasks f.world.store.next ∷ more)
own_here f made t x more kernel number same =
    subst (λ v. IsIn v (own_right f.tasks f.world.store.next ∷ more))
    (ap (own_right f.tasks) (sym kernel ∙ ap (λ (v : Task). v.kernel) same)
    ∙ ap (λ v. own_right v x.kernel) (sym number)) here

tidy_task : (W : Wiring) (f : First) (cs : List ℕ) → Tidy f cs
    → Tidy (add_task W f) (cs ++ kernel_class W f.tasks ∷ [])
tidy_task W f cs tidy = record {
  absent =
      λ t above. get-insert_other f.world.store.spaces f.tasks _ t (λ z. absurd (omega arith))
      ∙ tidy.absent t (omega arith);
  own = λ t. elim (cases_eq t f.tasks) [
    | inl e ↦ ap (λ v. unwrap_or
        (option_map (λ (x : Task). x.class) (get (add_task W f).world.tasks v)) v) e ∙ ap
        (λ o. unwrap_or (option_map (λ (x : Task). x.class) o) f.tasks)
        (get-insert_same f.world.tasks f.tasks _) ∙ sym e
    | inr apart ↦ ap (λ o. unwrap_or (option_map (λ (x : Task). x.class) o) t)
        (get-insert_other f.world.tasks f.tasks _ t apart) ∙ tidy.own t
  ];
  next = let a = length_more cs (kernel_class W f.tasks) in let b = tidy.next in omega arith;
  classes =
      class_more f.world.store.ports f.world.store.next cs
      (kernel_class W f.tasks) tidy.next tidy.classes;
}

task_shows : (W : Wiring) (f : First) (cs : List ℕ) → Tidy f cs → Leads f.world.store
    (add_task W f).world.store
    (record { task = f.tasks; port = f.world.store.next; right = Send } ∷ [])
task_shows W f cs tidy =
    let none : space f.world.store f.tasks ≡ empty = ap (λ o. unwrap_or o empty)
    (tidy.absent f.tasks (omega arith)) in
    leads_one f.world.store (add_task W f).world.store f.tasks
    (insert empty 1 (SendEntry f.world.store.next 1)) (held f.world.store.next Send) refl
    (subst (λ x. ShowsToo x (insert empty 1 (SendEntry f.world.store.next 1))
    (held f.world.store.next Send)) (sym none)
    (shows_new empty 1 (SendEntry f.world.store.next 1) _ (get-empty 1) refl))

-- a space of a task that is there changes, ports and tasks stay or one port comes
tidy_port : (f : First) (t : ℕ) (cs : List ℕ) → Tidy f cs → t < f.tasks
    → Tidy (record {
      tasks = f.tasks;
      ports = f.ports + 1;
      world = with_store f.world (birth f.world.store t f.ports);
    }) (cs ++ f.ports ∷ [])
tidy_port f t cs tidy there = record {
  absent =
      λ u above. get-insert_other f.world.store.spaces t _ u (λ z. absurd (omega arith))
      ∙ tidy.absent u above;
  own = tidy.own;
  next = let a = length_more cs f.ports in let b = tidy.next in omega arith;
  classes = class_more f.world.store.ports f.world.store.next cs f.ports tidy.next tidy.classes;
}

port_shows : (f : First) (t : ℕ) → Leads f.world.store (birth f.world.store t f.ports)
    (record { task = t; port = f.world.store.next; right = Receive } ∷ [])
port_shows f t =
    leads_one f.world.store (birth f.world.store t f.ports) t _
    (held f.world.store.next Receive) refl
    (shows_new (space f.world.store t) (unused (space f.world.store t))
    (ReceiveEntry f.world.store.next 0 None) _ (get-unused (space f.world.store t)) refl)

tidy_hold : (f : First) (t p : ℕ) (r : PortRight) (cs : List ℕ) → Tidy f cs → t < f.tasks → Tidy
    (record f { world = with_store f.world (give_item f.world.store t (RightItem p r)).0 }) cs
unfolding give_item
tidy_hold f t p r cs tidy there = record {
  absent =
      λ u above. get-insert_other f.world.store.spaces t _ u (λ z. absurd (omega arith))
      ∙ tidy.absent u above;
  own = tidy.own;
  next = tidy.next;
  classes = tidy.classes;
}

hold_shows : (f : First) (t p : ℕ) (r : PortRight) → is_receive r ≡ false → Leads f.world.store
    (give_item f.world.store t (RightItem p r)).0 (record { task = t; port = p; right = r } ∷ [])
unfolding give_item
hold_shows f t p r carried =
    leads_one f.world.store (give_item f.world.store t (RightItem p r)).0 t _ (held p r) refl
    (place_shows (space f.world.store t) p r carried)

same_next : (s : Store) (t p : ℕ) (r : PortRight) → (give_item s t (RightItem p r)).0.next ≡ s.next
unfolding give_item
same_next s t p r = refl

after : {A : Type 0} {P Q : A → Type 0} {m : Try A} → Gives P m → ((a : A) → P a → Q a) → Gives Q m
after x k = record { holds = λ a e. k a (x.holds a e) }

lines_end : (W : Wiring) (ls : List FirstLine) (f : First) (cs : List ℕ) → Tidy f cs
    → Gives (Ends W f cs ls) (add_lines W f ls)
lines_end W [] f cs tidy =
    gives_ok record {
      leads = leads_none f.world.store;
      classes = λ p. tidy.classes p
          ∙ ap (λ v. slice_get v p) (sym (append_none cs));
      own = tidy.own;
      kernels = λ u x at. inl at;
    }
lines_end W (TaskLine ∷ ls) f cs tidy =
    bind {Q = λ g. g ≡ add_task W f} _ _ (bind_ _ _ (checked _ _) (λ _ room. gives_ok refl))
    (λ g is.
    subst (λ v. Gives (Ends W f cs (TaskLine ∷ ls)) (add_lines W v ls)) (sym is)
    (after (lines_end W ls (add_task W f) _ (tidy_task W f cs tidy)) (λ h ends. record {
      leads =
          leads_more f.world.store (add_task W f).world.store h.world.store _ _
          (task_shows W f cs tidy) ends.leads;
      classes =
          λ p. ends.classes p ∙ ap (λ v. slice_get v p)
          (append_one cs (kernel_class W f.tasks) (line_classes W (f.tasks + 1) f.ports ls));
      own = ends.own;
      kernels = λ u x at. elim (ends.kernels u x at) [
        | inl old ↦ elim (origin-insert f.world.tasks f.tasks _ u x old) [
          | inl new ↦ inr (own_here f _ u x _ refl new.0 new.1)
          | inr before ↦ inl before.1
        ]
        | inr more ↦ inr (later more)
      ];
    })))
lines_end W (PortLine t ∷ ls) f cs tidy =
    let g0 : First = record {
      tasks = f.tasks;
      ports = f.ports + 1;
      world = with_store f.world
          (birth f.world.store t f.ports);
    } in
    bind {Q = λ g. (g ≡ g0) × (t < f.tasks)} _ _
    (bind_ _ _ (checked _ _) (λ _ there.
    bind_ _ _ (checked _ _) (λ _ room.
    bind_ _ _ (not_refused _ _) (λ _ fits. gives_ok (refl, ltb-true t f.tasks there)))))
    (λ g is.
    subst (λ v. Gives (Ends W f cs (PortLine t ∷ ls)) (add_lines W v ls)) (sym is.0)
    (after (lines_end W ls g0 _ (tidy_port f t cs tidy is.1)) (λ h ends. record {
      leads = leads_more f.world.store g0.world.store h.world.store _ _ (port_shows f t) ends.leads;
      classes =
          λ p. ends.classes p ∙ ap (λ v. slice_get v p)
          (append_one cs f.ports (line_classes W f.tasks (f.ports + 1) ls));
      own = ends.own;
      kernels =
          λ u x at. elim (ends.kernels u x at) [ inl old ↦ inl old | inr more ↦ inr (later more) ];
    })))
lines_end W (HoldLine t p r ∷ ls) f cs tidy =
    let g0 : First = record f {
      world = with_store f.world
          (give_item f.world.store t (RightItem p r)).0;
    } in
    bind {Q = λ g. (g ≡ g0) × (t < f.tasks) × (is_receive r ≡ false)} _ _
    (bind_ _ _ (not_refused _ _) (λ _ carried.
    bind_ _ _ (checked _ _) (λ _ there.
    bind _ _ (found _ _) (λ x port.
    bind_ _ _ (not_refused _ _) (λ _ fits. gives_ok (refl, ltb-true t f.tasks there, carried))))))
    (λ g is.
    subst (λ v. Gives (Ends W f cs (HoldLine t p r ∷ ls)) (add_lines W v ls)) (sym is.0)
    (after (lines_end W ls g0 _ (tidy_hold f t p r cs tidy is.1)) (λ h ends. record {
      leads =
          leads_more f.world.store g0.world.store h.world.store _ _ (hold_shows f t p r is.2) (subst
          (λ n. Leads g0.world.store h.world.store (line_holdings f.tasks n ls))
          (same_next f.world.store t p r) ends.leads);
      classes = ends.classes;
      own = ends.own;
      kernels = λ u x at. elim (ends.kernels u x at) [
        | inl old ↦ inl old
        | inr more ↦ inr (later (subst
            (λ n. IsIn (own_right u x.kernel) (line_holdings f.tasks n ls))
            (same_next f.world.store t p r) more))
      ];
    })))

-- the first state

tidy_first : Tidy record { world = no_world; tasks = 0; ports = 0 } []
tidy_first = record {
  absent = λ t above. get-empty t;
  own = λ t. ap (λ o. unwrap_or (option_map (λ (x : Task). x.class) o) t) (get-empty t);
  next = refl;
  classes = λ p. ap (option_map (λ (x : Port). x.class)) (get-empty p);
}

nothing_shown : (t : ℕ) (h : Held) → Shows (space no_world.store t) h → ⊥
nothing_shown t h s =
    not_None s.1 (sym s.2 ∙ ap (λ o. get (unwrap_or o empty) s.0) (get-empty t) ∙ get-empty s.0)

given_of : (W : Wiring) (r : Try First) → built W ≡ r → is_ok r ≡ true → Ends W record
    { world = no_world; tasks = 0; ports = 0 } [] W.lines record
    { world = world_of r; tasks = 0; ports = 0 }
given_of W (Ok f) is ok = let e = (lines_end W W.lines
    record { world = no_world; tasks = 0; ports = 0 } [] tidy_first).holds f is in
    record { leads = e.leads; classes = e.classes; own = e.own; kernels = e.kernels }
given_of W (Err e) is ok = cc

pub first_given : (W : Wiring) → is_sound W ≡ true → HasGiven W
unfolding first
first_given W sound =
    let e = given_of W (built W) refl sound in
    record {
      holdings = λ t p r. (
        (λ h. elim (e.leads.from t (held p r) h) [
          | inl there ↦ there
          | inr before ↦ absurd
              (nothing_shown t (held p r) before)
        ]),
        (λ there. e.leads.given t (held p r) there),
      );
      classes = e.classes;
      tasks = e.own;
    }

-- there each task holds a send right to its kernel port
pub first_kernels : (W : Wiring) → is_sound W ≡ true → (t : ℕ) (x : Task)
    → get (first W).tasks t ≡ Some x → Holds (first W) t x.kernel Send
unfolding first
first_kernels W sound t x at =
    let e = given_of W (built W) refl sound in
    elim (e.kernels t x at) [
      | inl none ↦ absurd (not_None x (sym none ∙ get-empty t))
      | inr line ↦ e.leads.given t (held x.kernel Send) line
    ]
