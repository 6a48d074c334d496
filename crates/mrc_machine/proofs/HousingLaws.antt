-- Each task keeps a space, numbers stay short, and tasks stand in the order of their kernel ports.
use Rattle.std.proofs.Common.{◌≡◌, ℕ, ◌<◌, ◌≤◌, ◌^◌, Option, Some, None, refl, sym, ◌∙◌, ap, subst}
use Rattle.std.proofs.Common.{inl, inr, true, false, List, [], ◌∷◌, T, Bool, if◌then◌else◌, ◌+◌}
use Rattle.std.proofs.Common.{arith}
use Rattle.std.specs.Prelude.{IsSome, IfSome, ◌==◌}
use Rattle.std.specs.Option.{is_some}
use Rattle.std.proofs.lemmas.Bool.{cases_eq}
use Rattle.mrc_model.specs.Rising.{is_rising, find_key, right_holds}
use Rattle.mrc_model.specs.Map.{Map, empty, get, insert, next_key, Each}
use Rattle.mrc_model.specs.World.{Space, Store, Task, World, set_space}
use Rattle.mrc_model.specs.Target.{first_task, has_kernel, with_space}
use Rattle.mrc_model.proofs.Maps.{get-insert, get-insert_same, get-insert_other, get-empty}
use Rattle.mrc_model.proofs.Maps.{Each-insert, same_Some, not_None, find_here, find_later}
use Rattle.mrc_model.proofs.Maps.{next_key-same, below-next_key, origin-insert, find_low}
use Rattle.mrc_model.proofs.Maps.{rest_rises}
use Rattle.std.proofs.lemmas.Bool.{cases_lt}
use Rattle.mrc_map.proofs.SameMaps.{same_map}
use Rattle.mrc_ports.specs.Tables.{no_store}
use Rattle.mrc_ports.proofs.TableLaws.{insert_twice}
use Rattle.mrc_transit.specs.SendPlans.{SendPlan, sent, taking_of, IsReady}
use Rattle.mrc_transit.proofs.ApplyLaws.{sent_spaces, sent_next}
use Rattle.mrc_transit.specs.Receiving.{AreHousedAlike}
use Rattle.std.specs.List.{AllByRecursion}
use Rattle.mrc_machine.specs.Holdings.{AreShort}
use Rattle.mrc_machine.specs.Housing.{AreByKernel, IsHoused}

-- what holds of each entry holds of one that is there
pub each_there : {X : Type 0} (P : ℕ → Type 0) (m : Map X) (k : ℕ) (o : Option X)
    → Each (λ q x. P q) m
    → get m k ≡ o
    → IsSome o
    → P k
each_there P m k None all at has = cc
each_there P m k (Some x) all at has = all k x at

-- a map with no entry
none_there : {X : Type 0} (m : Map X) (k : ℕ) → m ≡ empty → get m k ≡ None
none_there m k is = ap (λ (n : Map _). get n k) is ∙ get-empty k

each_none : {X : Type 0} (P : ℕ → X → Type 0) (m : Map X) → m ≡ empty → Each P m
each_none P m is k x at = absurd (not_None x (sym at ∙ none_there m k is))

-- where there is no task
pub housed_empty : (ts : Map Task) (s : Store)
    → ts ≡ empty
    → s ≡ no_store
    → IsHoused record { tasks = ts; store = s }
housed_empty ts s no_task no_space = record {
  spaces = λ t has. let none = none_there ts t no_task in cc;
  homes = λ t has.
      let none = none_there s.spaces t (ap (λ (z : Store). z.spaces) no_space) in cc;
  tasks = each_none _ ts no_task;
  owners = each_none _ s.spaces (ap (λ (z : Store). z.spaces) no_space);
  order = λ t u x y at bt low. absurd (not_None x (sym at ∙ none_there ts t no_task));
  born = each_none _ ts no_task;
}

-- where no space changes, and ports may be born
pub housed_grown : (ts : Map Task) (s z : Store)
    → IsHoused record { tasks = ts; store = s }
    → z.spaces ≡ s.spaces
    → s.next ≤ z.next
    → IsHoused record { tasks = ts; store = z }
housed_grown ts s z h same more = record {
  spaces = λ t has. subst (λ (m : Map Space). IsSome (get m t)) (sym same) (h.spaces t has);
  homes = λ t has. h.homes t (subst (λ (m : Map Space). IsSome (get m t)) same has);
  tasks = h.tasks;
  owners = subst (Each (λ t x. t < 2 ^ 32)) (sym same) h.owners;
  order = h.order;
  born = λ t x at. let low = h.born t x at in omega arith;
}

-- the same spaces, and no birth
abbrev pub AreSame : Store → Store → Type 0
AreSame s z = (z.spaces ≡ s.spaces) × (z.next ≡ s.next)

-- where no space changes, and no port is born
pub housed_same : (ts : Map Task) (s z : Store)
    → IsHoused record { tasks = ts; store = s }
    → AreSame s z
    → IsHoused record { tasks = ts; store = z }
housed_same ts s z h same =
    let next = same.1 in housed_grown ts s z h same.0 (omega arith)

-- what was there is still there
pub kept_there : {X : Type 0} (m : Map X) (k q : ℕ) (v : X)
    → IsSome (get m q)
    → IsSome (get (insert m k v) q)
kept_there m k q v has =
    subst IsSome (sym (get-insert m k v q)) (elim (q == k)
    as (λ b. IsSome (if b then Some v else get m q)) [ true ↦ refl | false ↦ has ])

-- where a task gets another space
pub housed_space : (ts : Map Task) (s z : Store) (t : ℕ) (x : Space)
    → IsHoused record { tasks = ts; store = s }
    → IsSome (get ts t)
    → z ≡ set_space s t x
    → IsHoused record { tasks = ts; store = z }
housed_space ts s z t x h there is =
    housed_same ts (set_space s t x) z record {
      spaces = λ u has. kept_there s.spaces t u x (h.spaces u has);
      homes = λ u has. elim (cases_eq u t) [
        | inl same ↦ subst (λ q. IsSome (get ts q)) (sym same) there
        | inr apart ↦ h.homes u
            (subst (λ o. IsSome o) (get-insert_other s.spaces t x u apart) has)
      ];
      tasks = h.tasks;
      owners = Each-insert (λ u y. u < 2 ^ 32) s.spaces t x h.owners
          (each_there (λ q. q < 2 ^ 32) ts t (get ts t) h.tasks refl there);
      order = h.order;
      born = h.born;
    } (ap (λ (y : Store). y.spaces) is, ap (λ (y : Store). y.next) is)

-- where a message was sent
pub housed_sent : (ts : Map Task) (s z : Store) (plan : SendPlan)
    → IsHoused record { tasks = ts; store = s }
    → IsReady s plan
    → z ≡ sent s plan
    → IsHoused record { tasks = ts; store = z }
housed_sent ts s z plan h ready is =
    housed_same ts (set_space s plan.sender (taking_of s plan).space) z
    (housed_space ts s _ plan.sender (taking_of s plan).space h
    (h.homes plan.sender ready.has_space) refl) (
      ap (λ (y : Store). y.spaces) is ∙ sent_spaces s plan,
      ap (λ (y : Store). y.next) is ∙ sent_next s plan,
    )

-- where no task gained or lost a space
pub housed_alike : (ts : Map Task) (s z : Store)
    → IsHoused record { tasks = ts; store = s }
    → AreHousedAlike s z
    → IsHoused record { tasks = ts; store = z }
housed_alike ts s z h alike = record {
  spaces = λ t has. alike.spaces t ∙ h.spaces t has;
  homes = λ t has. h.homes t (sym (alike.spaces t) ∙ has);
  tasks = h.tasks;
  owners = λ t x at.
      each_there (λ q. q < 2 ^ 32) s.spaces t (get s.spaces t) h.owners refl
      (sym (alike.spaces t) ∙ ap is_some at);
  order = h.order;
  born = λ t x at. let low = h.born t x at in let same = alike.next in omega arith;
}

-- what is known of a task, where a world is open
module _ (ts : Map Task) (s : Store) (w : World) (t : ℕ)
    (h : IsHoused record { tasks = ts; store = s })
    (v : ◌≡◌ {A = World} record { tasks = ts; store = s } w)
    (has : IsSome (get w.tasks t)) where
  pub task_in : IsSome (get ts t)
  task_in = subst (λ (z : World). IsSome (get z.tasks t)) (sym v) has

  pub has_space : IsSome (get s.spaces t)
  has_space = h.spaces t task_in

  pub has_number : t < 2 ^ 32
  has_number = each_there (λ q. q < 2 ^ 32) ts t (get ts t) h.tasks refl task_in

-- the space that a task had is put back
pub space_back : (w : World) (t : ℕ) (x : Space)
    → Some x ≡ get w.store.spaces t
    → with_space w t x ≡ w
space_back w t x at =
    let same : insert w.store.spaces t x ≡ w.store.spaces = same_map _ _ (λ q. elim (cases_eq q t) [
      | inl k ↦
          ap (get (insert w.store.spaces t x)) k ∙ get-insert_same w.store.spaces t x ∙ at
          ∙ ap (get w.store.spaces) (sym k)
      | inr n ↦ get-insert_other w.store.spaces t x q n
    ]) in
    ap (λ (m : Map Space). record w { store = record w.store { spaces = m } }) same

-- the space that is put last stands
pub space_twice : (w : World) (t : ℕ) (x y : Space)
    → with_space (with_space w t x) t y ≡ with_space w t y
space_twice w t x y =
    ap (λ (m : Map Space). record w { store = record w.store { spaces = m } })
    (insert_twice w.store.spaces t x y)

-- the first task with a kernel port is there
later : (e : ℕ × Task) (es : List (ℕ × Task)) (u : ℕ)
    → IsSome (find_key u es)
    → IsSome (find_key u (e ∷ es))
later e es u has =
    elim (u == e.0) as (λ b. IsSome (if b then Some e.1 else find_key u es))
    [ true ↦ refl | false ↦ has ]

task_found : (p : ℕ) (es : List (ℕ × Task)) (u : ℕ)
    → first_task p es ≡ Some u
    → IsSome (find_key u es)
task_found p [] u is = absurd (not_None u (sym is))
task_found p (e ∷ es) u is = go (has_kernel p e.1) is (task_found p es u)
  where
    go : (b : Bool)
        → (if b then Some e.0 else first_task p es) ≡ Some u
        → (first_task p es ≡ Some u → IsSome (find_key u es))
        → IsSome (find_key u (e ∷ es))
    go true z rest = subst (λ n. IsSome (find_key n (e ∷ es))) (same_Some e.0 u z)
        (ap is_some (find_here e es))
    go false z rest = later e es u (rest z)

pub task_there : (m : Map Task) (p : ℕ) (o : Option ℕ)
    → o ≡ first_task p m.list
    → IfSome o (λ u. IsSome (get m u))
unfolding get
task_there m p None is = tt
task_there m p (Some u) is = task_found p m.list u (sym is)

-- the number of the first such task is short
pub found_number : (ts : Map Task) (s : Store) (es : List (ℕ × Task)) (p u : ℕ) (o : Option ℕ)
    → IsHoused record { tasks = ts; store = s }
    → es ≡ ts.list
    → o ≡ first_task p es
    → o ≡ Some u
    → (IsSome (get ts u)) × (u < 2 ^ 32)
unfolding get
found_number ts s es p u o h list found is =
    let there : IsSome (get ts u) =
    task_found p ts.list u (ap (first_task p) (sym list) ∙ sym found ∙ is) in
    (there, each_there (λ q. q < 2 ^ 32) ts u (get ts u) h.tasks refl there)

-- what holds of each entry of a map holds of all of its list
all_of : {X : Type 0} (P : ℕ → Type 0) (low : ℕ) (es : List (ℕ × X))
    → T (is_rising low es)
    → ((k : ℕ) (v : X) → find_key k es ≡ Some v → P k)
    → AllByRecursion (λ (x : ℕ × X). P x.0) es
all_of P low [] r all = tt
all_of P low (e ∷ es) r all = (
  all e.0 e.1 (find_here e es),
  all_of P (e.0 + 1) es (right_holds _ _ r) (λ k v at. all k v (find_later low e es k v r at)),
)

-- all owners of spaces have short numbers
pub short_owners : (ts : Map Task) (s : Store) (spaces : List (ℕ × Space))
    → IsHoused record { tasks = ts; store = s }
    → spaces ≡ s.spaces.list
    → AreShort spaces
unfolding get
short_owners ts s spaces h is =
    subst AreShort (sym is)
    (all_of (λ k. k < 2 ^ 32) 0 s.spaces.list s.spaces.rising (λ k v at. h.owners k v at))

-- a task that is added behind the others, with a kernel port that is born behind theirs
order_kept : (ts : Map Task) (s : Store) (t : ℕ) (task : Task)
    → IsHoused record { tasks = ts; store = s }
    → next_key ts ≡ t
    → task.kernel ≡ s.next
    → (a b : ℕ) (v u : Task)
    → get (insert ts t task) a ≡ Some v
    → get (insert ts t task) b ≡ Some u
    → a < b
    → v.kernel < u.kernel
order_kept ts s t task h next kernel a b v u at bt low =
    elim (origin-insert ts t task a v at) [
      | inl here ↦ elim (origin-insert ts t task b u bt) [
        | inl also ↦ let e = here.0 in let f = also.0 in absurd (omega arith)
        | inr old ↦
            let e = here.0 in
            let f = below-next_key ts b (subst (λ o. IsSome o) (sym old.1) refl) in
            absurd (omega arith)
      ]
      | inr there ↦ elim (origin-insert ts t task b u bt) [
        | inl last ↦
            let e = h.born a v there.1 in
            let f = ap (λ (x : Task). x.kernel) last.1 in
            omega arith
        | inr old ↦ h.order a b v u there.1 old.1 low
      ]
    ]

-- where a task with a space is added, and its kernel port is born
pub housed_task : (ts us : Map Task) (s z : Store) (t : ℕ) (x : Space) (task : Task)
    → IsHoused record { tasks = ts; store = s }
    → t < 2 ^ 32
    → next_key ts ≡ t
    → task.kernel ≡ s.next
    → z.spaces ≡ insert s.spaces t x
    → z.next ≡ s.next + 1
    → us ≡ insert ts t task
    → IsHoused record { tasks = us; store = z }
housed_task ts us s z t x task h short next kernel space_is more task_is =
    let both : IsHoused record {
      tasks = insert ts t task;
      store = record { next = z.next; spaces = insert s.spaces t x; ports = z.ports };
    } = record {
      spaces = λ u has. elim (cases_eq u t) [
        | inl same ↦ subst (λ o. IsSome o)
            (sym (ap (get (insert s.spaces t x)) same ∙ get-insert_same s.spaces t x)) refl
        | inr apart ↦ kept_there s.spaces t u x
            (h.spaces u (subst (λ o. IsSome o) (get-insert_other ts t task u apart) has))
      ];
      homes = λ u has. elim (cases_eq u t) [
        | inl same ↦ subst (λ o. IsSome o)
            (sym (ap (get (insert ts t task)) same ∙ get-insert_same ts t task)) refl
        | inr apart ↦ kept_there ts t u task
            (h.homes u (subst (λ o. IsSome o) (get-insert_other s.spaces t x u apart) has))
      ];
      tasks = Each-insert (λ u y. u < 2 ^ 32) ts t task h.tasks short;
      owners = Each-insert (λ u y. u < 2 ^ 32) s.spaces t x h.owners short;
      order = order_kept ts s t task h next kernel;
      born = Each-insert (λ u y. y.kernel < z.next) ts t task
          (λ u y at. let low = h.born u y at in omega arith) (omega arith);
    } in
    subst (λ (w : World). IsHoused w)
    (λ i. record {
      tasks = sym task_is i;
      store = record { next = z.next; spaces = sym space_is i; ports = z.ports };
    }) both

-- where a task that is there is another one
pub housed_end : (ts us : Map Task) (s : Store) (t : ℕ) (old task : Task)
    → IsHoused record { tasks = ts; store = s }
    → get ts t ≡ Some old
    → task.kernel ≡ old.kernel
    → us ≡ insert ts t task
    → IsHoused record { tasks = us; store = s }
housed_end ts us s t old task h at kernel is =
    let has : IsSome (get ts t) = subst (λ o. IsSome o) (sym at) refl in
    let before : (u : ℕ) (x : Task) → get (insert ts t task) u ≡ Some x
    → (y : Task) × (get ts u ≡ Some y) × (y.kernel ≡ x.kernel) =
    λ u x there. elim (origin-insert ts t task u x there) [
      | inl here ↦ (
        old,
        ap (get ts) here.0 ∙ at,
        sym kernel ∙ ap (λ (y : Task). y.kernel) here.1,
      )
      | inr other ↦ (x, other.1, refl)
    ] in
    let short = each_there (λ q. q < 2 ^ 32) ts t (get ts t) h.tasks refl has in
    let put : IsHoused record { tasks = insert ts t task; store = s } = record {
      spaces = λ u there. elim (cases_eq u t) [
        | inl same ↦ subst (λ q. IsSome (get s.spaces q)) (sym same) (h.spaces t has)
        | inr apart ↦ h.spaces u (subst (λ o. IsSome o) (get-insert_other ts t task u apart) there)
      ];
      homes = λ u there. kept_there ts t u task (h.homes u there);
      tasks = Each-insert (λ u y. u < 2 ^ 32) ts t task h.tasks short;
      owners = h.owners;
      order = λ a b v u av bu low.
          let x = before a v av in
          let y = before b u bu in
          let less = h.order a b x.0 y.0 x.1 y.1 low in
          let e = x.2 in
          let f = y.2 in
          omega arith;
      born = λ u x there.
          let y = before u x there in
          let low = h.born u y.0 y.1 in
          let e = y.2 in
          omega arith;
    } in
    subst (λ (m : Map Task). IsHoused record { tasks = m; store = s }) (sym is) put

-- tasks and spaces have the same numbers, so the next one too
pub next_number : (ts : Map Task) (s : Store)
    → IsHoused record { tasks = ts; store = s }
    → next_key ts ≡ next_key s.spaces
next_number ts s h = next_key-same ts s.spaces h.spaces h.homes

-- the keys of a list that rises from low are not below it
key_is_late : (low k : ℕ) (v : Task) (es : List (ℕ × Task))
    → T (is_rising low es)
    → find_key k es ≡ Some v
    → low ≤ k
key_is_late low k v es r at = elim (cases_lt k low) [
  | inl below ↦ absurd (not_None v (sym at ∙ find_low low k es r below))
  | inr above ↦ above
]

rises_by_kernel : (low from : ℕ) (es : List (ℕ × Task))
    → T (is_rising from es)
    → ((k : ℕ) (v : Task) → find_key k es ≡ Some v → low ≤ v.kernel)
    → ((k q : ℕ) (v u : Task) → find_key k es ≡ Some v → find_key q es ≡ Some u → k < q
    → v.kernel < u.kernel)
    → AreByKernel low es
rises_by_kernel low from [] r least order = tt
rises_by_kernel low from (e ∷ es) r least order =
    let rest = rest_rises from e es r in (
      least e.0 e.1 (find_here e es),
      rises_by_kernel (e.1.kernel + 1) (e.0 + 1) es rest
          (λ k v at.
          let late = key_is_late (e.0 + 1) k v es rest at in
          let less = order e.0 k e.1 v (find_here e es) (find_later from e es k v r at)
          (omega arith) in
          omega arith)
          (λ k q v u at bt low. order k q v u (find_later from e es k v r at)
          (find_later from e es q u r bt) low),
    )

-- tasks stand in the order of their kernel ports
pub by_kernel : (ts : Map Task) (s : Store) (es : List (ℕ × Task))
    → IsHoused record { tasks = ts; store = s }
    → es ≡ ts.list
    → AreByKernel 0 es
unfolding get
by_kernel ts s es h is =
    subst (AreByKernel 0) (sym is)
    (rises_by_kernel 0 0 ts.list ts.rising (λ k v at. omega arith)
    (λ k q v u at bt low. h.order k q v u at bt low))
