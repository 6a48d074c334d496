-- Which lines are sound: those that name what is there, where no task gets too many names.
use Rattle.std.proofs.Common.{◌≡◌, ℕ, zero, suc, ◌+◌, ◌<◌, ◌≤◌, ◌↔◌, ◌==◌, inl, inr, Bool, true}
use Rattle.std.proofs.Common.{false, not, ◌&&◌, ◌||◌}
use Rattle.std.proofs.Common.{List, [], ◌∷◌, Option, Some, None, Ok, refl, sym, ◌∙◌, ap, subst}
use Rattle.std.proofs.Common.{arith}
use Rattle.std.proofs.Common.{nat_lt, if◌then◌else◌, IsTrue}
use Rattle.std.specs.Prelude.{is_ok, is_some}
use Rattle.std.specs.List.{list_any}
use Rattle.std.specs.Option.{unwrap_or}
use Rattle.std.proofs.lemmas.Bool.{or_left, or_right, not-true, false_from_ne_true}
use Rattle.std.proofs.lemmas.Bool.{cases_eq, cases_Bool, and_parts, and_from, both_ways, or_cases}
use Rattle.std.proofs.lemmas.Bool.{ltb-true, ltb-false, lt-ltb, le-ltb, eqb-true, eq-eqb, ne_eqb}
use Rattle.mrc_base.specs.declared.PortRight.{PortRight}
use Rattle.mrc_base.specs.declared.PortRight.TheVariants.{Send, Receive, SendOnce}
use Rattle.mrc_model.specs.declared.Entry.{Entry}
use Rattle.mrc_model.specs.declared.Entry.TheVariants.{Receive as ReceiveEntry, Send as SendEntry}
use Rattle.mrc_model.specs.declared.Entry.TheVariants.{SendOnce as OnceEntry, PortSet as SetEntry}
use Rattle.mrc_model.specs.declared.Entry.TheVariants.{DeadName as DeadEntry}
use Rattle.mrc_model.specs.declared.Item.TheVariants.{Right as RightItem}
use Rattle.mrc_model.specs.declared.FirstLine.{FirstLine}
use Rattle.mrc_model.specs.declared.FirstLine.TheVariants.{Task as TaskLine, Port as PortLine}
use Rattle.mrc_model.specs.declared.FirstLine.TheVariants.{Hold as HoldLine}
use Rattle.mrc_model.specs.Rights.{is_receive, is_once}
use Rattle.mrc_model.specs.Rising.{find_key}
use Rattle.mrc_model.specs.Map.{Map, empty, get, insert, len}
use Rattle.mrc_model.specs.Wiring.{Wiring, kernel_class}
use Rattle.mrc_model.specs.World.{Space, Port, Store, space}
use Rattle.mrc_model.specs.Reply.{Try, Reply, ◌>>=◌, ◌>>◌, check, refuse_if, or_refuse}
use Rattle.mrc_model.specs.Space.{unused, is_entry_of, first_entry, entry_of, joined, place_at}
use Rattle.mrc_model.specs.Space.{place, give_item}
use Rattle.mrc_model.specs.Space.{is_over_full}
use Rattle.mrc_model.specs.Target.{with_store}
use Rattle.mrc_model.specs.CallAllocate.{new_port, birth}
use Rattle.mrc_model.specs.First.{First, no_world, add_task, add_lines, is_sound}
use Rattle.mrc_model.specs.Breach.{Holding}
use Rattle.mrc_model.specs.FirstHoldings.{line_holdings, names_earlier, is_named, takes_name}
use Rattle.mrc_model.specs.FirstHoldings.{is_new_name, one_if}
use Rattle.mrc_model.specs.FirstHoldings.{names_given, first_names, line_births, one_if_once}
use Rattle.mrc_model.specs.FirstHoldings.{line_onces}
use Rattle.mrc_model.proofs.Maps.{same_Some, not_None, at_or_0, get-insert_same, get-insert_other}
use Rattle.mrc_model.proofs.Maps.{get-empty}
use Rattle.mrc_model.proofs.Maps.{len-insert, len-empty, find_cases, origin-insert}
use Rattle.mrc_model.proofs.Spaces.{get-unused, entry_of-some}

pub same_if : (a b : Bool) → (a ≡ true → b ≡ true) → (b ≡ true → a ≡ true) → a ≡ b
same_if true b there back = sym (there refl)
same_if false true there back = back refl
same_if false false there back = refl

-- ports that a space names

pub some_found : (p : ℕ) (es : List (ℕ × Entry)) (n : ℕ) (e : Entry) → find_key n es ≡ Some e
    → is_entry_of p e ≡ true → is_some (first_entry p es) ≡ true
some_found p [] n e is own = absurd (not_None e (sym is))
some_found p (f ∷ es) n e is own =
    let go : (b : Bool) → is_entry_of p f.1 ≡ b
    → is_some (if b then Some f else first_entry p es) ≡ true = elim [
      | true ↦ λ z. refl
      | false ↦ λ z. elim (find_cases f es n e is) [
        | inl at ↦ absurd (both_ways (is_entry_of p f.1) z (ap (is_entry_of p) at.1 ∙ own))
        | inr rest ↦ some_found p es n e rest own
      ]
    ] in
    go (is_entry_of p f.1) refl

abbrev pub names : Space → ℕ → Bool
names x p = is_some (entry_of x p)

pub named_by : (x : Space) (p n : ℕ) (e : Entry) → get x n ≡ Some e → is_entry_of p e ≡ true
    → names x p ≡ true
unfolding get entry_of
named_by x p n e is own = some_found p x.list n e is own

pub the_entry : (x : Space) (p : ℕ) (P : Type 0) → ((f : ℕ × Entry) → entry_of x p ≡ Some f → P)
    → names x p ≡ true → P
the_entry x p P k is =
    let go : (o : Option (ℕ × Entry)) → entry_of x p ≡ o → is_some o ≡ true → P =
    elim [ None ↦ λ a b. absurd (cc) | Some f ↦ λ a b. k f a ] in
    go (entry_of x p) refl is

-- a new entry names its port besides
pub names_new : (x : Space) (n : ℕ) (e : Entry) (q : ℕ) → get x n ≡ None
    → names (insert x n e) q ≡ (is_entry_of q e || names x q)
names_new x n e q free = same_if (names (insert x n e) q) (is_entry_of q e || names x q) there back
  where
    there : names (insert x n e) q ≡ true → (is_entry_of q e || names x q) ≡ true
    there = the_entry (insert x n e) q ((is_entry_of q e || names x q) ≡ true) (λ f is.
        let at = entry_of-some (insert x n e) q f is in
        elim (origin-insert x n e f.0 f.1 at.0) [
          | inl h ↦ or_left (is_entry_of q e) (names x q) (ap (is_entry_of q) h.1 ∙ at.1)
          | inr h ↦ or_right (is_entry_of q e) (names x q) (named_by x q f.0 f.1 h.1 at.1)
        ])

    kept : names x q ≡ true → names (insert x n e) q ≡ true
    kept = the_entry x q (names (insert x n e) q ≡ true) (λ f is.
        let at = entry_of-some x q f is in
        let other : f.0 ≡ n → ⊥ = λ z. not_None f.1 (sym at.0 ∙ ap (get x) z ∙ free) in
        named_by (insert x n e) q f.0 f.1 (get-insert_other x n e f.0 other ∙ at.0) at.1)

    back : (is_entry_of q e || names x q) ≡ true → names (insert x n e) q ≡ true
    back h = elim (or_cases (is_entry_of q e) (names x q) h) [
      | inl own ↦ named_by (insert x n e) q n e (get-insert_same x n e) own
      | inr was ↦ kept was
    ]

-- an entry that takes the place of one of the same port
pub names_over : (x : Space) (n : ℕ) (e g : Entry) (q : ℕ) → get x n ≡ Some e
    → is_entry_of q g ≡ is_entry_of q e → names (insert x n g) q ≡ names x q
names_over x n e g q was same = same_if (names (insert x n g) q) (names x q) there back
  where
    there : names (insert x n g) q ≡ true → names x q ≡ true
    there = the_entry (insert x n g) q (names x q ≡ true) (λ f is.
        let at = entry_of-some (insert x n g) q f is in
        elim (origin-insert x n g f.0 f.1 at.0) [
          | inl h ↦ named_by x q n e was (sym same ∙ ap (is_entry_of q) h.1 ∙ at.1)
          | inr h ↦ named_by x q f.0 f.1 h.1 at.1
        ])

    back : names x q ≡ true → names (insert x n g) q ≡ true
    back = the_entry x q (names (insert x n g) q ≡ true) (λ f is.
        let at = entry_of-some x q f is in
        elim (cases_eq f.0 n) [
          | inl z ↦ named_by (insert x n g) q n g (get-insert_same x n g)
              (same ∙ ap (is_entry_of q) (same_Some e f.1 (sym was ∙ sym (ap (get x) z) ∙ at.0))
              ∙ at.1)
          | inr z ↦ named_by (insert x n g) q f.0 f.1 (get-insert_other x n g f.0 z ∙ at.0) at.1
        ])

pub len_new : (x : Space) (n : ℕ) (e : Entry) → get x n ≡ None → len (insert x n e) ≡ len x + 1
len_new x n e free =
    let a = len-insert x n e in
    let b : at_or_0 (λ q (y : Entry). 1) n (get x n) ≡ 0 = ap
    (at_or_0 (λ q y. 1) n) free in omega arith

pub len_over : (x : Space) (n : ℕ) (e g : Entry) → get x n ≡ Some e → len (insert x n g) ≡ len x
len_over x n e g was =
    let a = len-insert x n g in
    let b : at_or_0 (λ q (y : Entry). 1) n (get x n) ≡ 1 = ap
    (at_or_0 (λ q y. 1) n) was in omega arith

-- From space x to y the holding was given, where those before it were: y has a name more if the
-- holding takes one, and names its port besides.
record Gained (x y : Space) (before : List Holding) (h : Holding) : Type 0 where
  size : len y ≡ len x + one_if (takes_name before h)
  named : (q : ℕ) → names y q ≡ (is_named h.task q h || names x q)

-- what a holding of the task's own names
own_named : (h : Holding) (p : ℕ) → h.port ≡ p → is_once h.right ≡ false
    → is_named h.task p h ≡ true
own_named h p same right = rw (right, eq-eqb h.task h.task refl, eq-eqb h.port p same) refl

gained_new : (x : Space) (n : ℕ) (e : Entry) (before : List Holding) (h : Holding) → get x n ≡ None
    → takes_name before h ≡ true → ((q : ℕ) → is_entry_of q e ≡ is_named h.task q h)
    → Gained x (insert x n e) before h
gained_new x n e before h free takes own = record {
  size = len_new x n e free ∙ ap (λ b. len x + one_if b) (sym takes);
  named = λ q. names_new x n e q free ∙ ap (λ b. b || names x q) (own q);
}

-- an entry for the right names as the holding does
entry_names : (t p q : ℕ) (e : Entry) (r : PortRight) → is_once r ≡ false
    → ((v : ℕ) → is_entry_of v e ≡ (p == v))
    → is_entry_of q e ≡ is_named t q (record { task = t; port = p; right = r })
entry_names t p q e r plain own = own q ∙ rw (plain, eq-eqb t t refl) refl

-- the state after some lines, which gave these holdings
record Made (W : Wiring) (f : First) (before : List Holding) : Type 0 where
  named : (t p : ℕ) → names (space f.world.store t) p ≡ list_any (is_named t p) before
  live : (p : ℕ) → is_some (get f.world.store.ports p) ≡ nat_lt p f.world.store.next
  below : (t p : ℕ) → f.world.store.next ≤ p → list_any (is_named t p) before ≡ false
  fresh : (t : ℕ) → f.tasks ≤ t → get f.world.store.spaces t ≡ None
  few : f.tasks ≤ W.tasks

-- one space of a store changes
space_is : (spaces : Map Space) (t : ℕ) (y : Space) (u : ℕ) (P : Space → Type 0) → (u ≡ t → P y)
    → ((u ≡ t → ⊥) → P (unwrap_or (get spaces u) empty))
    → P (unwrap_or (get (insert spaces t y) u) empty)
space_is spaces t y u P here_is other = elim (cases_eq u t) [
  | inl e ↦ subst P (sym (ap (λ v. unwrap_or (get (insert spaces t y) v) empty) e
      ∙ ap (λ o. unwrap_or o empty) (get-insert_same spaces t y))) (here_is e)
  | inr n ↦ subst P (sym (ap (λ o. unwrap_or o empty) (get-insert_other spaces t y u n))) (other n)
]

module _ (spaces : Map Space) (y : Space) (before : List Holding) (h : Holding)
    (gained : Gained (unwrap_or (get spaces h.task) empty) y before h) where
  abbrev its : ℕ → Space
  its u = unwrap_or (get spaces u) empty

  abbrev after : ℕ → Space
  after u = unwrap_or (get (insert spaces h.task y) u) empty

  others_named : (u q : ℕ) → (u ≡ h.task → ⊥) → is_named u q h ≡ false
  others_named u q n = false_from_ne_true (is_named u q h) (λ e.
      let z = and_parts (not (is_once h.right)) (h.task == u && h.port == q) e in
      n (sym (eqb-true h.task u (and_parts (h.task == u) (h.port == q) z.1).0)))

  named_after : ((t p : ℕ) → names (its t) p ≡ list_any (is_named t p) before)
      → (u q : ℕ) → names (after u) q ≡ list_any (is_named u q) (h ∷ before)
  named_after named u q =
      space_is spaces h.task y u (λ (z : Space). names z q ≡ list_any (is_named u q) (h ∷ before))
      (λ e. gained.named q ∙ ap (λ b. is_named h.task q h || b) (named h.task q)
      ∙ ap (λ v. list_any (is_named v q) (h ∷ before)) (sym e))
      (λ n. named u q ∙ ap (λ b. b || list_any (is_named u q) before) (sym (others_named u q n)))

  size_after : (u : ℕ) → len (after u) ≡ len (its u) + one_if (is_new_name u before h)
  size_after u =
      space_is spaces h.task y u
      (λ (z : Space). len z ≡ len (its u) + one_if (is_new_name u before h))
      (λ e. gained.size ∙ ap (λ v. len (its v) + one_if (takes_name before h)) (sym e)
      ∙ ap (λ b. len (its u) + one_if (b && takes_name before h)) (sym (eq-eqb h.task u (sym e))))
      (λ n. let none : len (its u) ≡ len (its u) + 0 = omega arith in
      none ∙ ap (λ b. len (its u) + one_if (b && takes_name before h))
      (sym (ne_eqb h.task u (λ e. n (sym e)))))

live_after : (ports : Map Port) (n : ℕ) (x : Port) → ((p : ℕ) → is_some (get ports p) ≡ nat_lt p n)
    → (p : ℕ) → is_some (get (insert ports n x) p) ≡ nat_lt p (n + 1)
live_after ports n x live p = elim (cases_eq p n) [
  | inl e ↦ ap (λ v. is_some (get (insert ports n x) v)) e ∙ ap is_some (get-insert_same ports n x)
      ∙ sym (lt-ltb p (n + 1) (omega arith))
  | inr z ↦ ap is_some (get-insert_other ports n x p z) ∙ live p
      ∙ same_if (nat_lt p n) (nat_lt p (n + 1))
      (λ e. lt-ltb p (n + 1) (omega (arith, ltb-true p n e)))
      (λ e. lt-ltb p n (omega (arith, ltb-true p (n + 1) e, z)))
]

below_after : (n : ℕ) (before : List Holding) (h : Holding) (u p m : ℕ) → h.port < m → n ≤ m
    → ((t q : ℕ) → n ≤ q → list_any (is_named t q) before ≡ false) → m ≤ p
    → list_any (is_named u p) (h ∷ before) ≡ false
below_after n before h u p m less more below high =
    let none : is_named u p h ≡ false = false_from_ne_true (is_named u p h) (λ e.
    let z = and_parts (not (is_once h.right)) (h.task == u && h.port == p) e in
    let same = eqb-true h.port p (and_parts (h.task == u) (h.port == p) z.1).1 in omega arith) in
    rw none (below u p (omega arith))

fresh_after : (spaces : Map Space) (t n : ℕ) (y : Space) → t < n
    → ((u : ℕ) → n ≤ u → get spaces u ≡ None)
    → (u : ℕ) → n ≤ u → get (insert spaces t y) u ≡ None
fresh_after spaces t n y there fresh u high =
    let other : u ≡ t → ⊥ = λ (e : u ≡ t). absurd (omega arith) in
    get-insert_other spaces t y u other ∙ fresh u high

-- a new port's right takes a name
new_takes : (t n : ℕ) (r : PortRight) (before : List Holding)
    → ((u p : ℕ) → n ≤ p → list_any (is_named u p) before ≡ false)
    → takes_name before (record { task = t; port = n; right = r }) ≡ true
new_takes t n r before below =
    or_right (is_once r) (not (list_any (is_named t n) before)) (ap not (below t n (omega arith)))

abbrev after_port : First → ℕ → First
after_port f t = record {
  tasks = f.tasks;
  ports = f.ports + 1;
  world = with_store f.world (birth f.world.store t f.ports);
}

abbrev after_hold : First → ℕ → ℕ → PortRight → First
after_hold f t p r =
    record f { world = with_store f.world (give_item f.world.store t (RightItem p r)).0 }

-- the next number and the ports stay where a hold line gives a right
hold_next : (f : First) (t p : ℕ) (r : PortRight)
    → (after_hold f t p r).world.store.next ≡ f.world.store.next
unfolding give_item
hold_next f t p r = refl

-- the holdings of lines

abbrev of_task : First → Holding
of_task f = record { task = f.tasks; port = f.world.store.next; right = Send }

abbrev of_port : First → ℕ → Holding
of_port f t = record { task = t; port = f.world.store.next; right = Receive }

abbrev of_hold : ℕ → ℕ → PortRight → Holding
of_hold t p r = record { task = t; port = p; right = r }

joined_own : (e : Entry) (p : ℕ) → is_entry_of p (joined e Send) ≡ is_entry_of p e
joined_own (ReceiveEntry q k i) p = refl
joined_own (SendEntry q k) p = refl
joined_own (OnceEntry q) p = refl
joined_own SetEntry p = refl
joined_own (DeadEntry k) p = refl

module _ (W : Wiring) (f : First) (before : List Holding) (made : Made W f before) where
  abbrev S : Store
  S = f.world.store

  gained_task : Gained (space S f.tasks) (insert empty 1 (SendEntry S.next 1)) before (of_task f)
  gained_task =
      let none : space S f.tasks ≡ empty = ap (λ o. unwrap_or o empty)
      (made.fresh f.tasks (omega arith)) in
      subst (λ (x : Space). Gained x (insert empty 1 (SendEntry S.next 1)) before (of_task f))
      (sym none)
      (gained_new empty 1 (SendEntry S.next 1) before (of_task f) (get-empty 1)
      (new_takes f.tasks S.next Send before made.below)
      (λ q. entry_names f.tasks S.next q (SendEntry S.next 1) Send refl (λ v. refl)))

  made_task : f.tasks < W.tasks → Made W (add_task W f) (of_task f ∷ before)
  made_task room = record {
    named = named_after S.spaces _ before (of_task f) gained_task made.named;
    live = live_after S.ports S.next (new_port (kernel_class W f.tasks)) made.live;
    below =
        λ t p high. below_after S.next before (of_task f) t p (S.next + 1) (omega arith)
        (omega arith)
        made.below high;
    fresh = λ u high. fresh_after S.spaces f.tasks (f.tasks + 1) _ (omega arith)
        (λ v h. made.fresh v (omega arith)) u high;
    few = omega arith;
  }

  gained_port : (t : ℕ) → Gained (space S t)
      (insert (space S t) (unused (space S t)) (ReceiveEntry S.next 0 None)) before (of_port f t)
  gained_port t =
      gained_new (space S t) (unused (space S t)) (ReceiveEntry S.next 0 None) before (of_port f t)
      (get-unused (space S t)) (new_takes t S.next Receive before made.below)
      (λ q. entry_names t S.next q (ReceiveEntry S.next 0 None) Receive refl (λ v. refl))

  made_port : (t : ℕ) → t < f.tasks → Made W (after_port f t) (of_port f t ∷ before)
  made_port t there = record {
    named = named_after S.spaces _ before (of_port f t) (gained_port t) made.named;
    live = live_after S.ports S.next (new_port f.ports) made.live;
    below =
        λ u p high. below_after S.next before (of_port f t) u p (S.next + 1) (omega arith)
        (omega arith)
        made.below high;
    fresh = fresh_after S.spaces t f.tasks _ there made.fresh;
    few = made.few;
  }

  gained_once : (t p : ℕ)
      → Gained (space S t) (place (space S t) p SendOnce).space before (of_hold t p SendOnce)
  gained_once t p =
      gained_new (space S t) (unused (space S t)) (OnceEntry p) before (of_hold t p SendOnce)
      (get-unused (space S t)) refl (λ q. refl)

  gained_send_at : (t p : ℕ) (x : Space) → names x p ≡ list_any (is_named t p) before
      → (o : Option (ℕ × Entry)) → entry_of x p ≡ o
      → Gained x (place_at x p Send o).space before (of_hold t p Send)
  gained_send_at t p x known None none =
      gained_new x (unused x) (SendEntry p 1) before (of_hold t p Send) (get-unused x)
      (ap not (sym known ∙ ap is_some none))
      (λ q. entry_names t p q (SendEntry p 1) Send refl (λ v. refl))
  gained_send_at t p x known (Some g) some =
      let at = entry_of-some x p g some in
      let there : names x p ≡ true = ap is_some some in
      let takes : takes_name before (of_hold t p Send) ≡ false = ap not (sym known ∙ there) in
      record {
        size =
            let a : len (insert x g.0 (joined g.1 Send)) ≡ len x = len_over x g.0 g.1
            (joined g.1 Send) at.0 in
            let b : one_if (takes_name before (of_hold t p Send))
            ≡ 0 = ap one_if takes in omega arith;
        named = λ q. names_over x g.0 g.1 (joined g.1 Send) q at.0 (joined_own g.1 q)
            ∙ same_if (names x q) (is_named t q (of_hold t p Send) || names x q)
            (λ e. or_right (is_named t q (of_hold t p Send)) (names x q) e)
            (λ e. elim (or_cases (is_named t q (of_hold t p Send)) (names x q) e) [
              | inl own ↦ ap (names x) (sym (eqb-true p q (and_parts (t == t) (p == q) own).1))
                  ∙ there
              | inr was ↦ was
            ]);
      }

  gained_send : (t p : ℕ)
      → Gained (space S t) (place (space S t) p Send).space before (of_hold t p Send)
  gained_send t p = gained_send_at t p (space S t) (made.named t p) (entry_of (space S t) p) refl

  gained_hold : (t p : ℕ) (r : PortRight) → is_receive r ≡ false
      → Gained (space S t) (place (space S t) p r).space before (of_hold t p r)
  gained_hold t p Send plain = gained_send t p
  gained_hold t p Receive plain = cc
  gained_hold t p SendOnce plain = gained_once t p

  made_hold : (t p : ℕ) (r : PortRight) → is_receive r ≡ false → t < f.tasks → p < S.next
      → Made W (after_hold f t p r) (of_hold t p r ∷ before)
  unfolding give_item
  made_hold t p r plain there live = record {
    named = named_after S.spaces _ before (of_hold t p r) (gained_hold t p r plain) made.named;
    live = made.live;
    below =
        λ u q high. below_after S.next before (of_hold t p r) u q S.next live
        (omega arith) made.below high;
    fresh = fresh_after S.spaces t f.tasks _ there made.fresh;
    few = made.few;
  }

  -- how large spaces are after a line

  size_task : (u : ℕ) → len (space (add_task W f).world.store u)
      ≡ len (space S u) + one_if (is_new_name u before (of_task f))
  size_task = size_after S.spaces _ before (of_task f) gained_task

  size_port : (t u : ℕ) → len (space (after_port f t).world.store u)
      ≡ len (space S u) + one_if (is_new_name u before (of_port f t))
  size_port t = size_after S.spaces _ before (of_port f t) (gained_port t)

  size_hold : (t p : ℕ) (r : PortRight) → is_receive r ≡ false → (u : ℕ)
      → len (space (after_hold f t p r).world.store u)
      ≡ len (space S u) + one_if (is_new_name u before (of_hold t p r))
  unfolding give_item
  size_hold t p r plain = size_after S.spaces _ before (of_hold t p r) (gained_hold t p r plain)

-- when a line is not refused

ok_check : {A B : Type 0} (b : Bool) (e : Reply) (r : Try A) (k : A → Try B)
    → is_ok ((check b e >> r) >>= k) ≡ (b && is_ok (r >>= k))
unfolding check ◌>>◌ ◌>>=◌
ok_check true e r k = refl
ok_check false e r k = refl

ok_refuse : {A B : Type 0} (b : Bool) (e : Reply) (r : Try A) (k : A → Try B)
    → is_ok ((refuse_if b e >> r) >>= k) ≡ (not b && is_ok (r >>= k))
unfolding refuse_if ◌>>◌ ◌>>=◌
ok_refuse true e r k = refl
ok_refuse false e r k = refl

ok_found : {A B C : Type 0} (o : Option C) (e : Reply) (r : Try A) (k : A → Try B)
    → is_ok ((or_refuse o e >>= λ _. r) >>= k) ≡ (is_some o && is_ok (r >>= k))
unfolding or_refuse ◌>>=◌
ok_found None e r k = refl
ok_found (Some x) e r k = refl

ok_go : {A B : Type 0} (a : A) (k : A → Try B) → is_ok (Ok a >>= k) ≡ is_ok (k a)
unfolding ◌>>=◌
ok_go a k = refl

module _ (W : Wiring) (f : First) (ls : List FirstLine) where
  abbrev goes_on : First → Bool
  goes_on g = is_ok (add_lines W g ls)

  task_ok : is_ok (add_lines W f (TaskLine ∷ ls))
      ≡ (nat_lt f.tasks W.tasks && goes_on (add_task W f))
  task_ok =
      ok_check _ _ (Ok (add_task W f)) _
      ∙ ap (λ b. nat_lt f.tasks W.tasks && b) (ok_go (add_task W f) _)

  port_ok : (t : ℕ) → is_ok (add_lines W f (PortLine t ∷ ls))
      ≡ (nat_lt t f.tasks && (nat_lt f.ports W.ports
      && (not (is_over_full (space (after_port f t).world.store t)) && goes_on (after_port f t))))
  port_ok t =
      let over = is_over_full (space (after_port f t).world.store t) in
      ok_check (nat_lt t f.tasks) _ _ _ ∙ ap (λ b. nat_lt t f.tasks && b)
      (ok_check (nat_lt f.ports W.ports) _ _ _ ∙ ap (λ b. nat_lt f.ports W.ports && b)
      (ok_refuse over _ (Ok (after_port f t)) _
      ∙ ap (λ b. not over && b) (ok_go (after_port f t) _)))

  hold_ok : (t p : ℕ) (r : PortRight) → is_ok (add_lines W f (HoldLine t p r ∷ ls))
      ≡ (not (is_receive r) && (nat_lt t f.tasks && (is_some (get f.world.store.ports p)
      && (not (is_over_full (space (after_hold f t p r).world.store t)) && goes_on
      (after_hold f t p r)))))
  hold_ok t p r =
      let over = is_over_full (space (after_hold f t p r).world.store t) in
      ok_refuse (is_receive r) _ _ _ ∙ ap (λ b. not (is_receive r) && b)
      (ok_check (nat_lt t f.tasks) _ _ _ ∙ ap (λ b. nat_lt t f.tasks && b)
      (ok_found (get f.world.store.ports p) _ _ _
      ∙ ap (λ b. is_some (get f.world.store.ports p) && b)
      (ok_refuse over _ (Ok (after_hold f t p r)) _
      ∙ ap (λ b. not over && b) (ok_go (after_hold f t p r) _))))

pub at_most_one : (b : Bool) → one_if b ≤ 1
at_most_one true = omega arith
at_most_one false = omega arith

not_over : (x : Space) (n : ℕ) → len x ≡ n → n ≤ 4096 → not (is_over_full x) ≡ true
not_over x n is few = ap not (le-ltb 4096 (len x) (omega arith))

within : (x : Space) → not (is_over_full x) ≡ true → len x ≤ 4096
within x fits = ltb-false 4096 (len x) (not-true (is_over_full x) fits)

plain_is : (r : PortRight) → not (is_receive r) ≡ true → is_receive r ≡ false
plain_is Send e = refl
plain_is Receive e = cc
plain_is SendOnce e = refl

-- one space of a changed store is not over full where none was, and that of the line's task is not
all_few : (x y : ℕ → Space) (t : ℕ) (k : ℕ → ℕ) → ((u : ℕ) → len (y u) ≡ len (x u) + k u)
    → ((u : ℕ) → (u ≡ t → ⊥) → k u ≡ 0) → ((u : ℕ) → len (x u) ≤ 4096) → len (y t) ≤ 4096
    → (u : ℕ) → len (y u) ≤ 4096
all_few x y t k size none few its u = elim (cases_eq u t) [
  | inl e ↦ subst (λ v. len (y v) ≤ 4096) (sym e) its
  | inr n ↦ let a = size u in let b = none u n in let c = few u in omega arith
]

not_its : (h : Holding) (before : List Holding) (u : ℕ) → (u ≡ h.task → ⊥)
    → one_if (is_new_name u before h) ≡ 0
not_its h before u n =
    ap (λ b. one_if (b && takes_name before h)) (ne_eqb h.task u (λ e. n (sym e)))

-- each line is named after earlier ones, and no task gets too many names
record IsFewer (W : Wiring) (f : First) (before : List Holding) (ls : List FirstLine) : Type 0 where
  earlier : names_earlier W f.tasks f.ports f.world.store.next ls ≡ true
  few : (t : ℕ) → t < W.tasks
      → len (space f.world.store t) + names_given t before
      (line_holdings f.tasks f.world.store.next ls) ≤ 4096

-- lines that go on
lines_go : (W : Wiring) (ls : List FirstLine) (f : First) (before : List Holding) → Made W f before
    → IsFewer W f before ls → is_ok (add_lines W f ls) ≡ true
lines_go W [] f before made is = refl
lines_go W (TaskLine ∷ ls) f before made is =
    let z = and_parts (nat_lt f.tasks W.tasks) _ is.earlier in
    let room = ltb-true f.tasks W.tasks z.0 in
    let size = size_task W f before made in
    task_ok W f ls ∙ and_from _ _ z.0
    (lines_go W ls (add_task W f) (of_task f ∷ before) (made_task W f before made room)
    record { earlier = z.1; few = λ u l. let a = is.few u l in let b = size u in omega arith })
lines_go W (PortLine t ∷ ls) f before made is =
    let z = and_parts (nat_lt t f.tasks) _ is.earlier in
    let y = and_parts (nat_lt f.ports W.ports) _ z.1 in
    let there = ltb-true t f.tasks z.0 in
    let size = size_port W f before made t in
    let fits : len (space (after_port f t).world.store t) ≤ 4096 =
    (let a = is.few t (let c = made.few in omega arith) in let b = size t in omega arith) in
    port_ok W f ls t ∙ and_from _ _ z.0 (and_from _ _ y.0 (and_from _ _
    (not_over (space (after_port f t).world.store t) _ refl fits)
    (lines_go W ls (after_port f t) (of_port f t ∷ before) (made_port W f before made t there)
    record { earlier = y.1; few = λ u l. let a = is.few u l in let b = size u in omega arith })))
lines_go W (HoldLine t p r ∷ ls) f before made is =
    let z = and_parts (not (is_receive r)) _ is.earlier in
    let y = and_parts (nat_lt t f.tasks) _ z.1 in
    let x = and_parts (nat_lt p f.world.store.next) _ y.1 in
    let plain = plain_is r z.0 in
    let there = ltb-true t f.tasks y.0 in
    let live = ltb-true p f.world.store.next x.0 in
    let size = size_hold W f before made t p r plain in
    let fits : len (space (after_hold f t p r).world.store t) ≤ 4096 =
    (let a = is.few t (let c = made.few in omega arith) in let b = size t in omega arith) in
    hold_ok W f ls t p r
    ∙ and_from _ _ z.0 (and_from _ _ y.0 (and_from _ _ (made.live p ∙ x.0) (and_from _ _
    (not_over (space (after_hold f t p r).world.store t) _ refl fits)
    (lines_go W ls (after_hold f t p r) (of_hold t p r ∷ before)
    (made_hold W f before made t p r plain there live)
    record {
      earlier = ap (λ n. names_earlier W f.tasks f.ports n ls) (hold_next f t p r) ∙ x.1;
      few = λ u l.
          let a = is.few u l in
          let b = size u in
          let c = ap (λ n. names_given u (of_hold t p r ∷ before) (line_holdings f.tasks n ls))
          (hold_next f t p r) in
          omega arith;
    }))))

-- and what is so where lines go on
lines_went : (W : Wiring) (ls : List FirstLine) (f : First) (before : List Holding)
    → Made W f before
    → ((u : ℕ) → len (space f.world.store u) ≤ 4096) → is_ok (add_lines W f ls) ≡ true
    → IsFewer W f before ls
lines_went W [] f before made few is = record {
  earlier = refl;
  few = λ u l. let a = few u in omega arith;
}
lines_went W (TaskLine ∷ ls) f before made few is =
    let z = and_parts (nat_lt f.tasks W.tasks) _ (sym (task_ok W f ls) ∙ is) in
    let room = ltb-true f.tasks W.tasks z.0 in
    let size = size_task W f before made in
    let after = made_task W f before made room in
    let one : len (space (add_task W f).world.store f.tasks) ≤ 4096 =
    (let a = size f.tasks in let b = at_most_one (is_new_name f.tasks before (of_task f)) in
    let c : len (space f.world.store f.tasks) ≡ 0 =
    (ap (λ o. len (unwrap_or o empty)) (made.fresh f.tasks (omega arith))
    ∙ len-empty empty refl) in omega arith) in
    let rest = lines_went W ls (add_task W f) (of_task f ∷ before) after
    (all_few (space f.world.store) (space (add_task W f).world.store) f.tasks _ size
    (λ u n. not_its (of_task f) before u n) few one) z.1 in
    record {
      earlier = and_from _ _ z.0 rest.earlier;
      few = λ u l. let a = rest.few u l in let b = size u in omega arith;
    }
lines_went W (PortLine t ∷ ls) f before made few is =
    let z = and_parts (nat_lt t f.tasks) _ (sym (port_ok W f ls t) ∙ is) in
    let y = and_parts (nat_lt f.ports W.ports) _ z.1 in
    let x = and_parts (not (is_over_full (space (after_port f t).world.store t))) _ y.1 in
    let there = ltb-true t f.tasks z.0 in
    let size = size_port W f before made t in
    let rest = lines_went W ls (after_port f t) (of_port f t ∷ before)
    (made_port W f before made t there)
    (all_few (space f.world.store) (space (after_port f t).world.store) t _ size
    (λ u n. not_its (of_port f t) before u n) few
    (within (space (after_port f t).world.store t) x.0)) x.1 in
    record {
      earlier = and_from _ _ z.0 (and_from _ _ y.0 rest.earlier);
      few = λ u l. let a = rest.few u l in let b = size u in omega arith;
    }
lines_went W (HoldLine t p r ∷ ls) f before made few is =
    let z = and_parts (not (is_receive r)) _ (sym (hold_ok W f ls t p r) ∙ is) in
    let y = and_parts (nat_lt t f.tasks) _ z.1 in
    let x = and_parts (is_some (get f.world.store.ports p)) _ y.1 in
    let v = and_parts (not (is_over_full (space (after_hold f t p r).world.store t))) _ x.1 in
    let plain = plain_is r z.0 in
    let there = ltb-true t f.tasks y.0 in
    let below = sym (made.live p) ∙ x.0 in
    let live = ltb-true p f.world.store.next below in
    let size = size_hold W f before made t p r plain in
    let rest = lines_went W ls (after_hold f t p r) (of_hold t p r ∷ before)
    (made_hold W f before made t p r plain there live)
    (all_few (space f.world.store) (space (after_hold f t p r).world.store) t _ size
    (λ u n. not_its (of_hold t p r) before u n) few
    (within (space (after_hold f t p r).world.store t) v.0)) v.1 in
    record {
      earlier = and_from _ _ z.0 (and_from _ _ y.0 (and_from _ _ below
          (sym (ap (λ n. names_earlier W f.tasks f.ports n ls) (hold_next f t p r))
          ∙ rest.earlier)));
      few = λ u l.
          let a = rest.few u l in
          let b = size u in
          let c = ap (λ n. names_given u (of_hold t p r ∷ before) (line_holdings f.tasks n ls))
          (hold_next f t p r) in
          omega arith;
    }

no_names : (t : ℕ) → len (space no_world.store t) ≡ 0
no_names t = ap (λ o. len (unwrap_or o empty)) (get-empty t) ∙ len-empty empty refl

made_nothing : (W : Wiring) → Made W record { world = no_world; tasks = 0; ports = 0 } []
made_nothing W = record {
  named =
      λ t p. false_from_ne_true (names (space no_world.store t) p)
      (the_entry (space no_world.store t) p ⊥ (λ f is.
      let at = entry_of-some (space no_world.store t) p f is in
      not_None f.1 (sym at.0 ∙ ap (λ o. get (unwrap_or o empty) f.0) (get-empty t)
      ∙ get-empty f.0)));
  live = λ p. ap is_some (get-empty p) ∙ sym (le-ltb p 0 (omega arith));
  below = λ t p high. refl;
  fresh = λ t high. get-empty t;
  few = omega arith;
}

-- no line is refused exactly where each names what stands on an earlier one, and no task gets too
-- many names
pub sound_task_by_task : (W : Wiring) → IsTrue (is_sound W)
    ↔ IsTrue (names_earlier W 0 0 0 W.lines) × ((t : ℕ) → t < W.tasks → first_names W t ≤ 4096)
sound_task_by_task W = (there, back)
  where
    there : is_sound W ≡ true
        → (names_earlier W 0 0 0 W.lines ≡ true) × ((t : ℕ) → t < W.tasks → first_names W t ≤ 4096)
    there sound =
        let is = lines_went W W.lines _ [] (made_nothing W)
        (λ u. let a = no_names u in omega arith) sound in
        (is.earlier, λ t l. let a = is.few t l in let b = no_names t in omega arith)

    back : (names_earlier W 0 0 0 W.lines ≡ true) × ((t : ℕ) → t < W.tasks → first_names W t ≤ 4096)
        → is_sound W ≡ true
    back is = lines_go W W.lines _ [] (made_nothing W) record {
      earlier = is.0;
      few = λ t l. let a = is.1 t l in let b = no_names t in omega arith;
    }

-- where ports and send-once rights are few, so are names

-- how many of the first n ports none of the holdings names for the task
abbrev unnamed : ℕ → ℕ → List Holding → ℕ
unnamed zero t before = 0
unnamed (suc n) t before = one_if (not (list_any (is_named t n) before)) + unnamed n t before

unnamed_few : (n t : ℕ) (before : List Holding) → unnamed n t before ≤ n
unnamed_few zero t before = omega arith
unnamed_few (suc n) t before =
    let a = unnamed_few n t before in
    let b = at_most_one (not (list_any (is_named t n) before)) in omega arith

one_falls : (a b : Bool) → one_if (not (a || b)) ≤ one_if (not b)
one_falls true b = omega arith
one_falls false b = omega arith

unnamed_falls : (n t : ℕ) (h : Holding) (before : List Holding)
    → unnamed n t (h ∷ before) ≤ unnamed n t before
unnamed_falls zero t h before = omega arith
unnamed_falls (suc n) t h before =
    let a = unnamed_falls n t h before in
    let b = one_falls (is_named t n h) (list_any (is_named t n) before) in omega arith

-- a port more is named
unnamed_less : (n t : ℕ) (h : Holding) (before : List Holding) → h.port < n
    → is_named t h.port h ≡ true
    → list_any (is_named t h.port) before ≡ false
    → unnamed n t (h ∷ before) + 1 ≤ unnamed n t before
unnamed_less zero t h before less own none = absurd (omega arith)
unnamed_less (suc n) t h before less own none = elim (cases_eq h.port n) [
  | inl e ↦
      let a = unnamed_falls n t h before in
      let b : one_if (not (list_any (is_named t n) before)) ≡ 1 =
      ap (λ v. one_if (not (list_any (is_named t v) before))) (sym e)
      ∙ ap (λ v. one_if (not v)) none in
      let c : one_if (not (is_named t n h || list_any (is_named t n) before)) ≡ 0 =
      ap (λ v. one_if (not (is_named t v h || list_any (is_named t v) before))) (sym e)
      ∙ ap (λ v. one_if (not (v || list_any (is_named t h.port) before))) own in
      omega arith
  | inr m ↦
      let a = unnamed_less n t h before (omega arith) own none in
      let b = one_falls (is_named t n h) (list_any (is_named t n) before) in omega arith
]

-- a send or receive right takes a name only from the ports that are not named yet
plain_names : (n t : ℕ) (h : Holding) (before : List Holding) → is_once h.right ≡ false → h.port < n
    → one_if (is_new_name t before h) + unnamed n t (h ∷ before) ≤ unnamed n t before
plain_names n t h before plain less = elim (cases_Bool (is_new_name t before h)) [
  | inl new ↦
      let z = and_parts (h.task == t) (takes_name before h) new in
      let same = eqb-true h.task t z.0 in
      let none : list_any (is_named h.task h.port) before ≡ false = free
      (is_once h.right) _ plain z.1 in
      let a = unnamed_less n t h before less
      (subst (λ v. is_named v h.port h ≡ true) same (own_named h h.port refl plain))
      (subst (λ v. list_any (is_named v h.port) before ≡ false) same none) in
      let b = ap one_if new in omega arith
  | inr old ↦ let a = unnamed_falls n t h before in let b = ap one_if old in omega arith
]
  where
    free : (a b : Bool) → a ≡ false → (a || not b) ≡ true → b ≡ false
    free true b e z = cc
    free false true e z = cc
    free false false e z = refl

names_few : (W : Wiring) (t n : ℕ) (ls : List FirstLine) (tasks ports births : ℕ)
    (before : List Holding)
    → names_earlier W tasks ports births ls ≡ true → births + line_births ls ≤ n
    → names_given t before (line_holdings tasks births ls) ≤ unnamed n t before + line_onces ls
names_few W t n [] tasks ports births before earlier few = omega arith
names_few W t n (TaskLine ∷ ls) tasks ports births before earlier few =
    let h : Holding = record { task = tasks; port = births; right = Send } in
    let z = and_parts (nat_lt tasks W.tasks) _ earlier in
    let a = names_few W t n ls (tasks + 1) ports (births + 1) (h ∷ before) z.1 (omega arith) in
    let b = plain_names n t h before refl (omega arith) in omega arith
names_few W t n (PortLine u ∷ ls) tasks ports births before earlier few =
    let h : Holding = record { task = u; port = births; right = Receive } in
    let z = and_parts (nat_lt u tasks) _ earlier in
    let y = and_parts (nat_lt ports W.ports) _ z.1 in
    let a = names_few W t n ls tasks (ports + 1) (births + 1) (h ∷ before) y.1 (omega arith) in
    let b = plain_names n t h before refl (omega arith) in omega arith
names_few W t n (HoldLine u p r ∷ ls) tasks ports births before earlier few =
    let z = and_parts (not (is_receive r)) _ earlier in
    let y = and_parts (nat_lt u tasks) _ z.1 in
    let x = and_parts (nat_lt p births) _ y.1 in
    let below = ltb-true p births x.0 in
    let a = names_few W t n ls tasks ports births (of_hold u p r ∷ before) x.1 few in
    let b = one_hold r (omega arith) in omega arith
  where
    one_hold : (r : PortRight) → p < n
        → one_if (is_new_name t before (of_hold u p r)) + unnamed n t (of_hold u p r ∷ before)
        ≤ unnamed n t before + one_if_once r
    one_hold Send less = let c = plain_names n t (of_hold u p Send) before refl less in omega arith
    one_hold Receive less =
        let c = plain_names n t (of_hold u p Receive) before refl less in omega arith
    one_hold SendOnce less =
        let c = unnamed_falls n t (of_hold u p SendOnce) before in
        let d = at_most_one (is_new_name t before (of_hold u p SendOnce)) in omega arith

pub sound_if_few : (W : Wiring) → names_earlier W 0 0 0 W.lines ≡ true
    → line_births W.lines + line_onces W.lines ≤ 4096 → is_sound W ≡ true
sound_if_few W earlier limit = (sound_task_by_task W).1 (
  earlier,
  λ t l.
      let a = names_few W t (line_births W.lines) W.lines 0 0 0 [] earlier (omega arith) in
      let b = unnamed_few (line_births W.lines) t [] in omega arith,
)
