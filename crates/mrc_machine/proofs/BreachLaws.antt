-- What the list of holdings says of tasks that count as one of a class.
use Rattle.std.proofs.Common.{◌≡◌, ℕ, suc, Bool, true, false, ◌&&◌, ◌||◌, not, ◌==◌, List, [], ◌∷◌}
use Rattle.std.proofs.Common.{Option, Some, None, if◌then◌else◌, ◌≤◌, ◌<◌, ◌↔◌, IsTrue, refl, sym}
use Rattle.std.proofs.Common.{◌∙◌, ap, subst, arith, drop, zero}
use Rattle.std.proofs.lemmas.Bool.{and_parts, false≢true, or_left, or_parts, or_right}
use Rattle.std.proofs.lemmas.Bool.Decides.{nat_tests}
use Rattle.std.specs.List.{AllByRecursion, list_any}
use Rattle.mrc_base.specs.declared.PortRight.{PortRight}
use Rattle.mrc_base.specs.declared.PortRight.TheVariants.{Send, Receive, SendOnce}
use Rattle.mrc_model.specs.declared.Verb.TheVariants.{Takes}
use Rattle.mrc_model.specs.IsIn.{IsIn, here, later}
use Rattle.mrc_model.specs.Rights.{same_right}
use Rattle.mrc_model.specs.Map.{get}
use Rattle.mrc_model.specs.Death.{has}
use Rattle.mrc_model.specs.Wiring.{Wiring, is_limited}
use Rattle.mrc_model.specs.World.{Task, World, task_class, class_of}
use Rattle.mrc_model.specs.Breach.{Breach, Counts, Forbid, Holding, Holds, holdings, itself, also}
use Rattle.mrc_model.proofs.HoldingLists.{is_held, held_is}
use Rattle.mrc_model.proofs.Members.{in_any, any_in}
use Rattle.mrc_wiring.proofs.Takers.{same_right_is}
use Rattle.mrc_machine.specs.declared.holding.Holding.{Holding as CodeHolding}
use Rattle.mrc_machine.specs.Holdings.{holding_of, holdings_of}
use Rattle.mrc_machine.specs.Breaching.{is_reached, is_counted, is_new, is_of_class, breaks}
use Rattle.mrc_machine.specs.Breaching.{IsCounted, AreReached, AreHeld, left, left_after}

-- lists

abbrev is_full : {X : Type 0} → List X → Bool
is_full [] = false
is_full (x ∷ xs) = true

all_in : {X : Type 0} (P : X → Type 0) (xs : List X) → ((x : X) → IsIn x xs → P x)
    → AllByRecursion P xs
all_in P [] each = tt
all_in P (x ∷ xs) each = (each x here, all_in P xs (λ y m. each y (later m)))

none_in : {X : Type 0} (p : X → Bool) (xs : List X) (x : X) → IsIn x xs → list_any p xs ≡ false
    → p x ≡ false
none_in p [] x m h = elim m [ ]
none_in p (y ∷ xs) x (here) h = (or_parts (p y) (list_any p xs) h).0
none_in p (y ∷ xs) x (later m) h = none_in p xs x m (or_parts (p y) (list_any p xs) h).1

-- tests

same_self : (r : PortRight) → same_right r r ≡ true
same_self Send = refl
same_self Receive = refl
same_self SendOnce = refl

equal_is : (a b : ℕ) → (a == b) ≡ true → a ≡ b
equal_is a b h = grind (arith, nat_tests)

is_equal : (a b : ℕ) → a ≡ b → (a == b) ≡ true
is_equal a b h = grind (arith, nat_tests)

three_parts : (a b c : Bool) → (a && b && c) ≡ true → (a ≡ true) × (b ≡ true) × (c ≡ true)
three_parts a b c h = grind arith

new_parts : (a b c d : Bool) → (a && not b && c && not d) ≡ true
    → (a ≡ true) × (b ≡ false) × (c ≡ true) × (d ≡ false)
new_parts a b c d h = grind arith

known : (a b c d : Bool) → (a && not b && c && not d) ≡ false → a ≡ true → c ≡ true → d ≡ false
    → b ≡ true
known a b c d h i j k = grind arith

all_three : (a b c : Bool) → a ≡ true → b ≡ true → c ≡ true → (a && b && c) ≡ true
all_three a b c h i j = grind arith

both : (a b : Bool) → a ≡ true → b ≡ true → (a && b) ≡ true
both a b h i = grind arith

of_class_is : (class : ℕ) (o : Option ℕ) → is_of_class class o ≡ true → o ≡ Some class
of_class_is class None h = absurd (false≢true h)
of_class_is class (Some c) h = ap Some (equal_is c class h)

is_of : (class : ℕ) (o : Option ℕ) → o ≡ Some class → is_of_class class o ≡ true
is_of class o h = rw h (is_equal class class refl)

-- tasks that are counted are ones that a task of the class counts as

module _ (W : Wiring) (w : World) (class : ℕ) where
  pub counted_is : (ports : List ℕ) (t : ℕ) → AreReached W w class ports
      → is_counted w class ports t ≡ true → IsCounted W w class t
  counted_is ports t reached h =
      let through : (o : Option Task) → get w.tasks t ≡ o → is_reached ports o ≡ true
      → IsCounted W w class t = elim [
        | None ↦ λ is z. absurd (false≢true z)
        | Some x ↦ λ is z.
            let parts = and_parts x.alive (has ports x.kernel) z in
            let by = reached x.kernel parts.1 in
            (by.1.0, by.1.1, also by.1.2 (x, is, parts.0, by.2, by.3))
      ] in
      let go : (b : Bool) → (task_class w t == class) ≡ b
      → (b || is_reached ports (get w.tasks t)) ≡ true → IsCounted W w class t = elim [
        | true ↦ λ is z. (t, equal_is (task_class w t) class is, itself)
        | false ↦ λ is z. through (get w.tasks t) refl z
      ] in
      go (task_class w t == class) refl h

  pub reached_more : (ports more : List ℕ) (h : Holding)
      → is_new W w class ports h ≡ true → Holds w h.task h.port h.right
      → AreReached W w class ports
      → ((q : ℕ) → has more q ≡ (h.port == q || has ports q))
      → AreReached W w class more
  reached_more ports more h new held reached put q there =
      let parts = new_parts (same_right h.right Send) (has ports h.port)
      (is_counted w class ports h.task) (is_limited W Takes (task_class w h.task)) new in
      let holds = subst (λ r. Holds w h.task h.port r) (same_right_is h.right Send parts.0) held in
      let go : (b : Bool) → (h.port == q) ≡ b → (b || has ports q) ≡ true
      → (t : ℕ) × IsCounted W w class t × Holds w t q Send
      × (is_limited W Takes (task_class w t) ≡ false) = elim [
        | true ↦ λ is z. (
          h.task,
          counted_is ports h.task reached parts.2,
          subst (λ p. Holds w h.task p Send) (equal_is h.port q is) holds,
          parts.3,
        )
        | false ↦ λ is z. reached q z
      ] in
      go (h.port == q) refl (sym (put q) ∙ there)

  -- and if no holding is new, all of these are counted
  pub counts_are : (ports : List ℕ) → list_any (is_new W w class ports) (holdings w) ≡ false
      → (n t : ℕ) → Counts W w n t → task_class w n ≡ class → is_counted w class ports t ≡ true
  counts_are ports closed n t (itself) is =
      or_left (task_class w n == class) (is_reached ports (get w.tasks n))
      (is_equal (task_class w n) class is)
  counts_are ports closed n t (also {u = u} counts reaches) is =
      let x = reaches.0 in
      let h : Holding = record { task = u; port = x.kernel; right = Send } in
      let old = none_in (is_new W w class ports) (holdings w) h
      (held_is w u x.kernel Send reaches.3) closed in
      let there = known (same_right Send Send) (has ports x.kernel)
      (is_counted w class ports u) (is_limited W Takes (task_class w u)) old refl
      (counts_are ports closed n u counts is) reaches.4 in
      or_right (task_class w t == class) (is_reached ports (get w.tasks t))
      (rw reaches.1 (both x.alive (has ports x.kernel) reaches.2 there))

pub all_held : (w : World) → AreHeld w (holdings w)
all_held w =
    all_in (λ (h : Holding). Holds w h.task h.port h.right) (holdings w)
    (λ h m. is_held w h.task h.port h.right m)

in_one : (a b : Forbid) → IsIn a (b ∷ []) → a ≡ b
in_one a b (here) = refl
in_one a b (later m) = elim m [ ]

-- a line is broken if and only if a counted task holds what it forbids
pub broken_is : (W : Wiring) (w : World) (line : Forbid) (ports : List ℕ)
    → AreReached W w line.task ports
    → list_any (is_new W w line.task ports) (holdings w) ≡ false
    → list_any (breaks w line ports) (holdings w) ≡ true → Breach W w (line ∷ [])
broken_is W w line ports reached closed is =
    let found = any_in (breaks w line ports) (holdings w) is in
    let h = found.0 in
    let parts = three_parts (same_right h.right line.right)
    (is_of_class line.class (class_of w.store h.port))
    (is_counted w line.task ports h.task) found.2 in
    let counted = counted_is W w line.task ports h.task reached parts.2 in
    record {
      line = line;
      forbidden = here;
      holder = h.task;
      named = counted.0;
      of_class = counted.1;
      counts = counted.2;
      port = h.port;
      held = subst (λ r. Holds w h.task h.port r) (same_right_is h.right line.right parts.0)
          (is_held w h.task h.port h.right found.1);
      class = of_class_is line.class (class_of w.store h.port) parts.1;
    }

is_broken_by : (W : Wiring) (w : World) (line : Forbid) (ports : List ℕ)
    → list_any (is_new W w line.task ports) (holdings w) ≡ false
    → (holder named port : ℕ) → task_class w named ≡ line.task → Counts W w named holder
    → Holds w holder port line.right → class_of w.store port ≡ Some line.class
    → list_any (breaks w line ports) (holdings w) ≡ true
is_broken_by W w line ports closed holder named port of counts held class =
    in_any (breaks w line ports)
    record { task = holder; port = port; right = line.right } (holdings w)
    (held_is w holder port line.right held)
    (all_three (same_right line.right line.right)
    (is_of_class line.class (class_of w.store port))
    (is_counted w line.task ports holder) (same_self line.right)
    (is_of line.class (class_of w.store port) class)
    (counts_are W w line.task ports closed named holder counts of))

pub is_broken : (W : Wiring) (w : World) (line : Forbid) (ports : List ℕ)
    → list_any (is_new W w line.task ports) (holdings w) ≡ false
    → Breach W w (line ∷ []) → list_any (breaks w line ports) (holdings w) ≡ true
is_broken W w line ports closed b =
    let same : b.line ≡ line = in_one b.line line b.forbidden in
    is_broken_by W w line ports closed b.holder b.named b.port
    (b.of_class ∙ ap (λ (l : Forbid). l.task) same) b.counts
    (subst (λ (l : Forbid). Holds w b.holder b.port l.right) same b.held)
    (b.class ∙ ap (λ (l : Forbid). Some l.class) same)

-- the ports that are left

left_step : (a b : Bool) (m n : ℕ) → m ≤ n
    → (if a || b then m else suc m) ≤ (if b then n else suc n)
left_step true true m n h = h
left_step true false m n h = omega (arith, h)
left_step false true m n h = h
left_step false false m n h = omega (arith, h)

less_step : (a b : Bool) (m n : ℕ) → m < n
    → (if a || b then m else suc m) < (if b then n else suc n)
less_step true true m n h = h
less_step true false m n h = omega (arith, h)
less_step false true m n h = h
less_step false false m n h = omega (arith, h)

module _ (ports more : List ℕ) (p : ℕ) (put : (q : ℕ) → has more q ≡ (p == q || has ports q)) where
  left_le : (hs : List Holding) → left more hs ≤ left ports hs
  left_le [] = omega arith
  left_le (h ∷ hs) =
      rw (put h.port) (left_step (p == h.port) (has ports h.port) (left more hs) (left ports hs)
      (left_le hs))

  here_less : (h : Holding) (hs : List Holding) → has ports p ≡ false → h.port ≡ p
      → left more (h ∷ hs) < left ports (h ∷ hs)
  here_less h hs fresh is =
      let le : left more hs ≤ left ports hs = left_le hs in
      let there : has more h.port ≡ true =
      put h.port ∙ or_left (p == h.port) (has ports h.port) (is_equal p h.port (sym is)) in
      let new : has ports h.port ≡ false = ap (has ports) is ∙ fresh in
      rw (there, new) (omega (arith, le))

  pub left_less : (hs : List Holding) (h : Holding) → IsIn h hs → h.port ≡ p → has ports p ≡ false
      → left more hs < left ports hs
  left_less [] h m is fresh = elim m [ ]
  left_less (g ∷ hs) h (here) is fresh = here_less g hs fresh is
  left_less (g ∷ hs) h (later m) is fresh =
      rw (put g.port) (less_step (p == g.port) (has ports g.port) (left more hs) (left ports hs)
      (left_less hs h m is fresh))

-- the next of a list

pub next_any : (p : Holding → Bool) (h : CodeHolding) (next rest : List CodeHolding)
    → next ≡ h ∷ rest → p (holding_of h) ≡ false
    → list_any p (holdings_of next) ≡ list_any p (holdings_of rest)
next_any p h next rest is not_so =
    ap (λ hs. list_any p (holdings_of hs)) is ∙ ap (λ b. b || list_any p (holdings_of rest)) not_so

-- what the list of a world's holdings decides
pub decided : (W : Wiring) (w : World) (line : Forbid) (ports : List ℕ) (hs : List Holding)
    (b : Bool)
    → hs ≡ holdings w
    → AreReached W w line.task ports
    → list_any (is_new W w line.task ports) hs ≡ false
    → b ≡ list_any (breaks w line ports) hs
    → IsTrue b ↔ Breach W w (line ∷ [])
decided W w line ports hs b all reached closed is =
    let none = sym (ap (list_any (is_new W w line.task ports)) all) ∙ closed in
    let told : b ≡ list_any (breaks w line ports) (holdings w) =
    is ∙ ap (list_any (breaks w line ports)) all in (
      λ t. broken_is W w line ports reached none (sym told ∙ t),
      λ breach. told ∙ is_broken W w line ports none breach,
    )

pub decided_at : (W : Wiring) (w : World) (line : Forbid) (class : ℕ) (ports : List ℕ)
    (hs : List Holding) (b : Bool)
    → hs ≡ holdings w
    → class ≡ line.task
    → AreReached W w class ports
    → list_any (is_new W w class ports) hs ≡ false
    → b ≡ list_any (breaks w line ports) hs
    → IsTrue b ↔ Breach W w (line ∷ [])
decided_at W w line class ports hs b all same reached closed is =
    decided W w line ports hs b all (subst (λ n. AreReached W w n ports) same reached)
    (subst (λ n. list_any (is_new W w n ports) hs ≡ false) same closed) is

-- steps of a pass

pub first_held : (w : World) (h : CodeHolding) (next rest : List CodeHolding) → next ≡ h ∷ rest
    → AreHeld w (holdings_of next) → Holds w h.task h.port h.right
first_held w h next rest is held = (subst (λ hs. AreHeld w (holdings_of hs)) is held).0

pub rest_held : (w : World) (h : CodeHolding) (next rest : List CodeHolding) → next ≡ h ∷ rest
    → AreHeld w (holdings_of next) → AreHeld w (holdings_of rest)
rest_held w h next rest is held = (subst (λ hs. AreHeld w (holdings_of hs)) is held).1

drop_in : (hs rest : List CodeHolding) (i : ℕ) (h : CodeHolding) → drop i hs ≡ h ∷ rest
    → IsIn (holding_of h) (holdings_of hs)
drop_in hs rest zero h is =
    subst (λ gs. IsIn (holding_of h) (holdings_of gs)) (sym is) here
drop_in [] rest (suc i) h is = absurd (false≢true (ap is_full is))
drop_in (g ∷ hs) rest (suc i) h is = later (drop_in hs rest i h is)

left_up : (more : Bool) (ports : List ℕ) (hs : List Holding)
    → left ports hs ≤ left_after more ports hs
left_up true ports hs = omega arith
left_up false ports hs = omega arith

pub put_less : (W : Wiring) (w : World) (class : ℕ) (ports after : List ℕ)
    (hs rest : List CodeHolding) (i : ℕ) (h : CodeHolding)
    → drop i hs ≡ h ∷ rest
    → (more : Bool) (bound : ℕ)
    → is_new W w class ports (holding_of h) ≡ true
    → ((q : ℕ) → has after q ≡ (h.port == q || has ports q))
    → left_after more ports (holdings_of hs) ≤ bound
    → left_after true after (holdings_of hs) ≤ bound
put_less W w class ports after hs rest i h next more bound new put le =
    let fresh = (new_parts (same_right h.right Send) (has ports h.port)
    (is_counted w class ports h.task) (is_limited W Takes (task_class w h.task)) new).1 in
    let less : left after (holdings_of hs) < left ports (holdings_of hs) =
    left_less ports after h.port put (holdings_of hs) (holding_of h)
    (drop_in hs rest i h next) refl fresh in
    let up : left ports (holdings_of hs) ≤ left_after more ports (holdings_of hs) =
    left_up more ports (holdings_of hs) in
    omega (arith, less, up, le)
