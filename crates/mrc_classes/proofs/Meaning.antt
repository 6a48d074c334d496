-- What the ten rules conclude is what the one coding of them concludes.
use Rattle.std.proofs.Common.{◌≡◌, ℕ, ◌+◌, ◌*◌, ◌/◌, ◌%◌, ◌==◌, ◌<◌, Bool, true, false, List, []}
use Rattle.std.proofs.Common.{◌∷◌, IsTrue, inl, inr}
use Rattle.std.proofs.Common.{refl, sym, subst, arith, length}
use Rattle.std.specs.Prelude.{◌||◌, ◌&&◌, if◌then◌else◌}
use Rattle.std.specs.List.{AllByRecursion}
use Rattle.std.proofs.lemmas.Bool.{or_cases, or_left, or_right, and_parts, and_from}
use Rattle.mrc_base.specs.declared.PortRight.{PortRight}
use Rattle.mrc_base.specs.declared.PortRight.TheVariants.{Send, Receive, SendOnce}
use Rattle.mrc_base.specs.declared.Disp.{Disp}
use Rattle.mrc_base.specs.Disposition.{needed, given}
use Rattle.mrc_base.specs.declared.Fact.{Fact}
use Rattle.mrc_base.specs.declared.Fact.TheVariants.{Hold, Carry}
use Rattle.mrc_model.specs.Wiring.{Wiring, classes, kernel_class, may}
use Rattle.mrc_model.specs.World.{task_class}
use Rattle.mrc_model.specs.First.{first}
use Rattle.mrc_model.specs.Rules.{Has, InRange, Follows, FactSet, CanSendBy, by_send, by_once, Rule}
use Rattle.mrc_model.specs.Rules.{k1, k2, k3_send, k3_once, k4, k5, k6, k7_up, k7_down, k8, k9, k10}
use Rattle.mrc_model.specs.declared.Verb.TheVariants.{Takes, Gives, Sends}
use Rattle.mrc_model.specs.Rights.{same_right}
use Rattle.mrc_wiring.specs.Slots.{takes}
use Rattle.mrc_wiring.proofs.Takers.{IsTaker, taken, taker, same_right_is}
use Rattle.mrc_slots.specs.Passing.{passes}
use Rattle.mrc_slots.proofs.Passing.{by_slot, passed_by}
use Rattle.mrc_classes.specs.declared.rule_names.RuleName.{RuleName}
use Rattle.mrc_classes.specs.declared.rule_names.RuleName.TheVariants.{First, Births, Weaker, Slot}
use Rattle.mrc_classes.specs.declared.rule_names.RuleName.TheVariants.{Reply, Received, KernelPort}
use Rattle.mrc_classes.specs.declared.rule_names.RuleName.TheVariants.{Request, Notice, Returned}
use Rattle.mrc_classes.specs.Concluding.{conclusion, rows, Concludes, can_send_to, is_taken_of}
use Rattle.mrc_classes.specs.Concluding.{kernel_port_held, may_share}
use Rattle.mrc_classes.specs.Missing.{rule_number}
use Rattle.mrc_classes.proofs.Beginning.{first_hold_is}

-- The premises are over the wiring's tasks and classes. The last one is in G, and the first of two
-- in F.
abbrev pub AreKnown : Wiring → FactSet → FactSet → List Fact → Type 0
AreKnown W F G [] = Unit {0}
AreKnown W F G (p ∷ []) = (InRange W p × G p) × Unit {0}
AreKnown W F G (p ∷ q ∷ more) =
    (InRange W p × F p) × AllByRecursion (λ x. InRange W x × G x) (q ∷ more)

-- the rule of this number concludes the fact from such premises, by an instance in range
pub record FollowsBy (W : Wiring) (F G : FactSet) (k : ℕ) (f : Fact) : Type 0 where
  pub premises : List Fact
  pub rule : Rule W k premises f
  pub known : AreKnown W F G premises
  pub in_range : InRange W f

-- the class of a task's kernel port is one of the classes
pub kernel_there : (W : Wiring) (u : ℕ) → u < W.tasks → kernel_class W u < classes W
kernel_there W u low =
    let h : W.ports + u < W.ports + W.tasks + length W.births = omega (arith, low) in h

-- there is one class at least, and a task
first_there : (n m : ℕ) → n < m → 0 < 1
first_there n m low = omega arith

-- what a class takes of a right of the task
pub taken_of : (W : Wiring) (T : Fact → Bool) (d t c : ℕ) (q r : PortRight)
    → IsTrue (T (Hold t c q)) → passes W d c q r ≡ true → IsTrue (is_taken_of W T d t c r)
taken_of W T d t c Send r held pass =
    or_left (T (Hold t c Send) && passes W d c Send r)
    ((T (Hold t c Receive) && passes W d c Receive r)
    || (T (Hold t c SendOnce) && passes W d c SendOnce r))
    (and_from (T (Hold t c Send)) (passes W d c Send r) held pass)
taken_of W T d t c Receive r held pass =
    or_right (T (Hold t c Send) && passes W d c Send r)
    ((T (Hold t c Receive) && passes W d c Receive r)
    || (T (Hold t c SendOnce) && passes W d c SendOnce r))
    (or_left (T (Hold t c Receive) && passes W d c Receive r)
    (T (Hold t c SendOnce) && passes W d c SendOnce r)
    (and_from (T (Hold t c Receive)) (passes W d c Receive r) held pass))
taken_of W T d t c SendOnce r held pass =
    or_right (T (Hold t c Send) && passes W d c Send r)
    ((T (Hold t c Receive) && passes W d c Receive r)
    || (T (Hold t c SendOnce) && passes W d c SendOnce r))
    (or_right (T (Hold t c Receive) && passes W d c Receive r)
    (T (Hold t c SendOnce) && passes W d c SendOnce r)
    (and_from (T (Hold t c SendOnce)) (passes W d c SendOnce r) held pass))

-- a disposition by which it does
pub record IsTakenBy (W : Wiring) (T : Fact → Bool) (d t c : ℕ) (r : PortRight) : Type 0 where
  pub disp : Disp
  pub gives : given disp ≡ r
  pub takes_it : takes W d disp c ≡ true
  pub held : IsTrue (T (Hold t c (needed disp)))

pub taken_by : (W : Wiring) (T : Fact → Bool) (d t c : ℕ) (r : PortRight)
    → IsTrue (is_taken_of W T d t c r) → IsTakenBy W T d t c r
taken_by W T d t c r h =
    elim (or_cases (T (Hold t c Send) && passes W d c Send r)
    ((T (Hold t c Receive) && passes W d c Receive r)
    || (T (Hold t c SendOnce) && passes W d c SendOnce r)) h) [
      | inl send ↦ by Send send
      | inr more ↦ elim (or_cases (T (Hold t c Receive) && passes W d c Receive r)
          (T (Hold t c SendOnce) && passes W d c SendOnce r) more) [
            | inl receive ↦ by Receive receive
            | inr once ↦ by SendOnce once
          ]
    ]
  where
    by : (q : PortRight) → IsTrue (T (Hold t c q) && passes W d c q r) → IsTakenBy W T d t c r
    by q both =
        let p = and_parts (T (Hold t c q)) (passes W d c q r) both in
        let x = passed_by W d c q r p.1 in
        record {
          disp = x.0;
          gives = x.1.1.0;
          takes_it = x.1.1.1;
          held = subst (λ y. IsTrue (T (Hold t c y))) (sym x.1.0) p.0;
        }

-- sources of the rule of kernel ports: two for each task

twice_below : (u n : ℕ) → u < n → 2 * u < 2 * n
twice_below u n low = omega (arith, low)

next_below_twice : (u n : ℕ) → u < n → 2 * u + 1 < 2 * n
next_below_twice u n low = omega (arith, low)

half_below : (k n : ℕ) → k < 2 * n → k / 2 < n
half_below k n low = omega (arith, low)

half_of_twice : (u : ℕ) → (2 * u) / 2 ≡ u
half_of_twice u = omega arith

half_of_next : (u : ℕ) → (2 * u + 1) / 2 ≡ u
half_of_next u = omega arith

even : (u : ℕ) → ((2 * u) % 2 == 0) ≡ true
even u = let e : (2 * u) % 2 ≡ 0 = omega arith in rw e refl

odd : (u : ℕ) → ((2 * u + 1) % 2 == 0) ≡ false
odd u = let e : (2 * u + 1) % 2 ≡ 1 = omega arith in rw e refl

-- by the first the row's task takes

taken_port : (W : Wiring) (t u : ℕ) → kernel_port_held W t (2 * u) ≡ Hold t (kernel_class W u) Send
taken_port W t u = rw (even u, half_of_twice u) refl

taken_share : (W : Wiring) (t u c : ℕ) (r : PortRight)
    → may_share W t (2 * u) c r ≡ may W Takes t r c
taken_share W t u c r = rw (even u) refl

-- by the second it is given

given_port : (W : Wiring) (t u : ℕ)
    → kernel_port_held W t (2 * u + 1) ≡ Hold u (kernel_class W t) Send
given_port W t u = rw (odd u, half_of_next u) refl

given_share : (W : Wiring) (t u c : ℕ) (r : PortRight)
    → may_share W t (2 * u + 1) c r ≡ may W Gives u r c
given_share W t u c r = rw (odd u, half_of_next u) refl

-- the one coding of a rule concludes the fact
pub record IsTested (W : Wiring) (S T : Fact → Bool) (k : ℕ) (f : Fact) : Type 0 where
  pub rule : RuleName
  pub number : rule_number rule ≡ k
  pub row : ℕ
  pub class : ℕ
  pub right : PortRight
  pub is : f ≡ conclusion rule row class right
  pub concluded : Concludes W S T rule row class right

module _ (W : Wiring) (S T : Fact → Bool) where
  can_send : (t d : ℕ) (r : PortRight)
      → CanSendBy r
      → IsTrue (S (Hold t d r))
      → IsTrue (can_send_to S t d)
  can_send t d Send can h = or_left (S (Hold t d Send)) (S (Hold t d SendOnce)) h
  can_send t d Receive can h = elim can [ ]
  can_send t d SendOnce can h = or_right (S (Hold t d Send)) (S (Hold t d SendOnce)) h

  -- what a rule concludes, its test concludes
  pub tested : (k : ℕ) (premises : List Fact) (g : Fact)
      → Rule W k premises g
      → AreKnown W (Has S) (Has T) premises
      → InRange W g
      → IsTested W S T k g
  tested k premises g (k1 t p {c} {r} held is) all within = record {
    rule = First;
    number = refl;
    row = task_class (first W) t;
    class = c;
    right = r;
    is = refl;
    concluded = record {
      source = 0;
      there = omega arith;
      first = refl;
      last = record {
        task = task_class (first W) t;
        class = c;
        right = r;
        is = refl;
        held = record { task = t; port = p; held = held; port_class = is; task_class_is = refl };
        in_range = within;
      };
    };
  }
  tested k premises g (k2 {t} {c} kind is) all within = record {
    rule = Births;
    number = refl;
    row = t;
    class = c;
    right = Receive;
    is = refl;
    concluded = record { source = c; there = within.1; first = refl; last = (refl, refl, (kind, is)) };
  }
  tested k premises g (k3_send {t} {c}) all within = record {
    rule = Weaker;
    number = refl;
    row = t;
    class = c;
    right = Send;
    is = refl;
    concluded = record { source = 0; there = omega arith; first = refl; last = (refl, all.0.1) };
  }
  tested k premises g (k3_once {t} {c}) all within = record {
    rule = Weaker;
    number = refl;
    row = t;
    class = c;
    right = SendOnce;
    is = refl;
    concluded = record { source = 0; there = omega arith; first = refl; last = (refl, all.0.1) };
  }
  tested k premises g (k4 {t} {d} {c} {n} {r} {f} {s} {x} can label slot typed is fits may_send)
      all within =
      let at : IsTaker W d x c = record {
        form = f;
        slot = s;
        labelled = label;
        among = slot;
        number = n;
        typed = typed;
        disposition = is;
        admitted = fits;
      } in
      record {
        rule = Slot;
        number = refl;
        row = d;
        class = c;
        right = given x;
        is = refl;
        concluded = record {
          source = t;
          there = all.0.0.0;
          first = can_send t d r can all.0.1;
          last = (
            may_send,
            taken_of W T d t c (needed x) (given x) all.1.0.1
                (by_slot W d c x (taken W d x c at)),
          );
        };
      }
  tested k premises g (k5 {t} {d} {c} {r} can side may_reply) all within = record {
    rule = Reply;
    number = refl;
    row = d;
    class = c;
    right = SendOnce;
    is = refl;
    concluded = record {
      source = t;
      there = all.0.0.0;
      first = can_send t d r can all.0.1;
      last = (refl, side, may_reply, all.1.0.1);
    };
  }
  tested k premises g (k6 {t} {d} {c} {r}) all within = record {
    rule = Received;
    number = refl;
    row = t;
    class = c;
    right = r;
    is = refl;
    concluded = record { source = d; there = all.0.0.1; first = all.0.1; last = all.1.0.1 };
  }
  tested k premises g (k7_up {t} {u} {c} {r} may_take) all within = record {
    rule = KernelPort;
    number = refl;
    row = t;
    class = c;
    right = r;
    is = refl;
    concluded = record {
      source = 2 * u;
      there = twice_below u W.tasks all.1.0.0.0;
      first = subst (λ x. IsTrue (S x)) (sym (taken_port W t u)) all.0.1;
      last = (
        subst IsTrue (sym (taken_share W t u c r)) may_take,
        subst (λ n. IsTrue (T (Hold n c r))) (sym (half_of_twice u)) all.1.0.1,
      );
    };
  }
  tested k premises g (k7_down {t} {u} {c} {r} may_give) all within = record {
    rule = KernelPort;
    number = refl;
    row = u;
    class = c;
    right = r;
    is = refl;
    concluded = record {
      source = 2 * t + 1;
      there = next_below_twice t W.tasks all.1.0.0.0;
      first = subst (λ x. IsTrue (S x)) (sym (given_port W u t)) all.0.1;
      last = (
        subst IsTrue (sym (given_share W u t c r)) may_give,
        subst (λ n. IsTrue (T (Hold n c r))) (sym (half_of_next t)) all.1.0.1,
      );
    };
  }
  tested k premises g (k8 {t} {c} {d} side) all within = record {
    rule = Request;
    number = refl;
    row = c;
    class = d;
    right = Send;
    is = refl;
    concluded = record {
      source = t;
      there = all.0.0.0;
      first = all.0.1;
      last = (refl, side, all.1.0.1);
    };
  }
  tested k premises g (k9 {c} {d}) all within = record {
    rule = Notice;
    number = refl;
    row = d;
    class = c;
    right = Receive;
    is = refl;
    concluded = record { source = c; there = all.0.0.0; first = refl; last = (refl, refl, all.0.1) };
  }
  tested k premises g (k10 {t} {c} {d}) all within = record {
    rule = Returned;
    number = refl;
    row = t;
    class = d;
    right = SendOnce;
    is = refl;
    concluded = record {
      source = c;
      there = all.0.0.1;
      first = all.0.1;
      last = (refl, all.1.0.1);
    };
  }

  -- what a test concludes, its rule concludes

  one : {k : ℕ} {f g : Fact}
      → Rule W k (f ∷ []) g
      → InRange W f × IsTrue (T f)
      → InRange W g
      → FollowsBy W (Has S) (Has T) k g
  one rule at within = record { premises = _; rule = rule; known = (at, tt); in_range = within }

  two : {k : ℕ} {f h g : Fact}
      → Rule W k (f ∷ h ∷ []) g
      → InRange W f × IsTrue (S f)
      → InRange W h × IsTrue (T h)
      → InRange W g
      → FollowsBy W (Has S) (Has T) k g
  two rule at other within =
      record { premises = _; rule = rule; known = (at, (other, tt)); in_range = within }

  -- through whichever right the task can send
  sent : (k : ℕ) (t d c : ℕ) (q : PortRight) (g : Fact)
      → ((r : PortRight) → CanSendBy r → Rule W k (Hold t d r ∷ Hold t c q ∷ []) g)
      → t < W.tasks
      → d < classes W
      → c < classes W
      → IsTrue (can_send_to S t d)
      → IsTrue (T (Hold t c q))
      → InRange W g
      → FollowsBy W (Has S) (Has T) k g
  sent k t d c q g rule low at_d at_c can held within =
      elim (or_cases (S (Hold t d Send)) (S (Hold t d SendOnce)) can) [
        | inl h ↦ two (rule Send by_send) ((low, at_d), h) ((low, at_c), held) within
        | inr h ↦ two (rule SendOnce by_once) ((low, at_d), h) ((low, at_c), held) within
      ]

  from_right : (k : ℕ) (f : PortRight → Fact) (r q : PortRight)
      → same_right r q ≡ true
      → FollowsBy W (Has S) (Has T) k (f q)
      → FollowsBy W (Has S) (Has T) k (f r)
  from_right k f r q e x =
      subst (λ y. FollowsBy W (Has S) (Has T) k (f y)) (sym (same_right_is r q e)) x

  -- by the rule of kernel ports: `taking` tells whether the row's task takes
  shared : (taking : Bool) (t u c : ℕ) (r : PortRight)
      → t < W.tasks → u < W.tasks → c < classes W
      → IsTrue (S (Hold (if taking then t else u) (kernel_class W (if taking then u else t)) Send))
      → IsTrue (may W (if taking then Takes else Gives) (if taking then t else u) r c)
      → IsTrue (T (Hold u c r))
      → FollowsBy W (Has S) (Has T) 7 (Hold t c r)
  shared true t u c r low there high port may_take held =
      two (k7_up may_take) ((low, kernel_there W u there), port) ((there, high), held) (low, high)
  shared false t u c r low there high port may_give held =
      two (k7_down may_give) ((there, kernel_there W t low), port) ((there, high), held) (low, high)

  pub concluded : (rule : RuleName) (row c : ℕ) (r : PortRight)
      → row < rows W rule
      → c < classes W
      → Concludes W S T rule row c r
      → FollowsBy W (Has S) (Has T) (rule_number rule) (conclusion rule row c r)
  concluded First row c r low high x = record {
    premises = [];
    rule = first_hold_is W (Hold row c r) x.last;
    known = tt;
    in_range = (low, high);
  }
  concluded Births row c r low high x =
      from_right 2 (λ y. Hold row c y) r Receive x.last.0
      (subst (λ n. FollowsBy W (Has S) (Has T) 2 (Hold row n Receive)) (sym x.last.1) (record {
        premises = [];
        rule = k2 x.last.2.0 x.last.2.1;
        known = tt;
        in_range = (low, subst (λ n. n < classes W) x.last.1 high);
      }))
  concluded Weaker row c Send low high x = one k3_send ((low, high), x.last.1) (low, high)
  concluded Weaker row c Receive low high x = absurd (let h = x.last.0 in cc)
  concluded Weaker row c SendOnce low high x = one k3_once ((low, high), x.last.1) (low, high)
  concluded Slot row c r low high x =
      let y = taken_by W T row x.source c r x.last.1 in
      let w = taker W row y.disp c y.takes_it in
      let may_send = subst (λ q. may W Sends x.source q c ≡ true) (sym y.gives) x.last.0 in
      subst (λ z. FollowsBy W (Has S) (Has T) 4 (Carry row c z)) y.gives
      (sent 4 x.source row c (needed y.disp) (Carry row c (given y.disp))
      (λ q can. k4 can w.labelled w.among w.typed w.disposition w.admitted may_send)
      x.there low high x.first y.held (low, high))
  concluded Reply row c r low high x =
      from_right 5 (λ y. Carry row c y) r SendOnce x.last.0
      (sent 5 x.source row c SendOnce (Carry row c SendOnce) (λ q can. k5 can x.last.1 x.last.2)
      x.there low high x.first x.last.3 (low, high))
  concluded Received row c r low high x =
      two k6 ((low, x.there), x.first) ((x.there, high), x.last) (low, high)
  concluded KernelPort row c r low high x =
      let there : x.source / 2 < W.tasks = half_below x.source W.tasks x.there in
      shared (x.source % 2 == 0) row (x.source / 2) c r low there high x.first x.last.0 x.last.1
  concluded Request row c r low high x =
      two (k8 x.last.1) ((x.there, low), x.first) ((x.there, high), x.last.2) (low, high)
  concluded Notice row c r low high x =
      from_right 9 (λ y. Carry row c y) r Receive x.last.0
      (subst (λ n. FollowsBy W (Has S) (Has T) 9 (Carry row n Receive)) (sym x.last.1)
      (one k9 ((x.there, low), x.last.2) (low, x.there)))
  concluded Returned row c r low high x =
      from_right 10 (λ y. Hold row c y) r SendOnce x.last.0
      (two k10 ((low, x.there), x.first) ((x.there, high), x.last.1) (low, high))

-- of one set

pub known_all : (W : Wiring) (F : FactSet) (premises : List Fact)
    → AreKnown W F F premises
    → AllByRecursion (λ p. InRange W p × F p) premises
known_all W F [] h = tt
known_all W F (p ∷ []) h = h
known_all W F (p ∷ q ∷ more) h = h

pub all_known : (W : Wiring) (F : FactSet) (premises : List Fact)
    → AllByRecursion (λ p. InRange W p × F p) premises
    → AreKnown W F F premises
all_known W F [] h = tt
all_known W F (p ∷ []) h = h
all_known W F (p ∷ q ∷ more) h = h

pub follows_of : (W : Wiring) (F : FactSet) (k : ℕ) (g : Fact) → FollowsBy W F F k g → Follows W F k g
follows_of W F k g x = record {
  premises = x.premises;
  rule = x.rule;
  known = known_all W F x.premises x.known;
  in_range = x.in_range;
}
