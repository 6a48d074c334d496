-- What follows from a new fact and is not known is at one of the places, and nothing else is. S tells
-- the facts of a set, N the new ones among them, K the known ones.
use Rattle.std.proofs.Common.{◌≡◌, ℕ, ◌+◌, ◌<◌, ◌≤◌, Bool, true, false, List, [], ◌∷◌, IsTrue, ◌⊎◌}
use Rattle.std.proofs.Common.{inl, inr}
use Rattle.std.proofs.Common.{refl, sym, subst, arith, length}
use Rattle.std.specs.List.{AllByRecursion}
use Rattle.mrc_base.specs.declared.Fact.{Fact}
use Rattle.mrc_model.specs.IsIn.{IsIn, here, later}
use Rattle.mrc_model.specs.Wiring.{Wiring, classes}
use Rattle.mrc_model.specs.Rules.{Has, InRange, Rule}
use Rattle.mrc_model.specs.Rules.{k1, k2, k3_send, k3_once, k4, k5, k6, k7_up, k7_down, k8, k9, k10}
use Rattle.mrc_classes.specs.declared.rule_names.RuleName.{RuleName}
use Rattle.mrc_classes.specs.declared.rule_names.RuleName.TheVariants.{First, Births, Weaker, Slot}
use Rattle.mrc_classes.specs.declared.rule_names.RuleName.TheVariants.{Reply, Received, KernelPort}
use Rattle.mrc_classes.specs.declared.rule_names.RuleName.TheVariants.{Request, Notice, Returned}
use Rattle.mrc_classes.specs.Following.{IsConsequence}
use Rattle.mrc_classes.specs.Concluding.{conclusion, rows, has_two}
use Rattle.mrc_classes.specs.Missing.{rule_number}
use Rattle.mrc_classes.specs.Places.{AtPlace}
use Rattle.mrc_classes.proofs.Meaning.{AreKnown, FollowsBy, IsTested, tested, concluded}
use Rattle.mrc_classes.proofs.Missed.{placed}

-- a place is the number of a class
row_below : (W : Wiring) (rule : RuleName) (row : ℕ) → row < rows W rule → row < classes W
row_below W First row low = let h : row < W.ports + W.tasks + length W.births = omega (arith, low) in h
row_below W Births row low = let h : row < W.ports + W.tasks + length W.births = omega (arith, low) in h
row_below W Weaker row low = let h : row < W.ports + W.tasks + length W.births = omega (arith, low) in h
row_below W Slot row low = low
row_below W Reply row low = low
row_below W Received row low = let h : row < W.ports + W.tasks + length W.births = omega (arith, low) in h
row_below W KernelPort row low = let h : row < W.ports + W.tasks + length W.births = omega (arith, low) in h
row_below W Request row low = low
row_below W Notice row low = low
row_below W Returned row low = let h : row < W.ports + W.tasks + length W.births = omega (arith, low) in h

-- which rules have how many premises

not_in : {f : Fact} → IsIn f [] → ⊥
not_in at = elim at [ ]

no_empty : (W : Wiring) (k : ℕ) (g : Fact) → Rule W k [] g → 3 ≤ k → ⊥
no_empty W k g (k1 t p held is) low = omega arith
no_empty W k g (k2 kind is) low = omega arith

one_number : (W : Wiring) (k : ℕ) (f g : Fact) → Rule W k (f ∷ []) g → (k ≡ 3) ⊎ (k ≡ 9)
one_number W k f g k3_send = inl refl
one_number W k f g k3_once = inl refl
one_number W k f g k9 = inr refl

record IsTwo (k : ℕ) : Type 0 where
  low : 3 < k
  other : k ≡ 9 → ⊥
  high : k < 11

two_number : (W : Wiring) (k : ℕ) (p q : Fact) (more : List Fact) (g : Fact)
    → Rule W k (p ∷ q ∷ more) g → IsTwo k
two_number W k p q more g (k4 can label slot typed is fits may_send) =
    record { low = omega arith; other = λ e. omega arith; high = omega arith }
two_number W k p q more g (k5 can side may_reply) =
    record { low = omega arith; other = λ e. omega arith; high = omega arith }
two_number W k p q more g k6 =
    record { low = omega arith; other = λ e. omega arith; high = omega arith }
two_number W k p q more g (k7_up may_take) =
    record { low = omega arith; other = λ e. omega arith; high = omega arith }
two_number W k p q more g (k7_down may_give) =
    record { low = omega arith; other = λ e. omega arith; high = omega arith }
two_number W k p q more g (k8 side) =
    record { low = omega arith; other = λ e. omega arith; high = omega arith }
two_number W k p q more g k10 =
    record { low = omega arith; other = λ e. omega arith; high = omega arith }

no_third : (W : Wiring) (k : ℕ) (p q r : Fact) (more : List Fact) (g : Fact)
    → Rule W k (p ∷ q ∷ r ∷ more) g → ⊥
no_third W k p q r more g rule = elim rule [ ]

two_of : (rule : RuleName) → IsTwo (rule_number rule) → has_two rule ≡ true
two_of First x = absurd (let h = x.low in omega arith)
two_of Births x = absurd (let h = x.low in omega arith)
two_of Weaker x = absurd (let h = x.low in omega arith)
two_of Slot x = refl
two_of Reply x = refl
two_of Received x = refl
two_of KernelPort x = refl
two_of Request x = refl
two_of Notice x = absurd (x.other refl)
two_of Returned x = refl

one_of : (rule : RuleName) → has_two rule ≡ true → (rule_number rule ≡ 3) ⊎ (rule_number rule ≡ 9) → ⊥
one_of First two x = absurd cc
one_of Births two x = absurd cc
one_of Weaker two x = absurd cc
one_of Slot two (inl e) = omega arith
one_of Slot two (inr e) = omega arith
one_of Reply two (inl e) = omega arith
one_of Reply two (inr e) = omega arith
one_of Received two (inl e) = omega arith
one_of Received two (inr e) = omega arith
one_of KernelPort two (inl e) = omega arith
one_of KernelPort two (inr e) = omega arith
one_of Request two (inl e) = omega arith
one_of Request two (inr e) = omega arith
one_of Notice two x = absurd cc
one_of Returned two (inl e) = omega arith
one_of Returned two (inr e) = omega arith

none_of : (rule : RuleName) → has_two rule ≡ true → 3 ≤ rule_number rule
none_of First two = absurd cc
none_of Births two = absurd cc
none_of Weaker two = absurd cc
none_of Slot two = omega arith
none_of Reply two = omega arith
none_of Received two = omega arith
none_of KernelPort two = omega arith
none_of Request two = omega arith
none_of Notice two = absurd cc
none_of Returned two = omega arith

module _ (W : Wiring) (S N K : Fact → Bool)
    (among : (f : Fact) → IsTrue (N f) → IsTrue (S f)) where
  -- it follows from one of the new facts
  pub record FromNew (g : Fact) : Type 0 where
    pub premise : Fact
    pub new : IsTrue (N premise)
    pub consequence : IsConsequence W (Has S) premise g

  -- an instance whose last premise is new
  by_last : (k : ℕ) (g : Fact) → 3 ≤ k → FollowsBy W (Has S) (Has N) k g → FromNew g
  by_last k g low x = at x.premises x.rule x.known
    where
      at : (ps : List Fact) → Rule W k ps g → AreKnown W (Has S) (Has N) ps → FromNew g
      at [] rule known = absurd (no_empty W k g rule low)
      at (q ∷ []) rule known = record {
        premise = q;
        new = known.0.1;
        consequence = record {
          rule = k;
          follows = record {
            premises = q ∷ [];
            rule = rule;
            among = here;
            known = ((known.0.0, inl refl), tt);
            in_range = x.in_range;
          };
        };
      }
      at (p ∷ q ∷ []) rule known = record {
        premise = q;
        new = known.1.0.1;
        consequence = record {
          rule = k;
          follows = record {
            premises = p ∷ q ∷ [];
            rule = rule;
            among = later here;
            known = ((known.0.0, inr known.0.1), ((known.1.0.0, inl refl), tt));
            in_range = x.in_range;
          };
        };
      }
      at (p ∷ q ∷ r ∷ more) rule known = absurd (no_third W k p q r more g rule)

  -- an instance of two premises whose first is new
  by_first : (k : ℕ) (g : Fact) → 3 ≤ k → ((k ≡ 3) ⊎ (k ≡ 9) → ⊥)
      → FollowsBy W (Has N) (Has S) k g → FromNew g
  by_first k g low two x = at x.premises x.rule x.known
    where
      at : (ps : List Fact) → Rule W k ps g → AreKnown W (Has N) (Has S) ps → FromNew g
      at [] rule known = absurd (no_empty W k g rule low)
      at (q ∷ []) rule known = absurd (two (one_number W k q g rule))
      at (p ∷ q ∷ []) rule known = record {
        premise = p;
        new = known.0.1;
        consequence = record {
          rule = k;
          follows = record {
            premises = p ∷ q ∷ [];
            rule = rule;
            among = here;
            known = ((known.0.0, inl refl), ((known.1.0.0, inr known.1.0.1), tt));
            in_range = x.in_range;
          };
        };
      }
      at (p ∷ q ∷ r ∷ more) rule known = absurd (no_third W k p q r more g rule)

  pub from_place : (p : ℕ) (g : Fact) → AtPlace W S N K p g → FromNew g
  from_place p g x =
      let y = x.at.in_row in
      subst FromNew (sym y.is) (elim y.at [
        | inl last ↦ by_last (rule_number x.rule) (conclusion x.rule p y.class y.right) x.premised
            (concluded W S N x.rule p y.class y.right x.at.there y.there last)
        | inr first ↦ by_first (rule_number x.rule) (conclusion x.rule p y.class y.right)
            (none_of x.rule first.0) (one_of x.rule first.0)
            (concluded W N S x.rule p y.class y.right x.at.there y.there first.1)
      ])

  -- at a place

  pub record SomePlace (g : Fact) : Type 0 where
    pub place : ℕ
    pub below : place < classes W
    pub at : AtPlace W S N K place g

  -- what is tested with a new fact stands at the place of its row
  last_placed : (k : ℕ) (g : Fact) → 3 ≤ k → k < 11 → InRange W g → K g ≡ false
      → IsTested W S N k g → SomePlace g
  last_placed k g low high within unknown t =
      let p = placed W t.rule t.row t.class t.right (subst (InRange W) t.is within) in
      record {
        place = t.row;
        below = row_below W t.rule t.row p.0;
        at = record {
          rule = t.rule;
          premised = omega (arith, t.number);
          below = omega (arith, t.number);
          at = record {
            there = p.0;
            in_row = record {
              class = t.class;
              right = t.right;
              there = p.1;
              is = t.is;
              at = inl t.concluded;
            };
            unknown = unknown;
          };
        };
      }

  first_placed : (k : ℕ) (g : Fact) → IsTwo k → InRange W g → K g ≡ false → IsTested W N S k g
      → SomePlace g
  first_placed k g two within unknown t =
      let p = placed W t.rule t.row t.class t.right (subst (InRange W) t.is within) in
      record {
        place = t.row;
        below = row_below W t.rule t.row p.0;
        at = record {
          rule = t.rule;
          premised = omega (arith, t.number, two.low);
          below = omega (arith, t.number, two.high);
          at = record {
            there = p.0;
            in_row = record {
              class = t.class;
              right = t.right;
              there = p.1;
              is = t.is;
              at = inr (two_of t.rule (subst IsTwo (sym t.number) two), t.concluded);
            };
            unknown = unknown;
          };
        };
      }

  -- a premise that is the new fact, or one of the set
  known : (f q : Fact) → IsTrue (N f) → InRange W q × ((q ≡ f) ⊎ Has S q) → InRange W q × Has S q
  known f q new x = (
    x.0,
    elim x.1 [
      | inl same ↦ among q (subst (λ y. IsTrue (N y)) (sym same) new)
      | inr there ↦ there
    ],
  )

  pub to_place : (f g : Fact) → IsTrue (N f) → K g ≡ false → IsConsequence W (Has S) f g
      → SomePlace g
  to_place f g new unknown x =
      at x.follows.premises x.follows.rule x.follows.among x.follows.known
    where
      k : ℕ
      k = x.rule

      at : (ps : List Fact) → Rule W k ps g → IsIn f ps
          → AllByRecursion (λ q. InRange W q × ((q ≡ f) ⊎ Has S q)) ps → SomePlace g
      at [] rule in_it all = absurd (not_in in_it)
      at (q ∷ []) rule here all =
          let n = one_number W k f g rule in
          last_placed k g (elim n [ inl e ↦ omega arith | inr e ↦ omega arith ])
          (elim n [ inl e ↦ omega arith | inr e ↦ omega arith ]) x.follows.in_range unknown
          (tested W S N k (f ∷ []) g rule ((all.0.0, new), tt) x.follows.in_range)
      at (q ∷ []) rule (later in_it) all = absurd (not_in in_it)
      at (p ∷ q ∷ []) rule here all =
          let n = two_number W k f q [] g rule in
          first_placed k g n x.follows.in_range unknown
          (tested W N S k (f ∷ q ∷ []) g rule ((all.0.0, new), (known f q new all.1.0, tt))
          x.follows.in_range)
      at (p ∷ q ∷ []) rule (later here) all =
          let n = two_number W k p f [] g rule in
          last_placed k g (let h = n.low in omega arith) n.high x.follows.in_range unknown
          (tested W S N k (p ∷ f ∷ []) g rule (known f p new all.0, ((all.1.0.0, new), tt))
          x.follows.in_range)
      at (p ∷ q ∷ []) rule (later (later in_it)) all = absurd (not_in in_it)
      at (p ∷ q ∷ r ∷ more) rule in_it all = absurd (no_third W k p q r more g rule)
