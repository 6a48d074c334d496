-- What candidates have is what the rules ask for: the first premise, the side condition, the last
-- premise.
use Rattle.std.proofs.Common.{◌≡◌, ◌↔◌, ◌==◌, ℕ, Bool, true, false, IsTrue, refl}
use Rattle.std.specs.Prelude.{◌||◌, ◌&&◌}
use Rattle.std.proofs.lemmas.Bool.{eqb-true, eq-eqb}
use Rattle.std.proofs.Math.Bool.{and-false, or-false}
use Rattle.mrc_base.specs.declared.PortRight.TheVariants.{Send, Receive, SendOnce}
use Rattle.mrc_base.specs.declared.Fact.{Fact}
use Rattle.mrc_base.specs.declared.Fact.TheVariants.{Hold}
use Rattle.mrc_model.specs.Wiring.{Wiring}
use Rattle.mrc_slots.specs.Passing.{passes}
use Rattle.mrc_classes.specs.Concluding.{is_taken_of}

-- a rule of one premise or none asks for no first one
pub no_first : {A B : Type 0} → A ↔ B → A ↔ (IsTrue true × B)
no_first h = (λ a. (refl, h.0 a), λ x. h.1 x.1)

-- a rule of no premise asks for a side condition alone
pub no_last : {A B R : Type 0} → A ↔ B → R ↔ (A × Unit {0}) → R ↔ B
no_last e h = (λ r. e.0 (h.0 r).0, λ x. h.1 (e.1 x, tt))

-- one side condition, and another one for it
pub side : {A B Q R : Type 0} → A ↔ B → R ↔ (A × Q) → R ↔ (B × Q)
side e h = (λ r. let x = h.0 r in (e.0 x.0, x.1), λ x. h.1 (e.1 x.0, x.1))

-- a side condition within another
pub within : {A Q R M : Type 0} → R ↔ (A × M) → M ↔ Q → R ↔ (A × Q)
within h k = (λ r. let x = h.0 r in (x.0, k.0 x.1), λ x. h.1 (x.0, k.1 x.1))

-- two side conditions
pub both_sides : {A B Q R : Type 0} → R ↔ (A × (B × Q)) → R ↔ (A × B × Q)
both_sides h = (λ r. let x = h.0 r in (x.0, x.1.0, x.1.1), λ x. h.1 (x.0, (x.1, x.2)))

-- the first premise comes before the side condition
pub first_before : {A P Q R : Type 0} → R ↔ (A × (P × Q)) → R ↔ (P × (A × Q))
first_before h = (λ r. let x = h.0 r in (x.1.0, (x.0, x.1.1)), λ x. h.1 (x.1.0, (x.0, x.1.1)))

-- and before two of them
pub first_before_two : {A B P Q R : Type 0} → R ↔ (A × (B × (P × Q))) → R ↔ (P × (A × B × Q))
first_before_two h = (
  λ r. let x = h.0 r in (x.1.1.0, (x.0, x.1.0, x.1.1.1)),
  λ x. h.1 (x.1.0, (x.1.1, (x.0, x.1.2))),
)

-- and before three
pub first_before_three : {A B C P Q R : Type 0} → R ↔ (A × (B × (C × (P × Q))))
    → R ↔ (P × (A × B × C × Q))
first_before_three h = (
  λ r. let x = h.0 r in (x.1.1.1.0, (x.0, x.1.0, x.1.1.0, x.1.1.1.1)),
  λ x. h.1 (x.1.0, (x.1.1, (x.1.2, (x.0, x.1.3)))),
)

-- two classes are one
pub same_class : (c n : ℕ) → IsTrue (c == n) ↔ (c ≡ n)
same_class c n = (eqb-true c n, eq-eqb c n)

-- what a class takes as each right

module _ (W : Wiring) (T : Fact → Bool) (d t c : ℕ) where
  pub taken_as_send :
      ((T (Hold t c Send) && passes W d c Send Send)
      || (T (Hold t c Receive) && passes W d c Receive Send)) ≡ is_taken_of W T d t c Send
  taken_as_send =
      rw (
        and-false (T (Hold t c SendOnce)),
        or-false (T (Hold t c Receive) && passes W d c Receive Send),
      ) refl

  pub taken_as_receive :
      ((T (Hold t c Receive) && passes W d c Receive Receive) || (T (Hold t c Receive) && false))
      ≡ is_taken_of W T d t c Receive
  taken_as_receive = simp (and-false, or-false)

  pub taken_as_once :
      ((T (Hold t c Receive) && passes W d c Receive SendOnce)
      || (T (Hold t c SendOnce) && passes W d c SendOnce SendOnce))
      ≡ is_taken_of W T d t c SendOnce
  taken_as_once = simp and-false
