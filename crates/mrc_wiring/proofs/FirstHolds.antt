-- What the lines give, by class, is what is held in the first state.
use Rattle.std.proofs.Common.{◌≡◌, ◌⊎◌, inl, inr, ℕ, List, [], ◌∷◌, ◌++◌, Option, Some, None, refl}
use Rattle.std.proofs.Common.{subst, sym, ◌∙◌}
use Rattle.std.specs.Prelude.{slice_get}
use Rattle.mrc_base.specs.declared.Fact.TheVariants.{Hold}
use Rattle.mrc_base.specs.declared.PortRight.{PortRight}
use Rattle.mrc_model.specs.IsIn.{IsIn, here, later}
use Rattle.mrc_model.specs.Breach.{Holding}
use Rattle.mrc_model.specs.Wiring.{Wiring}
use Rattle.mrc_model.specs.FirstHoldings.{facts_by, fact_at, first_facts, given_classes}
use Rattle.mrc_model.specs.FirstHoldings.{given_holdings, HasGiven}
use Rattle.mrc_model.proofs.Members.{in_left, in_right, in_append}
use Rattle.mrc_wiring.specs.FirstState.{IsFirstHold, HasFirstHolds, AreHolds}
use Rattle.mrc_wiring.proofs.Lines.{held}

-- a holding on a port of the class
record Gives (cs : List ℕ) (hs : List Holding) (t c : ℕ) (r : PortRight) : Type 0 where
  port : ℕ
  there : IsIn (held t port r) hs
  class : slice_get cs port ≡ Some c

of_one : (cs : List ℕ) (h : Holding) (o : Option ℕ) (t c : ℕ) (r : PortRight)
    → slice_get cs h.port ≡ o
    → IsIn (Hold t c r) (fact_at h o)
    → Gives cs (h ∷ []) t c r
of_one cs h None t c r e at = elim at [ ]
of_one cs h (Some d) t c r e here = record { port = h.port; there = here; class = e }
of_one cs h (Some d) t c r e (later at) = elim at [ ]

more_gives : (cs : List ℕ) (h : Holding) (hs : List Holding) (t c : ℕ) (r : PortRight)
    → Gives cs (h ∷ []) t c r
    → Gives cs (h ∷ hs) t c r
more_gives cs h hs t c r g = record {
  port = g.port;
  there = in_left (held t g.port r) (h ∷ []) hs g.there;
  class = g.class;
}

later_gives : (cs : List ℕ) (h : Holding) (hs : List Holding) (t c : ℕ) (r : PortRight)
    → Gives cs hs t c r
    → Gives cs (h ∷ hs) t c r
later_gives cs h hs t c r g = record { port = g.port; there = later g.there; class = g.class }

from_facts : (cs : List ℕ) (hs : List Holding) (t c : ℕ) (r : PortRight)
    → IsIn (Hold t c r) (facts_by cs hs)
    → Gives cs hs t c r
from_facts cs [] t c r at = elim at [ ]
from_facts cs (h ∷ hs) t c r at =
    elim (in_append (Hold t c r) (fact_at h (slice_get cs h.port)) (facts_by cs hs) at) [
      | inl one ↦ more_gives cs h hs t c r (of_one cs h (slice_get cs h.port) t c r refl one)
      | inr rest ↦ later_gives cs h hs t c r (from_facts cs hs t c r rest)
    ]

to_facts : (cs : List ℕ) (hs : List Holding) (t p c : ℕ) (r : PortRight)
    → IsIn (held t p r) hs
    → slice_get cs p ≡ Some c
    → IsIn (Hold t c r) (facts_by cs hs)
to_facts cs [] t p c r at e = elim at [ ]
to_facts cs (h ∷ hs) t p c r here e =
    in_left (Hold t c r) (fact_at (held t p r) (slice_get cs p)) (facts_by cs hs)
    (subst (λ o. IsIn (Hold t c r) (fact_at (held t p r) o)) (sym e) here)
to_facts cs (h ∷ hs) t p c r (later at) e =
    in_right (Hold t c r) (fact_at h (slice_get cs h.port)) (facts_by cs hs)
    (to_facts cs hs t p c r at e)

of_hold : (h : Holding) (o : Option ℕ) → AreHolds (fact_at h o)
of_hold h None fact at = elim at [ ]
of_hold h (Some c) fact here = refl
of_hold h (Some c) fact (later at) = elim at [ ]

pub facts_are_holds : (cs : List ℕ) (hs : List Holding) → AreHolds (facts_by cs hs)
facts_are_holds cs [] fact at = elim at [ ]
facts_are_holds cs (h ∷ hs) fact at =
    elim (in_append fact (fact_at h (slice_get cs h.port)) (facts_by cs hs) at) [
      | inl one ↦ of_hold h (slice_get cs h.port) fact one
      | inr rest ↦ facts_are_holds cs hs fact rest
    ]

pub facts_are_held : (W : Wiring) → HasGiven W → HasFirstHolds W (first_facts W)
facts_are_held W given t c r = (to, from)
  where
    to : IsIn (Hold t c r) (first_facts W) → IsFirstHold W t c r
    to at =
        let g = from_facts (given_classes W) (given_holdings W) t c r at in
        record {
          task = t;
          port = g.port;
          held = (given.holdings t g.port r).1 g.there;
          port_class = given.classes g.port ∙ g.class;
          task_class_is = given.tasks t;
        }

    from : IsFirstHold W t c r → IsIn (Hold t c r) (first_facts W)
    from x =
        let there = (given.holdings x.task x.port r).0 x.held in
        let task : x.task ≡ t = sym (given.tasks x.task) ∙ x.task_class_is in
        to_facts (given_classes W) (given_holdings W) t x.port c r
        (subst (λ u. IsIn (held u x.port r) (given_holdings W)) task there)
        (sym (given.classes x.port) ∙ x.port_class)
