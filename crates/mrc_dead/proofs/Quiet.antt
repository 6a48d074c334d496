-- A class at which a message goes from one task to another is not quiet.
use Rattle.std.proofs.Common.{◌≡◌, ◌≢◌, inl, inr, ℕ, ◌<◌, Bool, true, false, refl, ap, sym, ◌∙◌}
use Rattle.std.proofs.Common.{subst, List, length, zero, suc, arith}
use Rattle.std.specs.Prelude.{◌==◌, ◌||◌, ◌&&◌, not}
use Rattle.std.specs.List.{list_any}
use Rattle.std.proofs.lemmas.Bool.{cases_lt, or_right}
use Rattle.std.proofs.lemmas.List.Folds.{list_any-append}
use Rattle.std.proofs.lemmas.Bool.Decides.{eqb_tells}
use Rattle.mrc_base.specs.declared.Disp.{Disp}
use Rattle.mrc_base.specs.Disposition.{needed, given}
use Rattle.mrc_base.specs.declared.Fact.{Fact}
use Rattle.mrc_base.specs.declared.Fact.TheVariants.{Hold}
use Rattle.mrc_base.specs.declared.PortRight.{PortRight}
use Rattle.mrc_base.specs.declared.PortRight.TheVariants.{Send, Receive, SendOnce}
use Rattle.mrc_model.proofs.Maps.{same_Some}
use Rattle.mrc_model.specs.declared.Verb.TheVariants.{Sends}
use Rattle.mrc_model.specs.Covers.{Covers}
use Rattle.mrc_model.specs.Rules.{FactSet, Has, CanSendBy, by_send, by_once}
use Rattle.mrc_model.specs.Wiring.{Wiring, admits, classes, may}
use Rattle.mrc_model.specs.World.{World, class_of, entry_rights, task_class}
use Rattle.mrc_cover.proofs.Rights.{known_in, right_on}
use Rattle.mrc_dead.specs.Asking.{accepts, any_below, askers, asks_at, asks_by, asks_for}
use Rattle.mrc_dead.specs.Asking.{may_hear, may_send, number_if, those_below}
use Rattle.mrc_dead.specs.Dead.{are_idle, fills, fills_at}
use Rattle.mrc_dead.specs.Laws.{DeadIsDead, HoldsAt, MayReach, QuietIsQuiet}
use Rattle.mrc_dead.proofs.Numbers.{any_at, both}

-- what is held in a covered world is a fact
held : (F : FactSet) (w : World) (t c : ℕ) (r : PortRight) → Covers F w → HoldsAt w t c r
    → F (Hold t c r)
held F w t c r covers h =
    let known = known_in (class_of w.store) (λ d q. F (Hold (task_class w h.task) d q))
    (right_on h.port r) (entry_rights h.holds.1) h.holds.3
    (covers.store.held h.task h.holds.0 h.holds.1 h.holds.2).all in
    let same : known.0 ≡ c = same_Some known.0 c (sym known.1 ∙ h.of_port) in
    subst (λ d. F (Hold t d r)) same (subst (λ u. F (Hold u known.0 r)) h.of_task known.2)

-- two tasks are not one
two : (t u : ℕ) → t ≢ u → not (t == u) ≡ true
two t u other =
    elim (eqb_tells t u) [ inl same ↦ absurd (other same.1) | inr differ ↦ ap not differ.0 ]

-- who has a right to send may send
sends : (set : Fact → Bool) (t c : ℕ) (r : PortRight) → CanSendBy r → Has set (Hold t c r)
    → may_send set t c ≡ true
sends set t c r (by_send) h = ap (λ b. b || set (Hold t c SendOnce)) h
sends set t c r (by_once) h =
    or_right (set (Hold t c Send)) (set (Hold t c SendOnce)) h

-- who may reach another may ask it
asking : (W : Wiring) (set : Fact → Bool) (w v : World) (t u c : ℕ) → MayReach W set w v t u c
    → asks_at W set c t ≡ true
asking W set w v t u c m =
    both (may_send set t c) (any_below (may_hear set c t) W.tasks)
    (sends set t c m.right m.can_send (held (Has set) w t c m.right m.covers m.sender))
    (any_at (may_hear set c t) W.tasks u m.low_other
    (both (not (t == u)) (set (Hold u c Receive)) (two t u m.other)
    (held (Has set) v u c Receive m.covers_other m.receiver)))

-- such a class is not quiet
pub quiet_so : QuietIsQuiet
quiet_so W set w v t u c m =
    ap not (any_at (asks_at W set c) W.tasks t m.low (asking W set w v t u c m))

-- a number that passes one test is among those; so if it passes another, one of them does
among : (test other : ℕ → Bool) (n k : ℕ) → k < n → test k ≡ true → other k ≡ true
    → list_any other (those_below test n) ≡ true
among test other zero k less is also = absurd (omega arith)
among test other (suc n) k less is also =
    list_any-append other (those_below test n) (number_if (test n) n)
    ∙ elim (cases_lt k n) [
      | inl below ↦ ap (λ b. b || list_any other (number_if (test n) n))
          (among test other n k below is also)
      | inr past ↦
          let same : k ≡ n = omega arith in
          or_right (list_any other (those_below test n)) (list_any other (number_if (test n) n))
          (ap (λ b. list_any other (number_if b n)) (ap test (sym same) ∙ is)
          ∙ (ap (λ b. b || false) (ap other (sym same) ∙ also)))
    ]

-- a test that never passes
neither : (a : Bool) → (a && false) ≡ false
neither true = refl
neither false = refl

-- if one of these tasks has a right for the slot, it is not dead
not_idle : (W : Wiring) (set : Fact → Bool) (x : Disp) (sort : ℕ) (ts : List ℕ)
    → list_any (fills W set x sort) ts ≡ true → are_idle W set x sort ts ≡ false
not_idle W set x sort ts one =
    ap (λ b. not (length ts == 0) && not b) one ∙ neither (not (length ts == 0))

-- such a slot is not dead
pub dead_so : DeadIsDead
dead_so W set w v t u c d item x sort m there accepted in_range holder admitted trusted =
    let fact : set (Hold t d (needed x)) ≡ true =
    held (Has set) w t d (needed x) m.covers holder in
    let fill : fills W set x sort t ≡ true =
    any_at (fills_at W set x sort t) (classes W) d in_range
    (both (set (Hold t d (needed x))) (admits W sort d && may W Sends t (given x) d) fact
    (both (admits W sort d) (may W Sends t (given x) d) admitted trusted)) in
    let asks : asks_for W set item t ≡ true =
    any_at (asks_by W set item t) (classes W) c there
    (both (accepts W item c) (asks_at W set c t) accepted (asking W set w v t u c m)) in
    not_idle W set x sort (askers W set item)
    (among (asks_for W set item) (fills W set x sort) W.tasks t m.low asks fill)
