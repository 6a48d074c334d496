-- A covered world has no breach: what a task, or one that it counts as, holds is a fact of the
-- task, by K7.
use Rattle.std.proofs.Common.{List, Some, ap, false, if◌then◌else◌, sym, true, ℕ, ◌∙◌, ◌≡◌}
use Rattle.std.specs.List.{list_any}
use Rattle.mrc_base.specs.declared.Fact.TheVariants.{Hold}
use Rattle.mrc_base.specs.declared.PortRight.{PortRight}
use Rattle.mrc_base.specs.declared.PortRight.TheVariants.{Send}
use Rattle.mrc_model.proofs.Maps.{same_Some}
use Rattle.mrc_model.specs.Breach.{Breach, Counts, Forbid, Holds, Reaches, also, itself}
use Rattle.mrc_model.specs.Rules.{Closed, FactSet, ForbidsNone}
use Rattle.mrc_model.specs.Wiring.{Wiring, is_limited, kernel_class, may, trusts_by}
use Rattle.mrc_model.specs.World.{World, class_of, entry_rights, task_class}
use Rattle.mrc_model.specs.declared.Verb.{Verb}
use Rattle.mrc_model.specs.declared.Verb.TheVariants.{Takes}
use Rattle.mrc_cover.proofs.Kept.{Kept, task_class_is}
use Rattle.mrc_cover.proofs.Obeyed.{Ranged, obeys}
use Rattle.mrc_cover.proofs.Rights.{MayHold, known_in, right_on}

module _ (W : Wiring) (F : FactSet) (closed : Closed W F) (w : World)
    (kept : Kept W (Ranged W F) w) where
  -- each holding is a fact
  held_fact : (t p c : ℕ) (r : PortRight) → Holds w t p r → class_of w.store p ≡ Some c
      → Ranged W F (Hold (task_class w t) c r)
  held_fact t p c r (n, e, at, i) is =
      let known = known_in (class_of w.store) (MayHold (Ranged W F) (task_class w t)) (right_on p r)
      (entry_rights e) i (kept.sound.covers.held t n e at).all in
      let same : known.0 ≡ c = same_Some known.0 c (sym known.1 ∙ is) in
      rw same at known.2

  -- a task with no line that says what it takes may take all
  unlimited : (v : Verb) (t c : ℕ) (r : PortRight) → is_limited W v t ≡ false
      → may W v t r c ≡ true
  unfolding may
  unlimited v t c r free =
      ap (λ b. if b then list_any (trusts_by v t r c) W.trusted else true) free

  -- so is each holding of a task that is reached (K7)
  reached : (t u c : ℕ) (r : PortRight) → Reaches W w t u → Ranged W F (Hold (task_class w u) c r)
      → Ranged W F (Hold (task_class w t) c r)
  reached t u c r (x, at, alive, holds, free) fact =
      let kernel = held_fact t x.kernel (kernel_class W x.class) Send holds
      (kept.tasks.kernel u x at alive) in
      let of_class = task_class_is W F w u x at in
      (obeys W F closed).up (unlimited Takes (task_class w t) c r free) (rw (← of_class) at kernel)
      fact.0.0 fact

  -- and of each task that the first one counts as
  counted : (t u c : ℕ) (r : PortRight) → Counts W w t u → Ranged W F (Hold (task_class w u) c r)
      → Ranged W F (Hold (task_class w t) c r)
  counted t u c r (itself) fact = fact
  counted t u c r (also {u = v} before reaches) fact =
      counted t v c r before (reached v u c r reaches fact)

  -- so a holding that a policy forbids is a fact that it forbids
  pub no_breach : (policy : List Forbid) → ForbidsNone policy F → Breach W w policy → ⊥
  no_breach policy allowed b =
      let fact = counted b.named b.holder b.line.class b.line.right b.counts
      (held_fact b.holder b.port b.line.class b.line.right b.held b.class) in
      allowed b.line b.forbidden (rw b.of_class at fact.1)
