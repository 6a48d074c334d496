-- What a closed set has, rule by rule, for the facts in range.
use Rattle.std.proofs.Common.{Some, true, ℕ, ◌<◌, ◌≡◌}
use Rattle.mrc_base.specs.Disposition.{given, needed, disp_of_number}
use Rattle.mrc_base.specs.declared.Disp.{Disp}
use Rattle.mrc_base.specs.declared.Fact.TheVariants.{Backup as BackupFact, Carry, Hold}
use Rattle.mrc_base.specs.declared.PortRight.{PortRight}
use Rattle.mrc_base.specs.declared.PortRight.TheVariants.{Receive, Send, SendOnce}
use Rattle.mrc_model.specs.IsIn.{IsIn}
use Rattle.mrc_model.specs.Rules.{CanSendBy, Closed, FactSet, InRange, k10, k2, k3_once, k3_send}
use Rattle.mrc_model.specs.Rules.{k4, k5, k6, k7_down, k7_up, k8, k9}
use Rattle.mrc_model.specs.Wiring.{Form, Shape, Wiring, accepts_destroyed, accepts_replier, admits}
use Rattle.mrc_model.specs.Wiring.{births_class, classes, form_shapes, forms, kernel_class, may}
use Rattle.mrc_model.specs.Wiring.{type_numbers}
use Rattle.mrc_model.specs.declared.Verb.TheVariants.{Gives, Replies, Sends, Takes}

-- each rule as a function from the facts of its premises to that of its conclusion
pub record Obeys (W : Wiring) (G : FactSet) : Type 0 where
  pub births : {t c : ℕ} (kind : ℕ) → births_class W t kind ≡ Some c → t < W.tasks → c < classes W
      → G (Hold t c Receive)
  pub sends : {t c : ℕ} → G (Hold t c Receive) → G (Hold t c Send)
  pub onces : {t c : ℕ} → G (Hold t c Receive) → G (Hold t c SendOnce)
  pub slot : {t d c n : ℕ} {r : PortRight} {f : Form} {s : Shape} {x : Disp} → CanSendBy r
      → IsIn f (forms W d)
      → IsIn s (form_shapes f) → IsIn n (type_numbers s.types) → disp_of_number n ≡ Some x
      → admits W s.sort c ≡ true
      → may W Sends t (given x) c ≡ true
      → G (Hold t d r) → G (Hold t c (needed x)) → G (Carry d c (given x))
  pub reply : {t d c : ℕ} {r : PortRight} → CanSendBy r → accepts_replier W d c ≡ true
      → may W Replies t SendOnce c ≡ true
      → G (Hold t d r) → G (Hold t c SendOnce) → G (Carry d c SendOnce)
  pub receive : {t d c : ℕ} {r : PortRight} → G (Hold t d Receive) → G (Carry d c r)
      → G (Hold t c r)
  pub up : {t u c : ℕ} {r : PortRight} → may W Takes t r c ≡ true
      → G (Hold t (kernel_class W u) Send) → u < W.tasks
      → G (Hold u c r)
      → G (Hold t c r)
  pub down : {t u c : ℕ} {r : PortRight} → may W Gives t r c ≡ true
      → G (Hold t (kernel_class W u) Send) → u < W.tasks
      → G (Hold t c r)
      → G (Hold u c r)
  pub backup : {t c d : ℕ} → accepts_destroyed W d ≡ true → G (Hold t c Receive)
      → G (Hold t d SendOnce)
      → G (BackupFact c d)
  pub destroyed : {c d : ℕ} → G (BackupFact c d) → G (Carry d c Receive)
  pub previous : {t c d : ℕ} → G (Hold t c Receive) → G (BackupFact c d) → G (Hold t d SendOnce)

-- the facts of a set that are over the wiring's tasks and classes
abbrev pub Ranged : Wiring → FactSet → FactSet
Ranged W F f = InRange W f × F f

-- a closed set obeys each rule
pub obeys : (W : Wiring) (F : FactSet) → Closed W F → Obeys W (Ranged W F)
obeys W F closed = record {
  births =
      λ {t} {c} kind is h l. let r : InRange W (Hold t c Receive) = (h, l) in
      (r, closed _ _ _ (k2 kind is) tt r);
  sends = λ p. (p.0, closed _ _ _ k3_send (p, tt) p.0);
  onces = λ p. (p.0, closed _ _ _ k3_once (p, tt) p.0);
  slot = λ {t} {d} {c} {n} {r} {f} {s} {x} a b e j g h m p q.
      let i : InRange W (Carry d c (given x)) = (p.0.1, q.0.1) in
      (i, closed _ _ _ (k4 {n = n} {f = f} {s = s} {x = x} a b e j g h m) (p, (q, tt)) i);
  reply = λ {t} {d} {c} {r} a b m p q.
      let k : InRange W (Carry d c SendOnce) = (p.0.1, q.0.1) in
      (k, closed _ _ _ (k5 a b m) (p, (q, tt)) k);
  receive =
      λ {t} {d} {c} {r} p q. let k : InRange W (Hold t c r) = (p.0.0, q.0.1) in
      (k, closed _ _ _ k6 (p, (q, tt)) k);
  up = λ {t} {u} {c} {r} m p l q.
      let k : InRange W (Hold t c r) = (p.0.0, q.0.1) in
      (k, closed _ _ _ (k7_up {u = u} m) (p, (q, tt)) k);
  down = λ {t} {u} {c} {r} m p l q.
      let k : InRange W (Hold u c r) = (l, q.0.1) in
      (k, closed _ _ _ (k7_down {t = t} m) (p, (q, tt)) k);
  backup = λ {t} {c} {d} a p q.
      let k : InRange W (BackupFact c d) = (p.0.1, q.0.1) in
      (k, closed _ _ _ (k8 {t = t} a) (p, (q, tt)) k);
  destroyed =
      λ {c} {d} p. let k : InRange W (Carry d c Receive) = (p.0.1, p.0.0) in
      (k, closed _ _ _ k9 (p, tt) k);
  previous = λ {t} {c} {d} p q.
      let k : InRange W (Hold t d SendOnce) = (p.0.0, q.0.1) in
      (k, closed _ _ _ (k10 {c = c}) (p, (q, tt)) k);
}
