-- Believe. Facts, the ten rules, closed, least, derivations, the yes; for what a yes means of runs
-- a step. Facts over the wiring's tasks and classes, the ten rules, and which sets of facts are
-- closed under them. This profile's own choice.
use Rattle.std.specs.Prelude.{◌≡◌, ◌⊎◌, ℕ, ◌<◌, Bool, true, List, [], ◌∷◌, Some, IsTrue}
use Rattle.std.specs.List.{AllByRecursion}
use Rattle.mrc_base.specs.declared.PortRight.{PortRight}
use Rattle.mrc_base.specs.declared.PortRight.TheVariants.{Send, Receive, SendOnce}
use Rattle.mrc_base.specs.declared.Disp.{Disp}
use Rattle.mrc_base.specs.Disposition.{needed, given, disp_of_number}
use Rattle.mrc_base.specs.declared.Fact.{Fact}
use Rattle.mrc_base.specs.declared.Fact.TheVariants.{Hold, Carry, Backup as BackupFact}
use Rattle.mrc_model.specs.declared.Verb.TheVariants.{Takes, Gives, Sends, Replies}
use Rattle.mrc_model.specs.IsIn.{IsIn}
use Rattle.mrc_model.specs.Wiring.{Wiring, Shape, Form, type_numbers, form_shapes, kernel_class}
use Rattle.mrc_model.specs.Wiring.{births_class}
use Rattle.mrc_model.specs.Wiring.{classes, forms, admits, accepts_destroyed, accepts_replier, may}
use Rattle.mrc_model.specs.World.{class_of, task_class}
use Rattle.mrc_model.specs.First.{first}
use Rattle.mrc_model.specs.Breach.{Holds, Forbid}

-- a set of facts
abbrev pub FactSet : Type 1
FactSet = Fact → Type 0

-- the set of the facts that pass a test
abbrev pub Has : (Fact → Bool) → FactSet
Has set f = IsTrue (set f)

-- a message can be sent through the right
pub data CanSendBy : PortRight → Type 0 where
  by_send : CanSendBy Send
  by_once : CanSendBy SendOnce

-- An instance of the rule of this number, with a true side condition: its premises and its
-- conclusion.
pub data Rule (W : Wiring) : ℕ → List Fact → Fact → Type 0 where
  -- what is held in the first state
  k1 : (t p : ℕ) {c : ℕ} {r : PortRight} → Holds (first W) t p r
      → class_of (first W).store p ≡ Some c → Rule W 1 [] (Hold (task_class (first W) t) c r)
  -- a task can make ports of its births
  k2 : {t c : ℕ} (kind : ℕ) → births_class W t kind ≡ Some c → Rule W 2 [] (Hold t c Receive)
  -- a receive right makes send and send-once rights
  k3_send : {t c : ℕ} → Rule W 3 (Hold t c Receive ∷ []) (Hold t c Send)
  k3_once : {t c : ℕ} → Rule W 3 (Hold t c Receive ∷ []) (Hold t c SendOnce)
  -- a slot of a form carries what its type admits and the sender may send
  k4 : {t d c n : ℕ} {r : PortRight} {f : Form} {s : Shape} {x : Disp} → CanSendBy r
      → IsIn f (forms W d) → IsIn s (form_shapes f) → IsIn n (type_numbers s.types)
      → disp_of_number n ≡ Some x
      → admits W s.sort c ≡ true → may W Sends t (given x) c ≡ true
      → Rule W 4 (Hold t d r ∷ Hold t c (needed x) ∷ []) (Carry d c (given x))
  -- a routine's request carries a reply right, of any class that fits it and that the sender may
  -- have replies at
  k5 : {t d c : ℕ} {r : PortRight} → CanSendBy r → accepts_replier W d c ≡ true
      → may W Replies t SendOnce c ≡ true
      → Rule W 5 (Hold t d r ∷ Hold t c SendOnce ∷ []) (Carry d c SendOnce)
  -- what is carried can be received
  k6 : {t d c : ℕ} {r : PortRight} → Rule W 6 (Hold t d Receive ∷ Carry d c r ∷ []) (Hold t c r)
  -- who holds a task's kernel port can take from that task, and give to it, what it may
  k7_up : {t u c : ℕ} {r : PortRight} → may W Takes t r c ≡ true
      → Rule W 7 (Hold t (kernel_class W u) Send ∷ Hold u c r ∷ []) (Hold t c r)
  k7_down : {t u c : ℕ} {r : PortRight} → may W Gives t r c ≡ true
      → Rule W 7 (Hold t (kernel_class W u) Send ∷ Hold t c r ∷ []) (Hold u c r)
  -- a port's receiver can ask for port-destroyed notices
  k8 : {t c d : ℕ} → accepts_destroyed W d ≡ true
      → Rule W 8 (Hold t c Receive ∷ Hold t d SendOnce ∷ []) (BackupFact c d)
  -- the notice carries the receive right
  k9 : {c d : ℕ} → Rule W 9 (BackupFact c d ∷ []) (Carry d c Receive)
  -- a port's receiver can get the right of the request before
  k10 : {t c d : ℕ} → Rule W 10 (Hold t c Receive ∷ BackupFact c d ∷ []) (Hold t d SendOnce)

-- over the wiring's tasks and classes; any other fact is no premise and no conclusion
abbrev pub InRange : Wiring → Fact → Type 0
InRange W (Hold t c r) = (t < W.tasks) × (c < classes W)
InRange W (Carry d c r) = (d < classes W) × (c < classes W)
InRange W (BackupFact c d) = (c < classes W) × (d < classes W)

-- The rule of this number concludes the fact by an instance in range, whose premises are all in F.
pub record Follows (W : Wiring) (F : FactSet) (k : ℕ) (f : Fact) : Type 0 where
  pub premises : List Fact
  pub rule : Rule W k premises f
  pub known : AllByRecursion (λ p. InRange W p × F p) premises
  pub in_range : InRange W f

-- The same, by an instance that has the fact p among its premises: the other premises are in F.
pub record FollowsFrom (W : Wiring) (F : FactSet) (p : Fact) (k : ℕ) (f : Fact) : Type 0 where
  pub premises : List Fact
  pub rule : Rule W k premises f
  pub among : IsIn p premises
  pub known : AllByRecursion (λ q. InRange W q × (q ≡ p ⊎ F q)) premises
  pub in_range : InRange W f

-- each instance whose premises are in F has its conclusion in F
abbrev pub Closed : Wiring → FactSet → Type 0
Closed W F =
    (k : ℕ) (premises : List Fact) (f : Fact) → Rule W k premises f
    → AllByRecursion (λ p. InRange W p × F p) premises → InRange W f → F f

-- the fact is in every closed set
abbrev pub Least : Wiring → FactSet
Least W f = (set : Fact → Bool) → Closed W (Has set) → Has set f

-- the set is closed, and each of its facts is in every closed set
pub record IsLeast (W : Wiring) (set : Fact → Bool) : Type 0 where
  pub closed : Closed W (Has set)
  pub least : (f : Fact) → Has set f → Least W f

-- an instance of a rule, as a derivation lists it
pub record Instance : Type 0 where
  pub rule : ℕ
  pub premises : List Fact
  pub conclusion : Fact

-- each instance is one of a rule, and its premises are among the known facts or concluded earlier
abbrev pub Derives : Wiring → List Fact → List Instance → Type 0
Derives W known [] = Unit {0}
Derives W known (i ∷ more) =
    Rule W i.rule i.premises i.conclusion × InRange W i.conclusion
    × AllByRecursion (λ p. IsIn p known) i.premises
    × Derives W (i.conclusion ∷ known) more

-- the list ends in an instance that concludes f
abbrev pub EndsIn : List Instance → Fact → Type 0
EndsIn [] f = ⊥
EndsIn (i ∷ []) f = i.conclusion ≡ f
EndsIn (i ∷ j ∷ more) f = EndsIn (j ∷ more) f

-- the instances derive the fact: each premise is concluded earlier, and the last one concludes the
-- fact
pub record IsDerivation (W : Wiring) (instances : List Instance) (f : Fact) : Type 0 where
  pub derives : Derives W [] instances
  pub concludes : EndsIn instances f

-- what is derived is in every closed set
abbrev pub DerivationsAreLeast : Type 0
DerivationsAreLeast =
    (W : Wiring) (instances : List Instance) (f : Fact) → IsDerivation W instances f → Least W f

-- no fact of the set is forbidden by a line of the policy
abbrev pub ForbidsNone : List Forbid → FactSet → Type 0
ForbidsNone policy F = (l : Forbid) → IsIn l policy → F (Hold l.task l.class l.right) → ⊥

-- the checker's yes to a wiring, a policy and a set of facts
pub record SaysYes (W : Wiring) (policy : List Forbid) (set : Fact → Bool) : Type 0 where
  pub closed : Closed W (Has set)
  pub allowed : ForbidsNone policy (Has set)
