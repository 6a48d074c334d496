-- Step. What each of the ten rules concludes in a row, from a first premise in one set and a last
-- premise in another: the one coding of the rules that code goes by. W is the wiring, S tells the
-- facts of the set of the first premises, T those of the set of the last. This profile's own
-- choice.
use Rattle.std.specs.Prelude.{◌≡◌, ℕ, ◌<◌, ◌*◌, ◌/◌, ◌%◌, ◌==◌, ◌||◌, ◌&&◌, Bool, true, false}
use Rattle.std.specs.Prelude.{not, Some, IsTrue, [], ◌∷◌, if◌then◌else◌}
use Rattle.mrc_base.specs.declared.PortRight.{PortRight}
use Rattle.mrc_base.specs.declared.PortRight.TheVariants.{Send, Receive, SendOnce}
use Rattle.mrc_base.specs.declared.Fact.{Fact}
use Rattle.mrc_base.specs.declared.Fact.TheVariants.{Hold, Carry, Backup}
use Rattle.mrc_model.specs.declared.Verb.{Verb}
use Rattle.mrc_model.specs.declared.Verb.TheVariants.{Takes, Gives, Sends, Replies}
use Rattle.mrc_model.specs.Rights.{same_right}
use Rattle.mrc_model.specs.Wiring.{Wiring, classes, kernel_class, births_class}
use Rattle.mrc_model.specs.Wiring.{accepts_destroyed, accepts_replier, may}
use Rattle.mrc_slots.specs.Passing.{passes}
use Rattle.mrc_classes.specs.Following.{IsHeldAtFirst}
use Rattle.mrc_classes.specs.declared.rule_names.RuleName.{RuleName}
use Rattle.mrc_classes.specs.declared.rule_names.RuleName.TheVariants.{First, Births, Weaker, Slot}
use Rattle.mrc_classes.specs.declared.rule_names.RuleName.TheVariants.{Reply, Received, KernelPort}
use Rattle.mrc_classes.specs.declared.rule_names.RuleName.TheVariants.{Request, Notice, Returned}

-- the fact that a rule concludes: a hold of a task, a carry or a backup of a class
abbrev pub conclusion : RuleName → ℕ → ℕ → PortRight → Fact
conclusion First row c r = Hold row c r
conclusion Births row c r = Hold row c r
conclusion Weaker row c r = Hold row c r
conclusion Slot row c r = Carry row c r
conclusion Reply row c r = Carry row c r
conclusion Received row c r = Hold row c r
conclusion KernelPort row c r = Hold row c r
conclusion Request row c r = Backup row c
conclusion Notice row c r = Carry row c r
conclusion Returned row c r = Hold row c r

-- how many rows a rule has: one for each task, or one for each class
abbrev pub rows : Wiring → RuleName → ℕ
rows W First = W.tasks
rows W Births = W.tasks
rows W Weaker = W.tasks
rows W Slot = classes W
rows W Reply = classes W
rows W Received = W.tasks
rows W KernelPort = W.tasks
rows W Request = classes W
rows W Notice = classes W
rows W Returned = W.tasks

-- the rule has two premises
abbrev pub has_two : RuleName → Bool
has_two First = false
has_two Births = false
has_two Weaker = false
has_two Slot = true
has_two Reply = true
has_two Received = true
has_two KernelPort = true
has_two Request = true
has_two Notice = false
has_two Returned = true

-- How many sources a row has: tasks, or classes, by one of which each conclusion comes. For the
-- rule of kernel ports each task is two sources: the row's task takes from it, or it gives to the
-- row's task.
abbrev pub sources : Wiring → RuleName → ℕ
sources W First = 1
sources W Births = classes W
sources W Weaker = 1
sources W Slot = W.tasks
sources W Reply = W.tasks
sources W Received = classes W
sources W KernelPort = 2 * W.tasks
sources W Request = W.tasks
sources W Notice = classes W
sources W Returned = classes W

-- t can send to ports of class d
abbrev pub can_send_to : (Fact → Bool) → ℕ → ℕ → Bool
can_send_to S t d = S (Hold t d Send) || S (Hold t d SendOnce)

-- the task of a source of the rule of kernel ports
abbrev pub task_of : ℕ → ℕ
task_of n = n / 2

-- by such a source the row's task takes, or the source's task gives
abbrev pub verb_of : ℕ → Verb
verb_of n = if n % 2 == 0 then Takes else Gives

-- who does it
abbrev pub caller_of : ℕ → ℕ → ℕ
caller_of t n = if n % 2 == 0 then t else task_of n

-- from whom, or to whom
abbrev pub target_of : ℕ → ℕ → ℕ
target_of t n = if n % 2 == 0 then task_of n else t

-- the caller holds a send right to the target's kernel port
abbrev pub kernel_port_held : Wiring → ℕ → ℕ → Fact
kernel_port_held W t n = Hold (caller_of t n) (kernel_class W (target_of t n)) Send

-- the caller may take, or give, the right on class c
abbrev pub may_share : Wiring → ℕ → ℕ → ℕ → PortRight → Bool
may_share W t n c r = may W (verb_of n) (caller_of t n) r c

-- the first premise is there for the source n: for the rules of two premises
abbrev pub leads : Wiring → (Fact → Bool) → RuleName → ℕ → ℕ → Bool
leads W S First row n = true
leads W S Births row n = true
leads W S Weaker row n = true
leads W S Slot row n = can_send_to S n row
leads W S Reply row n = can_send_to S n row
leads W S Received row n = S (Hold row n Receive)
leads W S KernelPort row n = S (kernel_port_held W row n)
leads W S Request row n = S (Hold n row Receive)
leads W S Notice row n = true
leads W S Returned row n = S (Hold row n Receive)

-- it is the class of a task's births
abbrev pub IsBirthClass : Wiring → ℕ → ℕ → Type 0
IsBirthClass W t c = (kind : ℕ) × (births_class W t kind ≡ Some c)

-- class d takes, as the right r, of what t holds on class c
abbrev pub is_taken_of : Wiring → (Fact → Bool) → ℕ → ℕ → ℕ → PortRight → Bool
is_taken_of W T d t c r =
    (T (Hold t c Send) && passes W d c Send r) || ((T (Hold t c Receive) && passes W d c Receive r)
    || (T (Hold t c SendOnce) && passes W d c SendOnce r))

-- the last premise is there for the source n, and the side condition holds, for the right r on
-- class c
abbrev pub Comes : Wiring → (Fact → Bool) → RuleName → ℕ → ℕ → ℕ → PortRight → Type 0
Comes W T First row n c r = IsHeldAtFirst W (Hold row c r)
Comes W T Births row n c r = IsTrue (same_right r Receive) × (c ≡ n) × IsBirthClass W row n
Comes W T Weaker row n c r =
    IsTrue (not (same_right r Receive)) × IsTrue (T (Hold row c Receive))
Comes W T Slot row n c r = IsTrue (may W Sends n r c) × IsTrue (is_taken_of W T row n c r)
Comes W T Reply row n c r =
    IsTrue (same_right r SendOnce) × IsTrue (accepts_replier W row c)
    × IsTrue (may W Replies n SendOnce c) × IsTrue (T (Hold n c SendOnce))
Comes W T Received row n c r = IsTrue (T (Carry n c r))
Comes W T KernelPort row n c r =
    IsTrue (may_share W row n c r) × IsTrue (T (Hold (task_of n) c r))
Comes W T Request row n c r =
    IsTrue (same_right r Send) × IsTrue (accepts_destroyed W c) × IsTrue (T (Hold n c SendOnce))
Comes W T Notice row n c r = IsTrue (same_right r Receive) × (c ≡ n) × IsTrue (T (Backup n row))
Comes W T Returned row n c r = IsTrue (same_right r SendOnce) × IsTrue (T (Backup n c))

-- an instance of the rule concludes the fact of this row, class and right, with its first premise
-- in the one set and its last in the other
pub record Concludes (W : Wiring) (S T : Fact → Bool) (rule : RuleName) (row c : ℕ) (r : PortRight)
    : Type 0 where
  pub source : ℕ
  pub there : source < sources W rule
  pub first : IsTrue (leads W S rule row source)
  pub last : Comes W T rule row source c r
