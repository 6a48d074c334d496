-- Law. What the lines give, read from the lines alone. What the lines of a wiring give, read from
-- the lines alone, and the law that this is what is held in the first state. This profile's own
-- choice.
use Rattle.mrc_base.specs.Limits.{limit_of_names}
use Rattle.std.specs.List.{list_any}
use Rattle.std.specs.Prelude.{◌≡◌, ◌↔◌, ℕ, ◌+◌, ◌<◌, ◌≤◌, ◌==◌, Bool, true, false, not, ◌&&◌, ◌||◌}
use Rattle.std.specs.Prelude.{nat_lt, List, [], ◌∷◌, ◌++◌, Option, Some, None, IsTrue, slice_get}
use Rattle.mrc_base.specs.declared.PortRight.{PortRight}
use Rattle.mrc_base.specs.declared.PortRight.TheVariants.{Send, Receive, SendOnce}
use Rattle.mrc_base.specs.declared.Fact.{Fact}
use Rattle.mrc_base.specs.declared.Fact.TheVariants.{Hold}
use Rattle.mrc_model.specs.declared.FirstLine.{FirstLine}
use Rattle.mrc_model.specs.declared.FirstLine.TheVariants.{Task as TaskLine, Port as PortLine}
use Rattle.mrc_model.specs.declared.FirstLine.TheVariants.{Hold as HoldLine}
use Rattle.mrc_model.specs.IsIn.{IsIn}
use Rattle.mrc_model.specs.Rights.{is_receive, is_once}
use Rattle.mrc_model.specs.Wiring.{Wiring, kernel_class}
use Rattle.mrc_model.specs.World.{class_of, task_class}
use Rattle.mrc_model.specs.First.{first, is_sound}
use Rattle.mrc_model.specs.Breach.{Holds, Holding}

-- One holding a line, where so many tasks and ports, kernel ports among them, stand on earlier
-- lines: a task line gives the task a send right to its kernel port, a port line its receiver the
-- receive right, a hold line what it says.
abbrev pub line_holdings : ℕ → ℕ → List FirstLine → List Holding
line_holdings tasks births [] = []
line_holdings tasks births (TaskLine ∷ ls) =
    record { task = tasks; port = births; right = Send } ∷ line_holdings (tasks + 1) (births + 1) ls
line_holdings tasks births (PortLine t ∷ ls) =
    record { task = t; port = births; right = Receive } ∷ line_holdings tasks (births + 1) ls
line_holdings tasks births (HoldLine t p r ∷ ls) =
    record { task = t; port = p; right = r } ∷ line_holdings tasks births ls

-- the classes of the ports that the lines make, in the order of their birth numbers, where so many
-- tasks and wired ports stand on earlier lines
abbrev pub line_classes : Wiring → ℕ → ℕ → List FirstLine → List ℕ
line_classes W tasks ports [] = []
line_classes W tasks ports (TaskLine ∷ ls) =
    kernel_class W tasks ∷ line_classes W (tasks + 1) ports ls
line_classes W tasks ports (PortLine t ∷ ls) = ports ∷ line_classes W tasks (ports + 1) ls
line_classes W tasks ports (HoldLine t p r ∷ ls) = line_classes W tasks ports ls

-- what the lines give
abbrev pub given_holdings : Wiring → List Holding
given_holdings W = line_holdings 0 0 W.lines

-- the class of each port that the lines make, by birth number
abbrev pub given_classes : Wiring → List ℕ
given_classes W = line_classes W 0 0 W.lines

-- the fact of a holding, by the classes of the ports
abbrev pub fact_at : Holding → Option ℕ → List Fact
fact_at h None = []
fact_at h (Some c) = Hold h.task c h.right ∷ []

-- the facts of these holdings
abbrev pub facts_by : List ℕ → List Holding → List Fact
facts_by cs [] = []
facts_by cs (h ∷ hs) = fact_at h (slice_get cs h.port) ++ facts_by cs hs

-- the facts of the first state, one a line
abbrev pub first_facts : Wiring → List Fact
first_facts W = facts_by (given_classes W) (given_holdings W)

-- in the first state of a sound wiring a task holds exactly what a line gives it, ports have the
-- classes of their lines, and a task is its own class
pub record HasGiven (W : Wiring) : Type 0 where
  pub holdings : (t p : ℕ) (r : PortRight) → Holds (first W) t p r
      ↔ IsIn record { task = t; port = p; right = r } (given_holdings W)
  pub classes : (p : ℕ) → class_of (first W).store p ≡ slice_get (given_classes W) p
  pub tasks : (t : ℕ) → task_class (first W) t ≡ t

-- so in every sound wiring
abbrev pub FirstHoldingsAreGiven : Type 0
FirstHoldingsAreGiven = (W : Wiring) → IsTrue (is_sound W) → HasGiven W

-- Wirings whose lines are sound.

-- Each line names tasks and ports of earlier lines, no hold is of a receive right, and the lines
-- make no more than the wiring's tasks and ports. So many tasks, wired ports and ports of both
-- kinds stand on earlier lines.
abbrev pub names_earlier : Wiring → ℕ → ℕ → ℕ → List FirstLine → Bool
names_earlier W tasks ports births [] = true
names_earlier W tasks ports births (TaskLine ∷ ls) =
    nat_lt tasks W.tasks && names_earlier W (tasks + 1) ports (births + 1) ls
names_earlier W tasks ports births (PortLine t ∷ ls) =
    nat_lt t tasks && (nat_lt ports W.ports && names_earlier W tasks (ports + 1) (births + 1) ls)
names_earlier W tasks ports births (HoldLine t p r ∷ ls) =
    not (is_receive r)
    && (nat_lt t tasks && (nat_lt p births && names_earlier W tasks ports births ls))

-- the holding is a send or receive right of the task on the port, which stand under one name
abbrev pub is_named : ℕ → ℕ → Holding → Bool
is_named t p g = not (is_once g.right) && (g.task == t && g.port == p)

-- The holding takes a name of its own: it is a send-once right, or none of the holdings before it
-- is a send or receive right of its task on its port.
abbrev pub takes_name : List Holding → Holding → Bool
takes_name before h = is_once h.right || not (list_any (is_named h.task h.port) before)

-- it is the task's, and takes a name of its own
abbrev pub is_new_name : ℕ → List Holding → Holding → Bool
is_new_name t before h = h.task == t && takes_name before h

-- 1 where the test holds
abbrev pub one_if : Bool → ℕ
one_if true = 1
one_if false = 0

-- how many names the task gets from holdings that are given one after the other, where those of the
-- first list were given before
abbrev pub names_given : ℕ → List Holding → List Holding → ℕ
names_given t before [] = 0
names_given t before (h ∷ hs) = one_if (is_new_name t before h) + names_given t (h ∷ before) hs

-- how many names the lines give the task
abbrev pub first_names : Wiring → ℕ → ℕ
first_names W t = names_given t [] (given_holdings W)

-- No line is refused exactly where each names what stands on an earlier line, and no task gets more
-- names than it may have.
abbrev pub SoundTaskByTask : Type 0
SoundTaskByTask =
    (W : Wiring) → IsTrue (is_sound W)
    ↔ IsTrue (names_earlier W 0 0 0 W.lines)
    × ((t : ℕ) → t < W.tasks → first_names W t ≤ limit_of_names)

-- how many ports the lines make, kernel ports among them
abbrev pub line_births : List FirstLine → ℕ
line_births [] = 0
line_births (TaskLine ∷ ls) = 1 + line_births ls
line_births (PortLine t ∷ ls) = 1 + line_births ls
line_births (HoldLine t p r ∷ ls) = line_births ls

-- a send-once right counts as one
abbrev pub one_if_once : PortRight → ℕ
one_if_once SendOnce = 1
one_if_once Send = 0
one_if_once Receive = 0

-- how many hold lines give send-once rights
abbrev pub line_onces : List FirstLine → ℕ
line_onces [] = 0
line_onces (TaskLine ∷ ls) = line_onces ls
line_onces (PortLine t ∷ ls) = line_onces ls
line_onces (HoldLine t p r ∷ ls) = one_if_once r + line_onces ls

-- So lines that name what is there are sound where ports and holds of send-once rights are few: a
-- space has a name for each port at most, and one for each send-once right.
abbrev pub SoundIfFew : Type 0
SoundIfFew =
    (W : Wiring) → IsTrue (names_earlier W 0 0 0 W.lines)
    → line_births W.lines + line_onces W.lines ≤ limit_of_names → IsTrue (is_sound W)
