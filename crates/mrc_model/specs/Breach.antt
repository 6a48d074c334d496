-- Believe. Who holds what in a world, which tasks a task counts as, and when a world breaks a
-- policy. From Mach: a send right to a task's kernel port lets its holder act on that task. That
-- the holder therefore counts as the task is this profile's own reading.
use Rattle.std.specs.Prelude.{◌≡◌, ◌↔◌, ℕ, true, false, List, [], ◌∷◌, ◌++◌, map, Some}
use Rattle.mrc_base.specs.declared.PortRight.{PortRight}
use Rattle.mrc_base.specs.declared.PortRight.TheVariants.{Send}
use Rattle.mrc_model.specs.declared.Entry.{Entry}
use Rattle.mrc_model.specs.declared.Verb.TheVariants.{Takes}
use Rattle.mrc_model.specs.IsIn.{IsIn}
use Rattle.mrc_model.specs.Map.{get}
use Rattle.mrc_model.specs.Wiring.{Wiring, is_limited}
use Rattle.mrc_model.specs.World.{Space, Task, World, Held, space, task_class, class_of}
use Rattle.mrc_model.specs.World.{entry_rights}

-- t holds the right on the port: an entry of its space shows it
abbrev pub Holds : World → ℕ → ℕ → PortRight → Type 0
Holds w t p r =
    (n : ℕ) × (e : Entry) × (get (space w.store t) n ≡ Some e)
    × IsIn record { port = p; right = r } (entry_rights e)

-- a task holds the right on the port
pub record Holding : Type 0 where
  pub task : ℕ
  pub port : ℕ
  pub right : PortRight

-- what an entry of task t shows
abbrev pub entry_holdings : ℕ → Entry → List Holding
entry_holdings t e =
    map (λ (h : Held). record { task = t; port = h.port; right = h.right }) (entry_rights e)

-- what the entries of task t show, in their order
abbrev pub space_holdings : ℕ → List (ℕ × Entry) → List Holding
space_holdings t [] = []
space_holdings t (e ∷ es) = entry_holdings t e.1 ++ space_holdings t es

-- what all spaces show, in their order
abbrev pub spaces_holdings : List (ℕ × Space) → List Holding
spaces_holdings [] = []
spaces_holdings (x ∷ xs) = space_holdings x.0 x.1.list ++ spaces_holdings xs

-- All that tasks hold, by ascending task and name: receive and send each one time for an entry that
-- has them, whatever the number of references, and once for each send-once entry.
abbrev pub holdings : World → List Holding
holdings w = spaces_holdings w.store.spaces.list

-- t holds a send right to the kernel port of u, and no line limits what tasks of its class take. If
-- one does, t counts as itself alone, since the machine lets it use only what it then holds itself.
abbrev pub Reaches : Wiring → World → ℕ → ℕ → Type 0
Reaches W w t u =
    (x : Task) × (get w.tasks u ≡ Some x) × (x.alive ≡ true) × Holds w t x.kernel Send
    × (is_limited W Takes (task_class w t) ≡ false)

-- t counts as u: the reflexive, transitive closure of Reaches
pub data Counts (W : Wiring) (w : World) : ℕ → ℕ → Type 0 where
  itself : {t : ℕ} → Counts W w t t
  also : {t u v : ℕ} → Counts W w t u → Reaches W w u v → Counts W w t v

-- a line of a policy: no task whose class is `task` (the wired task of this number, or one that a
-- call made like it) may hold the right on a port of this class
pub record Forbid : Type 0 where
  pub task : ℕ
  pub right : PortRight
  pub class : ℕ

-- A line is broken: `named` is a task of the line's class, `holder` one that `named` counts as, and
-- `holder` holds the right on a port of the line's class.
pub record Breach (W : Wiring) (w : World) (policy : List Forbid) : Type 0 where
  pub line : Forbid
  pub forbidden : IsIn line policy
  pub holder : ℕ
  pub named : ℕ
  pub of_class : task_class w named ≡ line.task
  pub counts : Counts W w named holder
  pub port : ℕ
  pub held : Holds w holder port line.right
  pub class : class_of w.store port ≡ Some line.class

-- the list has what is held, and nothing else
abbrev pub HoldingsAreHeld : Type 0
HoldingsAreHeld =
    (w : World) (t p : ℕ) (r : PortRight)
    → IsIn record { task = t; port = p; right = r } (holdings w) ↔ Holds w t p r
