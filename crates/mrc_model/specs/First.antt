-- Believe. The first state of a wiring, line by line; with the law `FirstHoldingsAreGiven`. This
-- profile's own choice.
use Rattle.std.specs.Prelude.{ℕ, ◌+◌, Bool, List, [], ◌∷◌, Ok, Err, nat_lt, is_ok}
use Rattle.mrc_model.specs.declared.Item.TheVariants.{Right as RightItem}
use Rattle.mrc_model.specs.declared.FirstLine.{FirstLine}
use Rattle.mrc_model.specs.declared.FirstLine.TheVariants.{Task as TaskLine, Port as PortLine}
use Rattle.mrc_model.specs.declared.FirstLine.TheVariants.{Hold as HoldLine}
use Rattle.mrc_model.specs.declared.Code.TheVariants.{KernInvalidTask, KernInvalidName, KernNoSpace}
use Rattle.mrc_model.specs.Rights.{is_receive}
use Rattle.mrc_model.specs.Map.{empty, get}
use Rattle.mrc_model.specs.Wiring.{Wiring, kernel_class}
use Rattle.mrc_model.specs.World.{World, space}
use Rattle.mrc_model.specs.Reply.{Refused, Try, ◌>>=◌, ◌>>◌, check, refuse_if, or_refuse}
use Rattle.mrc_model.specs.Space.{give_item, is_over_full}
use Rattle.mrc_model.specs.Target.{with_store}
use Rattle.mrc_model.specs.CallAllocate.{birth}
use Rattle.mrc_model.specs.CallCreateTask.{with_task}

-- the world after some lines, and how many of them were task lines and port lines
pub record First : Type 0 where
  pub world : World
  pub tasks : ℕ
  pub ports : ℕ

-- no task and no port
abbrev pub no_world : World
no_world = record { tasks = empty; store = record { next = 0; spaces = empty; ports = empty } }

-- the next task, of the class that has its number
abbrev pub add_task : Wiring → First → First
add_task W f = record {
  tasks = f.tasks + 1;
  ports = f.ports;
  world = with_task f.world f.tasks f.tasks (kernel_class W f.tasks);
}

-- A line is refused if it makes a task or port beyond the wiring's numbers, names a task or port
-- that is not there, gives a receive right by a hold line, or leaves a space with more entries than
-- it may have. The port of a hold line is a birth number, kernel ports counted.
abbrev pub add_line : Wiring → First → FirstLine → Try First
add_line W f TaskLine = do
  check (nat_lt f.tasks W.tasks) (Refused KernInvalidTask)
  Ok (add_task W f)
add_line W f (PortLine t) = do
  check (nat_lt t f.tasks) (Refused KernInvalidTask)
  check (nat_lt f.ports W.ports) (Refused KernInvalidName)
  let s = birth f.world.store t f.ports
  refuse_if (is_over_full (space s t)) (Refused KernNoSpace)
  Ok record { tasks = f.tasks; ports = f.ports + 1; world = with_store f.world s }
add_line W f (HoldLine t p r) = do
  refuse_if (is_receive r) (Refused KernInvalidName)
  check (nat_lt t f.tasks) (Refused KernInvalidTask)
  x ← or_refuse (get f.world.store.ports p) (Refused KernInvalidName)
  let s = (give_item f.world.store t (RightItem p r)).0
  refuse_if (is_over_full (space s t)) (Refused KernNoSpace)
  Ok (record f { world = with_store f.world s })

-- the lines, in order
abbrev pub add_lines : Wiring → First → List FirstLine → Try First
add_lines W f [] = Ok f
add_lines W f (l ∷ ls) = add_line W f l >>= λ g. add_lines W g ls

-- the first state, or the refusal of a line
abbrev pub built : Wiring → Try First
built W = add_lines W record { world = no_world; tasks = 0; ports = 0 } W.lines

-- the world, and an empty one after a refusal
abbrev pub world_of : Try First → World
world_of (Ok f) = f.world
world_of (Err e) = no_world

-- no line is refused
abbrev pub is_sound : Wiring → Bool
is_sound W = is_ok (built W)

-- the first state of the wiring
unfoldable pub first : Wiring → World
first W = world_of (built W)
