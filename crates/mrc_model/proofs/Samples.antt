-- Sample interfaces and wirings, and what it means that a script replays.
use Rattle.std.specs.Prelude.{◌≡◌, ℕ, false, List, [], ◌∷◌, map, Option, Some}
use Rattle.mrc_base.specs.declared.PortRight.TheVariants.{Send}
use Rattle.mrc_model.specs.declared.RequestKind.TheVariants.{Routine, Simple}
use Rattle.mrc_model.specs.declared.LabelItem.TheVariants.{Request as RequestOf, Reply as ReplyOf}
use Rattle.mrc_model.specs.declared.LabelItem.TheVariants.{Destroyed}
use Rattle.mrc_model.specs.declared.FirstLine.TheVariants.{Task as TaskLine, Port as PortLine}
use Rattle.mrc_model.specs.declared.FirstLine.TheVariants.{Hold as HoldLine}
use Rattle.mrc_model.specs.Message.{Arg}
use Rattle.mrc_model.specs.Map.{len}
use Rattle.mrc_model.specs.Wiring.{OneOf, Shape, Interface, Wiring}
use Rattle.mrc_model.specs.World.{World}
use Rattle.mrc_model.specs.Reply.{Reply, Call, SendMessage}
use Rattle.mrc_model.specs.Step.{step}
use Rattle.mrc_model.specs.First.{first}
use Rattle.mrc_model.specs.Runs.{Event}

-- interfaces. The types of arguments have these numbers: box 0, shown port 1, file 2, all others 9

-- one argument: type number, bits of an item, number of items, number of its MIG type
abbrev pub shape : ℕ → ℕ → ℕ → ℕ → Shape
shape name size number sort =
    record {
      types = OneOf (name ∷ []);
      size = size;
      number = number;
      is_bound = false;
      sort = sort;
    }

-- subsystem ping 500; simpleroutine ping(server : mach_port_t);
abbrev pub ping : Interface
ping = record { requests = record { id = 500; kind = Simple; shapes = [] } ∷ []; replies = [] }

-- subsystem xfer 2000; type box_t = MACH_MSG_TYPE_MOVE_RECEIVE; simpleroutine hand(server :
-- mach_port_t; in box : box_t);
abbrev pub xfer : Interface
xfer =
    record {
      requests = record { id = 2000; kind = Simple; shapes = shape 16 32 1 0 ∷ [] }
          ∷ [];
      replies = [];
    }

-- subsystem look 2100; simpleroutine show(server : mach_port_t; in p : mach_port_t);
abbrev pub look : Interface
look =
    record {
      requests = record { id = 2100; kind = Simple; shapes = shape 19 32 1 1 ∷ [] }
          ∷ [];
      replies = [];
    }

-- subsystem fsys 3000; type file_t = MACH_MSG_TYPE_COPY_SEND; type path_t = c_string[64];
-- routine open(root : mach_port_t; in path : path_t; out file : file_t);
abbrev pub fsys : Interface
fsys = record {
  requests = record { id = 3000; kind = Routine; shapes = shape 12 8 64 9 ∷ [] } ∷ [];
  replies = record { id = 3100; shapes = shape 2 32 1 9 ∷ shape 19 32 1 2 ∷ [] } ∷ [];
}

-- wirings

-- one task that accepts nothing
abbrev pub alone : Wiring
alone =
    record {
      lines = TaskLine ∷ [];
      tasks = 1;
      ports = 0;
      births = (0, 0)
          ∷ [];
      interfaces = [];
      labels = [];
      admitted = [];
      trusted = [];
      replies_fit = false;
    }

-- two tasks, of which the first holds the kernel port of the second
abbrev pub leading : Wiring
leading = record {
  lines = TaskLine ∷ TaskLine ∷ HoldLine 0 1 Send ∷ [];
  tasks = 2;
  ports = 0;
  births = (0, 0) ∷ (1, 0) ∷ [];
  interfaces = [];
  labels = [];
  admitted = [];
  trusted = [];
  replies_fit = false;
}

-- one task, whose births accept requests of an interface
abbrev pub serving : Interface → Wiring
serving i = record {
  lines = TaskLine ∷ [];
  tasks = 1;
  ports = 0;
  births = (0, 0) ∷ [];
  interfaces = i ∷ [];
  labels = [] ∷ (RequestOf 0 ∷ []) ∷ [];
  admitted = [];
  trusted = [];
  replies_fit = false;
}

abbrev pub pinging : Wiring
pinging = serving ping

abbrev pub handing : Wiring
handing = serving xfer

abbrev pub showing : Wiring
showing = serving look

-- task a; task b; port inbox receiver b accepts request xfer; port safe receiver a accepts
-- destroyed; hold a send port inbox; admit xfer.box_t births a
abbrev pub inbox_and_safe : Wiring
inbox_and_safe = record {
  lines = TaskLine ∷ TaskLine ∷ PortLine 1 ∷ PortLine 0 ∷ HoldLine 0 2 Send ∷ [];
  tasks = 2;
  ports = 2;
  births = (0, 0) ∷ (1, 0) ∷ [];
  interfaces = xfer ∷ look ∷ [];
  labels = (RequestOf 0 ∷ []) ∷ (Destroyed ∷ []) ∷ [] ∷ [] ∷ [] ∷ [] ∷ [];
  admitted = (0, Some 4) ∷ [];
  trusted = [];
  replies_fit = false;
}

-- task app; task fs; port root receiver fs accepts request fsys; births app accepts reply fsys;
-- hold app send port root; with these admit lines
abbrev pub files : List (ℕ × Option ℕ) → Wiring
files admitted = record {
  lines = TaskLine ∷ TaskLine ∷ PortLine 1 ∷ HoldLine 0 2 Send ∷ [];
  tasks = 2;
  ports = 1;
  births = (0, 0) ∷ (1, 0) ∷ [];
  interfaces = fsys ∷ [];
  labels = (RequestOf 0 ∷ []) ∷ [] ∷ [] ∷ (ReplyOf 0 ∷ []) ∷ [] ∷ [];
  admitted = admitted;
  trusted = [];
  replies_fit = false;
}

-- admit fsys.file_t births fs
abbrev pub filing : Wiring
filing = files ((2, Some 4) ∷ [])

-- the same, where the server has two kinds of births and its files are of kind 1:
-- births fs 1 accepts none; admit fsys.file_t births fs 1
abbrev pub filing_by_kind : Wiring
filing_by_kind = record (files ((2, Some 5) ∷ [])) { births = (0, 0) ∷ (1, 0) ∷ (1, 1) ∷ [] }

-- scripts

-- a message, by its remote disposition, remote port, id and arguments
abbrev pub sent : ℕ → ℕ → ℕ → List Arg → Call
sent disp remote id args =
    SendMessage record {
      remote_disp = disp;
      local_disp = 0;
      remote = remote;
      local = 0;
      seqno = 0;
      id = id;
      args = args;
    }

-- a message with a reply port, by its disposition and name
abbrev pub asked : ℕ → ℕ → ℕ → ℕ → ℕ → List Arg → Call
asked disp remote reply_disp reply id args =
    SendMessage record {
      remote_disp = disp;
      local_disp = reply_disp;
      remote = remote;
      local =
          reply;
      seqno = 0;
      id = id;
      args = args;
    }

-- a call of a task, and its reply
abbrev pub event : ℕ → Call → Reply → Event
event t c r = record { task = t; call = c; reply = r }

-- the replies to some calls, and the number of live ports after them
pub record Outcome : Type 0 where
  pub replies : List Reply
  pub ports : ℕ

abbrev pub outcome : Wiring → World → List Event → Outcome
outcome W w [] = record { replies = []; ports = len w.store.ports }
outcome W w (e ∷ es) =
    let after = step W w e.task e.call in
    let rest = outcome W after.0 es in
    record { replies = after.1 ∷ rest.replies; ports = rest.ports }

-- the world after some calls
abbrev pub world_after : Wiring → World → List Event → World
world_after W w [] = w
world_after W w (e ∷ es) = world_after W (step W w e.task e.call).0 es

-- from the first state the calls are answered so, and leave so many live ports
abbrev pub Replays : Wiring → List Event → ℕ → Type 0
Replays W events ports =
    outcome W (first W) events
    ≡ record { replies = map (λ (e : Event). e.reply) events; ports = ports }
