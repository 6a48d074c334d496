-- Believe. Each limit, by one name. This profile's own choice.
use Rattle.std.specs.Prelude.{ℕ, ◌^◌}

-- tasks of a wiring
abbrev pub limit_of_tasks : ℕ
limit_of_tasks = 64

-- ports of a wiring
abbrev pub limit_of_wired_ports : ℕ
limit_of_wired_ports = 256

-- kinds of births of a task
abbrev pub limit_of_kinds : ℕ
limit_of_kinds = 16

-- interfaces of a wiring
abbrev pub limit_of_interfaces : ℕ
limit_of_interfaces = 256

-- interfaces of a wiring of version 1 or 2
abbrev pub limit_of_few_interfaces : ℕ
limit_of_few_interfaces = 16

-- message ids of an interface, those that it skips counted
abbrev pub limit_of_ids : ℕ
limit_of_ids = 1000

-- message ids of a MIG file of edition 1, those that it skips counted
abbrev pub limit_of_first_edition_ids : ℕ
limit_of_first_edition_ids = 100

-- arguments of a routine
abbrev pub limit_of_arguments : ℕ
limit_of_arguments = 32

-- lines of a text
abbrev pub limit_of_lines : ℕ
limit_of_lines = 65535

-- bytes of a name in a text
abbrev pub limit_of_name : ℕ
limit_of_name = 64

-- bytes of a file
abbrev pub limit_of_file : ℕ
limit_of_file = 67108864

-- a number in a MIG file
abbrev pub limit_of_number : ℕ
limit_of_number = 2147483647

-- bytes of a message
abbrev pub limit_of_message : ℕ
limit_of_message = 8192

-- items of an argument, as a MIG type counts them
abbrev pub limit_of_items : ℕ
limit_of_items = 8192

-- names of a task
abbrev pub limit_of_names : ℕ
limit_of_names = 4096

-- references of a send right or of a dead name
abbrev pub limit_of_references : ℕ
limit_of_references = 65535

-- live ports
abbrev pub limit_of_ports : ℕ
limit_of_ports = 65536

-- births of ports
abbrev pub limit_of_births : ℕ
limit_of_births = 2 ^ 48

-- messages of a queue, when its port is made
abbrev pub first_limit_of_queue : ℕ
first_limit_of_queue = 5

-- messages of a queue, as a task can set it
abbrev pub limit_of_queue : ℕ
limit_of_queue = 16

-- seats of a server, one for each of its tasks
abbrev pub limit_of_seats : ℕ
limit_of_seats = 256

-- parts of a server's lock: one for each seat, and one for the desk
abbrev pub limit_of_parts : ℕ
limit_of_parts = 257

-- events of a journal
abbrev pub limit_of_events : ℕ
limit_of_events = 1000000

-- threads that look for facts
abbrev pub limit_of_workers : ℕ
limit_of_workers = 64
