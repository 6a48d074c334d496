-- Believe. Which argument is the request port, and which kind of request a routine has. The request
-- port is the one that GNU MIG takes.
use Rattle.std.specs.Prelude.{List, [], ◌∷◌, Bool, true, false, not, ◌||◌, Option, Some, None}
use Rattle.std.specs.Prelude.{is_some, if◌then◌else◌}
use Rattle.std.specs.List.{fold, list_any}
use Rattle.mrc_mig_arguments.specs.declared.argument.Role.{Role}
use Rattle.mrc_mig_arguments.specs.declared.argument.Role.TheVariants as roles
use Rattle.mrc_mig_bodies.specs.declared.kinds.RoutineKind.{RoutineKind}
use Rattle.mrc_mig_bodies.specs.declared.kinds.RoutineKind.TheVariants as kinds
use Rattle.mrc_mig_bodies.specs.declared.kinds.Request.{Request}
use Rattle.mrc_mig_bodies.specs.declared.kinds.Request.TheVariants as requests
use Rattle.mrc_mig_bodies.specs.Parameters.{Parameter}

-- an argument is the request port from then on: it is marked, or has no word while there is none
abbrev pub is_port_from : Bool → Role → Bool
is_port_from has_port roles.RequestPort = true
is_port_from has_port roles.Unmarked = not has_port
is_port_from has_port _ = false

-- the request port behind one more argument
abbrev pub port_behind : Option Parameter → Parameter → Option Parameter
port_behind port a = if is_port_from (is_some port) a.role then Some a else port

-- the request port: arguments are taken from the front, and there is none at first
abbrev pub request_port : List Parameter → Option Parameter
request_port arguments = fold port_behind None arguments

-- an argument that is the request port has that word
abbrev pub marked_if : Bool → Parameter → Parameter
marked_if true a = record a { role = roles.RequestPort }
marked_if false a = a

-- the same, of each argument
abbrev pub settled_behind : Bool → List Parameter → List Parameter
settled_behind has_port [] = []
settled_behind has_port (a ∷ others) =
    marked_if (is_port_from has_port a.role) a
    ∷ settled_behind (has_port || is_port_from has_port a.role) others

-- The arguments, where each that was the request port has that word, also one that a later one
-- replaces. What still has no word is `in`.
abbrev pub settled : List Parameter → List Parameter
settled arguments = settled_behind false arguments

-- `replyport`, `ureplyport` and `sreplyport`
abbrev pub is_reply_port : Role → Bool
is_reply_port roles.ReplyPort = true
is_reply_port roles.UserReplyPort = true
is_reply_port roles.ServerReplyPort = true
is_reply_port _ = false

-- a simpleroutine with a reply port is of a kind of its own
abbrev pub request_of : RoutineKind → List Parameter → Request
request_of kinds.Routine arguments = requests.Routine
request_of kinds.Simple arguments =
    if list_any (λ a. is_reply_port a.role) arguments then requests.Replied else requests.Simple
