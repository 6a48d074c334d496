-- Believe. Which arguments of a routine that is left out may carry rights. Of a type that is
-- unknown nobody can say that it carries none.
use Rattle.std.specs.Prelude.{Bool, true, ◌&&◌, ◌||◌, not, is_some, Option, Some, None}
use Rattle.mrc_mig_types.specs.declared.meaning.Meaning.{Meaning}
use Rattle.mrc_mig_types.specs.declared.shapes.By.{By}
use Rattle.mrc_mig_bodies.specs.declared.kinds.RoutineKind.{RoutineKind}
use Rattle.mrc_mig_bodies.specs.Bodies.{is_in_request, is_in_reply}
use Rattle.mrc_mig_bodies.specs.Objections.{is_judged_port}
use Rattle.mrc_mig_bodies.specs.Parameters.{Parameter}
use Rattle.mrc_mig_bodies.specs.Rights.{is_slot, is_no_send_once}

-- a type that carries rights in a message, or is unknown
abbrev pub may_be_slot : Option Meaning → By → Bool
may_be_slot None judged = true
may_be_slot (Some found) judged = is_slot found judged

-- An argument carries rights, by how the request and the reply are judged: in one of them, or as a
-- reply port that may be more than a send-once right.
abbrev pub carries : RoutineKind → By → By → Parameter → Bool
carries kind by_request by_reply a =
    (is_in_request a.role && may_be_slot a.meaning by_request)
    || ((is_in_reply kind a.role && may_be_slot a.meaning by_reply)
    || (is_judged_port a.role && (not (is_some a.meaning) || is_no_send_once by_request a.meaning)))
