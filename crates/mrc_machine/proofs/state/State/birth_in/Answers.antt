use Rattle.std.proofs.Common.{subst}
use Rattle.mrc_model.specs.Reply.{Refused}
use Rattle.mrc_names.specs.Refusals.{IsRefusal}
use Rattle.mrc_names.specs.Takes.{add_entry}
use Rattle.mrc_machine.proofs.AllocateLaws.{room_for_one, right_added, right_taken_back}
use Rattle.mrc_machine.proofs.state.State.birth_in.Goals as goal

pub returns-in-Ok-new_port-clause-space : goal.returns-in-Ok-new_port-clause-space
returns-in-Ok-new_port-clause-space c =
    (right_added c.args.space.now _ _ _ _ c.in-Ok.name c.next_port.ensures c.received.ensures
    c.requires.room c.in-Ok.ensures.ok).0

pub returns-in-Ok-new_port-clause-name : goal.returns-in-Ok-new_port-clause-name
returns-in-Ok-new_port-clause-name c =
    (right_added c.args.space.now _ _ _ _ c.in-Ok.name c.next_port.ensures c.received.ensures
    c.requires.room c.in-Ok.ensures.ok).1

pub returns-in-Err-clause-kept : goal.returns-in-Err-clause-kept
returns-in-Err-clause-kept c =
    right_taken_back c.args.space.now _ _ _ _ c.in-Ok.name c.received.ensures c.requires.room
    c.in-Ok.ensures.ok c.remove.ensures.removed

pub unreachable-requires : goal.unreachable-requires
unreachable-requires c =
    let gone = subst (λ e. IsRefusal e (add_entry c.args.space.now c.received.result))
    c.in-Err-Fault.field-0-is c.in-Err-Fault.ensures.refused in
    room_for_one c.args.space.now c.received.result (Refused c.in-Err-Fault.field-0-0)
    c.requires.room gone
