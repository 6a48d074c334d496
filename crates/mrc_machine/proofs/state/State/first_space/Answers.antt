use Rattle.std.proofs.Common.{subst}
use Rattle.mrc_model.specs.declared.Entry.TheVariants.{Send as SendEntry}
use Rattle.mrc_model.specs.Reply.{Refused}
use Rattle.mrc_names.specs.Takes.{add_entry}
use Rattle.mrc_names.specs.Refusals.{IsRefusal}
use Rattle.mrc_machine.proofs.AllocateLaws.{first_refused, first_added}
use Rattle.mrc_machine.proofs.state.State.first_space.Goals as goal

pub unreachable-requires : goal.unreachable-requires
unreachable-requires c =
    let gone = subst (λ e. IsRefusal e (add_entry c.new-space.result (SendEntry c.args.kernel 1)))
    c.in-Err-Fault.field-0-is c.in-Err-Fault.ensures.refused in
    first_refused c.new-space.result _ (Refused c.in-Err-Fault.field-0-0) c.new-space.ensures gone

pub returns-in-Ok : goal.returns-in-Ok
returns-in-Ok c =
    first_added c.new-space.result c.add.new.self _ c.in-Ok.field-0 c.new-space.ensures
    c.in-Ok.ensures.ok
