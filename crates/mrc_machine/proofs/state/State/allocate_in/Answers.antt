use Rattle.std.proofs.Common.{◌≡◌, Ok, IfOk, IfErr, inl, inr, sym, subst}
use Rattle.mrc_model.specs.Reply.{Name}
use Rattle.mrc_names.specs.Refusals.{IsRefusal}
use Rattle.mrc_wiring.specs.Table.{wiring_of}
use Rattle.mrc_machine.proofs.AllocateLaws.{allocate_there}
use Rattle.mrc_machine.proofs.state.State.allocate_in.Goals as goal

pub returns-in-Send-clause-refused : goal.returns-in-Send-clause-refused
returns-in-Send-clause-refused c =
    let task_is = c.requires.target in
    elim c.in-Send.is [
      | inl is ↦ allocate_there (wiring_of c.args.wired.now) c.args.self.now c.args.caller
          c.args.task c.args.right _ c.args.kind c.args.target task_is is
      | inr is ↦ allocate_there (wiring_of c.args.wired.now) c.args.self.now c.args.caller
          c.args.task c.args.right _ c.args.kind c.args.target task_is is
    ]

pub returns-in-Receive-clause-ok : goal.returns-in-Receive-clause-ok
returns-in-Receive-clause-ok c =
    let at = allocate_there (wiring_of c.args.wired.now) c.args.self.now c.args.caller c.args.task
    c.args.right _ c.args.kind c.args.target c.requires.target
    c.in-Receive.is in
    subst (λ m. IfOk c.allocate_port.result (λ name. m ≡ Ok (c.allocate_port.new.self, Name name)))
    (sym at) c.allocate_port.ensures.ok

pub returns-in-Receive-clause-refused : goal.returns-in-Receive-clause-refused
returns-in-Receive-clause-refused c =
    let at = allocate_there (wiring_of c.args.wired.now) c.args.self.now c.args.caller c.args.task
    c.args.right _ c.args.kind c.args.target c.requires.target
    c.in-Receive.is in
    subst (λ m. IfErr c.allocate_port.result (λ e. IsRefusal e m)) (sym at)
    c.allocate_port.ensures.refused

pub returns-in-PortSet-clause-ok : goal.returns-in-PortSet-clause-ok
returns-in-PortSet-clause-ok c =
    let at = allocate_there (wiring_of c.args.wired.now) c.args.self.now c.args.caller c.args.task
    c.args.right _ c.args.kind c.args.target c.requires.target
    c.in-PortSet.is in
    subst (λ m. IfOk c.allocate_entry.result
    (λ name. m ≡ Ok (c.allocate_entry.new.self, Name name))) (sym at) c.allocate_entry.ensures.ok

pub returns-in-PortSet-clause-refused : goal.returns-in-PortSet-clause-refused
returns-in-PortSet-clause-refused c =
    let at = allocate_there (wiring_of c.args.wired.now) c.args.self.now c.args.caller c.args.task
    c.args.right _ c.args.kind c.args.target c.requires.target
    c.in-PortSet.is in
    subst (λ m. IfErr c.allocate_entry.result (λ e. IsRefusal e m)) (sym at)
    c.allocate_entry.ensures.refused

pub returns-in-DeadName-clause-ok : goal.returns-in-DeadName-clause-ok
returns-in-DeadName-clause-ok c =
    let at = allocate_there (wiring_of c.args.wired.now) c.args.self.now c.args.caller c.args.task
    c.args.right _ c.args.kind c.args.target c.requires.target
    c.in-DeadName.is in
    subst (λ m. IfOk c.allocate_entry-in-DeadName.result
    (λ name. m ≡ Ok (c.allocate_entry-in-DeadName.new.self, Name name))) (sym at)
    c.allocate_entry-in-DeadName.ensures.ok

pub returns-in-DeadName-clause-refused : goal.returns-in-DeadName-clause-refused
returns-in-DeadName-clause-refused c =
    let at = allocate_there (wiring_of c.args.wired.now) c.args.self.now c.args.caller c.args.task
    c.args.right _ c.args.kind c.args.target c.requires.target
    c.in-DeadName.is in
    subst (λ m. IfErr c.allocate_entry-in-DeadName.result (λ e. IsRefusal e m)) (sym at)
    c.allocate_entry-in-DeadName.ensures.refused
