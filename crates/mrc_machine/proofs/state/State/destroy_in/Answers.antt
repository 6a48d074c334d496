use Rattle.std.proofs.Common.{Ok, sym, ap, ◌∙◌}
use Rattle.mrc_model.specs.Reply.{Done}
use Rattle.mrc_model.specs.World.{World}
use Rattle.mrc_names.proofs.Granting.{wanting}
use Rattle.mrc_machine.proofs.DropLaws.{destroy_no_name, destroy_done}
use Rattle.mrc_machine.proofs.DropLaws.{destroy_goes, no_some}
use Rattle.mrc_machine.proofs.state.State.destroy_in.Goals as goal

pub returns-then-is_none-clause-refused : goal.returns-then-is_none-clause-refused
returns-then-is_none-clause-refused c =
    destroy_no_name c.args.self.now c.args.caller c.args.task c.args.name c.args.target
    c.requires.target _ c.space.ensures _ c.get.ensures
    (no_some c.get.result c.if-is_none.ensures)

pub returns-in_err-destroy-clause-refused : goal.returns-in_err-destroy-clause-refused
returns-in_err-destroy-clause-refused c =
    wanting c.from_residual.result _ c.from_residual.ensures.1
    (destroy_goes c.args.self.now c.args.caller c.args.task c.args.name c.args.target
    c.requires.target _ c.space.ensures _ c.get.ensures c.if-is_none.ensures)

pub returns-clause-ok : goal.returns-clause-ok
returns-clause-ok c =
    destroy_done c.args.self.now c.args.caller c.args.task c.args.name c.args.target
    c.requires.target _ c.space.ensures _ c.get.ensures c.if-is_none.ensures
    ∙ ap (λ (w : World). Ok (w, Done)) (sym c.in_ok-destroy.ensures.ok)
