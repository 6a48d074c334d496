use Rattle.std.proofs.Common.{sym, ap, ◌∙◌}
use Rattle.std.specs.Prelude.{option_map}
use Rattle.mrc_machine.proofs.AskingLaws.{mask_is}
use Rattle.mrc_machine.proofs.state.State.type_in.Goals as goal

pub returns-in_default-clause-refused : goal.returns-in_default-clause-refused
returns-in_default-clause-refused c =
    mask_is c.args.self.now c.args.caller c.args.task c.args.name c.args.target _ _
    c.requires.target c.space.ensures
    (sym (ap (option_map (λ r. r.0)) c.in_default.is) ∙ c.rights.ensures)

pub returns-clause-ok : goal.returns-clause-ok
returns-clause-ok c =
    mask_is c.args.self.now c.args.caller c.args.task c.args.name c.args.target _ _
    c.requires.target c.space.ensures
    (sym (ap (option_map (λ r. r.0)) c.in-Some.is) ∙ c.rights.ensures)
