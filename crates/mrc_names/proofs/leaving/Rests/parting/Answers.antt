use Rattle.std.proofs.Common.{sym, ◌∙◌}
use Rattle.mrc_names.specs.Leaving.{patched}
use Rattle.mrc_names.proofs.SpaceExits.{take_no_name, take_no_right, taken_none, parted}
use Rattle.mrc_names.proofs.leaving.Rests.parting.Goals as goal

pub returns-in_default-clause-refused : goal.returns-in_default-clause-refused
returns-in_default-clause-refused c =
    take_no_name (patched c.args.space.now c.args.self.now.changes) c.args.name c.args.disp
    (sym c.get.ensures ∙ c.in_default.is)

pub returns-in_default-take_from-clause-refused : goal.returns-in_default-take_from-clause-refused
returns-in_default-take_from-clause-refused c =
    let none = taken_none _ _ c.take_from.ensures.taken c.in_default-take_from.is in
    take_no_right (patched c.args.space.now c.args.self.now.changes) c.args.name c.args.disp
    c.in-Some.held (sym c.get.ensures ∙ c.in-Some.is) none

pub returns-clause-found : goal.returns-clause-found
returns-clause-found c =
    parted (patched c.args.space.now c.args.self.now.changes) c.args.name _ c.args.disp
    c.in-Some.held c.take_from.result c.in-Some-take_from.taken.1
    (sym c.get.ensures ∙ c.in-Some.is) c.take_from.ensures.taken c.in-Some-take_from.is
