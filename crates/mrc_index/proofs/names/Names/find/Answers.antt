use Rattle.std.proofs.Common.{◌∙◌, sym, ap}
use Rattle.std.specs.Option.{option_copied}
use Rattle.mrc_model.specs.Map.{get}
use Rattle.mrc_model.specs.Space.{entry_of}
use Rattle.mrc_index.proofs.IndexLaws.{found_entry, found_none}
use Rattle.mrc_index.proofs.names.Names.find.Goals as goal

pub returns-in-Some-get : goal.returns-in-Some-get
returns-in-Some-get c =
    sym (found_entry c.self.inside.entries c.self.inside.held c.self.inside.once
    c.self.inside.free c.port.inside.0 c.in-Some.name c.in-Some-get.entry.now c.self.invariant
    c.in-Some.ensures.some
    (ap (get c.self.inside.entries) (sym c.from.ensures) ∙ sym c.get.ensures
    ∙ ap option_copied c.in-Some-get.is))
    ∙ ap (entry_of c.self.inside.entries) c.port.view_is
    ∙ ap (λ z. entry_of z c.args.port) c.self.view_is

pub returns-in-None : goal.returns-in-None
returns-in-None c =
    sym (found_none c.self.inside.entries c.self.inside.held c.self.inside.once
    c.self.inside.free c.port.inside.0 c.self.invariant c.in-None.ensures.none)
    ∙ ap (entry_of c.self.inside.entries) c.port.view_is
    ∙ ap (λ z. entry_of z c.args.port) c.self.view_is
