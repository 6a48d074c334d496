use Rattle.std.proofs.Common.{◌∙◌, ap}
use Rattle.mrc_model.specs.Death.{has}
use Rattle.mrc_map.proofs.MemberLaws.{has_keys}
use Rattle.mrc_map.proofs.ports.Ports.has.Goals as goal

pub returns : goal.returns
returns c =
    let keys = c.self.inside.numbers.keys in
    c.contains.ensures ∙ has_keys keys c.port.inside.0 ∙ ap (has keys) c.port.view_is
    ∙ ap (λ xs. has xs c.args.port) c.self.view_is
