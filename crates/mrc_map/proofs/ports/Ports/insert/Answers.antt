use Rattle.std.proofs.Common.{◌∙◌, ap, not, ◌||◌, ◌==◌}
use Rattle.mrc_model.specs.Death.{has}
use Rattle.mrc_map.proofs.MemberLaws.{has_keys, member_after}
use Rattle.mrc_map.proofs.ports.Ports.insert.Goals as goal

pub returns-clause-new : goal.returns-clause-new
returns-clause-new c =
    let keys = c.self.inside.numbers.keys in
    c.in_ok-insert.ensures.added
    ∙ ap not (has_keys keys c.port.inside.0 ∙ ap (has keys) c.port.view_is
    ∙ ap (λ xs. has xs c.args.port) c.self.view_is)

pub returns-clause-ok : goal.returns-clause-ok
returns-clause-ok c = λ q.
    member_after c.insert.new.self.keys c.self.inside.numbers.keys c.port.inside.0 q
    (c.in_ok-insert.ensures.updates.0 q)
    ∙ ap (λ p. p == q || has c.self.inside.numbers.keys q) c.port.view_is
    ∙ ap (λ xs. c.args.port == q || has xs q) c.self.view_is
