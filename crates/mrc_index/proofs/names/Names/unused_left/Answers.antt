use Rattle.std.proofs.Common.{◌≡◌, ◌≤◌, ◌<◌, None, ◌∙◌, sym, ap, arith}
use Rattle.mrc_model.specs.Space.{put_entry, unused}
use Rattle.mrc_index.proofs.ReplacingLaws.{unused_set, unused_above, unused_gone}
use Rattle.mrc_index.proofs.names.Names.unused_left.Goals as goal

pub returns-in-None : goal.returns-in-None
returns-in-None c =
    let below = c.if-name-least.true in
    let least = c.unused-least.ensures in
    sym (ap (λ o. unused (put_entry c.args.self.now c.args.name o)) c.in-None.is
    ∙ unused_gone c.args.self.now c.args.name (omega (arith, c.if-name-gt0.true)) (omega arith))

pub returns-in_default : goal.returns-in_default
returns-in_default c =
    let above = c.if-name-least.false in
    let least = c.unused-least.ensures in
    c.unused-least.ensures
    ∙ sym (ap (λ o. unused (put_entry c.args.self.now c.args.name o)) c.in-None.is
    ∙ unused_above c.args.self.now c.args.name c.requires.there
    (λ m up low same. omega arith))

pub returns-in_default-2 : goal.returns-in_default-2
returns-in_default-2 c =
    let none = c.if-name-gt0.false in
    c.unused-least.ensures
    ∙ sym (ap (λ o. unused (put_entry c.args.self.now c.args.name o)) c.in-None.is
    ∙ unused_above c.args.self.now c.args.name c.requires.there
    (λ m up low same. omega arith))

pub returns-in_default-3 : goal.returns-in_default-3
returns-in_default-3 c =
    c.unused-least.ensures
    ∙ sym (ap (λ o. unused (put_entry c.args.self.now c.args.name o)) c.in_default.is
    ∙ unused_set c.args.self.now c.args.name c.in_default.field-0 c.requires.there)
