use Rattle.std.proofs.Common.{◌∙◌, sym, ap}
use Rattle.mrc_model.specs.Map.{get}
use Rattle.mrc_index.proofs.ReplacingLaws.{like_alike, replaced}
use Rattle.mrc_index.proofs.names.Names.replace.Goals as goal

pub set-requires : goal.set-requires
set-requires c = (
  c.in-Some.held,
  sym c.get.ensures ∙ c.in-Some.is,
  like_alike c.in-Some.held c.args.entry (sym c.is_like.ensures ∙ c.if-is_like.true),
)

pub invariant_of-self-2 : goal.invariant_of-self-2
invariant_of-self-2 c =
    replaced c.self.inside.entries c.set-2.new.self c.self.inside.held c.index.new.held
    c.forget.new.held c.self.inside.once c.index.new.once c.forget.new.once c.self.inside.free
    c.from.result c.args.name c.in-Some.held c.args.entry c.self.invariant c.from.ensures
    (ap (get c.self.inside.entries) c.from.ensures ∙ ap (λ z. get z c.args.name) c.self.view_is
    ∙ sym c.get.ensures ∙ c.in-Some.is) c.set-2.ensures
    (sym c.is_like.ensures ∙ c.if-is_like.false)
    c.in_ok-index.ensures.held c.in_ok-index.ensures.once
    c.forget.ensures.held c.forget.ensures.once
