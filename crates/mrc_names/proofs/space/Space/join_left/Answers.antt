use Rattle.std.proofs.Common.{◌∙◌, ap, sym, subst}
use Rattle.mrc_model.specs.Map.{insert}
use Rattle.mrc_model.specs.Space.{entry_of}
use Rattle.mrc_names.specs.Bounds.{IsBounded}
use Rattle.mrc_names.proofs.ExchangingLaws.{can_join, joined_as}
use Rattle.mrc_names.proofs.space.Space.join_left.Goals as goal

pub leave-requires-2 : goal.leave-requires-2
leave-requires-2 c =
    can_join c.leave.new.self c.args.port c.args.right c.in-Some.held c.joined.result
    (sym c.find_entry.ensures ∙ c.in-Some.is) c.joined.ensures

pub returns : goal.returns
returns c =
    joined_as _ c.leave-2.new.self c.args.port c.args.right c.in-Some.held c.joined.result
    (subst IsBounded c.leave.ensures c.bounds.ensures.kept) c.requires.other
    (ap (λ x. entry_of x c.args.port) (sym c.leave.ensures) ∙ sym c.find_entry.ensures
    ∙ c.in-Some.is) c.joined.ensures
    (c.leave-2.ensures
    ∙ ap (λ x. insert x c.in-Some.held.0 c.joined.result) c.leave.ensures)
