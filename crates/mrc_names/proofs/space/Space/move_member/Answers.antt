use Rattle.std.proofs.Common.{refl, sym, ◌∙◌, subst}
use Rattle.mrc_names.specs.Bounds.{IsBounded}
use Rattle.mrc_names.proofs.BoundLaws.{bounded_old, used_at}
use Rattle.mrc_names.proofs.ChangingLaws.{move_no_name, move_no_right, move_refused, move_done}
use Rattle.mrc_names.proofs.space.Space.move_member.Goals as goal

pub returns-in_default-clause-refused : goal.returns-in_default-clause-refused
returns-in_default-clause-refused c =
    move_no_name c.args.self.now c.args.member c.args.set (sym c.get.ensures ∙ c.in_default.is)

pub returns-in_default-member_of-clause-refused : goal.returns-in_default-member_of-clause-refused
returns-in_default-member_of-clause-refused c =
    move_no_right c.args.self.now c.args.member c.args.set c.in-Some.held
    (sym c.get.ensures ∙ c.in-Some.is) (sym c.member_of.ensures ∙ c.in_default-member_of.is)

pub invariant_of-self : goal.invariant_of-self
invariant_of-self c =
    let used = used_at _ _ c.args.member c.args.member c.in-Some.held c.self.view_is refl
    (sym c.get.ensures ∙ c.in-Some.is) in
    subst IsBounded (sym c.set.ensures) (bounded_old _ c.args.member _ c.self.invariant used)

pub returns-in-Ok-clause-ok : goal.returns-in-Ok-clause-ok
returns-in-Ok-clause-ok c =
    move_done c.self.inside.entries c.args.self.now c.set.new.self c.args.member c.args.member
    c.args.set c.in-Some.held c.in_set.result c.in-Some-member_of.in_set c.in-Ok.joined
    (sym c.get.ensures ∙ c.in-Some.is) (sym c.member_of.ensures ∙ c.in-Some-member_of.is)
    c.in-Ok.ensures.ok c.in_set.ensures.set c.self.view_is refl c.set.ensures

pub returns-in-Err-clause-refused : goal.returns-in-Err-clause-refused
returns-in-Err-clause-refused c =
    move_refused c.args.self.now c.args.member c.args.set c.in-Some.held
    c.in-Some-member_of.in_set c.in-Err.code (sym c.get.ensures ∙ c.in-Some.is)
    (sym c.member_of.ensures ∙ c.in-Some-member_of.is) c.in-Err.ensures.refused
