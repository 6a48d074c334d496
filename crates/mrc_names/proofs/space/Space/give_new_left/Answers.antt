use Rattle.std.proofs.Common.{sym, ◌∙◌, ap, subst}
use Rattle.mrc_model.specs.Map.{get}
use Rattle.mrc_model.specs.Space.{put_entry, unused}
use Rattle.mrc_model.proofs.Spaces.{get-unused}
use Rattle.mrc_names.specs.Bounds.{IsBounded}
use Rattle.mrc_names.proofs.ForetellingLaws.{full_left}
use Rattle.mrc_names.proofs.GivingLaws.{new_refused, new_given, given_as_new}
use Rattle.mrc_names.proofs.Granting.{granted, wanting}
use Rattle.mrc_names.proofs.space.Space.give_new_left.Goals as goal

pub returns-then-is_full_left-clause-refused : goal.returns-then-is_full_left-clause-refused
returns-then-is_full_left-clause-refused c =
    let bounds = subst IsBounded c.self.view_is c.self.invariant in
    new_refused _ c.args.port c.args.right
    (full_left c.args.self.now c.args.name c.requires.there c.args.rest.now bounds
    ∙ sym c.is_full_left.ensures ∙ c.if-is_full_left.true)

pub put_over-requires-clause-unused : goal.put_over-requires-clause-unused
put_over-requires-clause-unused c =
    let y = put_entry c.args.self.now c.args.name c.args.rest.now in
    ap (get y) (c.unused_left-given.ensures
    ∙ ap (λ x. unused (put_entry x c.args.name c.args.rest.now)) c.self.view_is)
    ∙ get-unused y

pub put_over-requires-clause-room : goal.put_over-requires-clause-room
put_over-requires-clause-room c =
    let bounds = subst IsBounded c.self.view_is c.self.invariant in
    full_left c.args.self.now c.args.name c.requires.there c.args.rest.now bounds
    ∙ sym c.is_full_left.ensures ∙ c.if-is_full_left.false

pub returns-in_err-put_over-clause-refused : goal.returns-in_err-put_over-clause-refused
returns-in_err-put_over-clause-refused c =
    let bounds = subst IsBounded c.self.view_is c.self.invariant in
    wanting c.from_residual.result _ c.from_residual.ensures.1
    (granted _ _ (new_given (put_entry c.args.self.now c.args.name c.args.rest.now) c.args.port
    c.args.right
    (full_left c.args.self.now c.args.name c.requires.there c.args.rest.now bounds
    ∙ sym c.is_full_left.ensures ∙ c.if-is_full_left.false)))

pub returns-clause-ok : goal.returns-clause-ok
returns-clause-ok c =
    let bounds = subst IsBounded c.self.view_is c.self.invariant in
    let y = put_entry c.args.self.now c.args.name c.args.rest.now in
    given_as_new y c.put_over.new.self c.args.port c.args.right c.unused_left-given.result
    c.new_entry.result
    (full_left c.args.self.now c.args.name c.requires.there c.args.rest.now bounds
    ∙ sym c.is_full_left.ensures ∙ c.if-is_full_left.false)
    (c.unused_left-given.ensures
    ∙ ap (λ x. unused (put_entry x c.args.name c.args.rest.now)) c.self.view_is)
    c.new_entry.ensures c.in_ok-put_over.ensures.ok
