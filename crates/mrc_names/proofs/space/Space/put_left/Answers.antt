use Rattle.std.proofs.Common.{◌<◌, ◌^◌, sym, ap, ◌∙◌, subst, arith}
use Rattle.std.specs.Prelude.{IsSome}
use Rattle.mrc_model.specs.Map.{get}
use Rattle.mrc_model.specs.World.{Space}
use Rattle.mrc_model.specs.Space.{put_entry, is_full}
use Rattle.mrc_names.specs.Bounds.{IsBounded}
use Rattle.mrc_names.proofs.BoundLaws.{bounded_new}
use Rattle.mrc_model.proofs.Spaces.{put_entry_other}
use Rattle.mrc_names.proofs.MovingLaws.{put_over, bounded_left}
use Rattle.mrc_names.proofs.space.Space.put_left.Goals as goal

pub leave-requires : goal.leave-requires
leave-requires c = c.requires.alike c.if-to-from.true

pub returns-then-to-from-clause-ok : goal.returns-then-to-from-clause-ok
returns-then-to-from-clause-ok c =
    c.leave.ensures
    ∙ put_over c.args.self.now c.args.from c.args.to c.args.rest c.args.entry c.if-to-from.true

pub move_new-requires-clause-unused : goal.move_new-requires-clause-unused
move_new-requires-clause-unused c =
    ap (λ (x : Space). get x c.args.to) c.self.view_is
    ∙ sym (put_entry_other c.args.self.now c.args.from c.args.to c.args.rest c.if-to-from.false)
    ∙ c.requires.unused

pub invariant_of-self-2 : goal.invariant_of-self-2
invariant_of-self-2 c =
    let there = subst (λ (x : Space). IsSome (get x c.args.from)) (sym c.self.view_is)
    c.requires.there in
    let room = ap (λ (x : Space). is_full (put_entry x c.args.from c.args.rest)) c.self.view_is
    ∙ c.requires.room in
    let short : c.args.to < 2 ^ 32 = omega (arith, c.ranges.to.fits) in
    subst IsBounded (sym c.in_ok-move_new.ensures.ok)
    (bounded_new (put_entry c.self.inside.entries c.args.from c.args.rest) c.args.to c.args.entry
    (bounded_left c.self.inside.entries c.args.from c.args.rest c.self.invariant there) room short)
