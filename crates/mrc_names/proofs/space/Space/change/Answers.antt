use Rattle.std.proofs.Common.{◌≡◌, Some, subst}
use Rattle.mrc_model.specs.declared.Entry.{Entry}
use Rattle.mrc_model.specs.Map.{get}
use Rattle.mrc_names.specs.Changes.{change_of, IsChangeOf}
use Rattle.mrc_names.proofs.LeavingLaws.{can_leave}
use Rattle.mrc_names.proofs.space.Space.change.Goals as goal

pub leave-requires : goal.leave-requires
leave-requires c =
    can_leave c.args.self.now c.args.name c.in-Remains.rest
    (subst (λ k. (e : Entry) × (get c.args.self.now c.args.name ≡ Some e)
    × IsChangeOf e (change_of k)) c.in-Remains.is c.requires)
