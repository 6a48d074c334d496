use Rattle.std.proofs.Common.{refl}
use Rattle.mrc_map.proofs.EntryLaws.{not_some}
use Rattle.std.proofs.Common.{subst}
use Rattle.mrc_map.specs.Entries.{IsAt, IsMissingAt}
use Rattle.mrc_map.proofs.EntryLaws.{absent_get, written}
use Rattle.mrc_map.proofs.map.Map.set.Goals as goal

pub invariant_of-self : goal.invariant_of-self
invariant_of-self g c =
    let f =
    subst (λ es. IsAt c.args.key es c.in-Ok.place) c.deref.ensures.value c.in-Ok.ensures.at in
    let w =
    written c.args.key c.args.value _ _ _ c.in-Ok.place c.index_mut.result.now c.self.invariant
    c.self.view_is f c.index_mut.ensures.value refl in
    w.0

pub unreachable-requires : goal.unreachable-requires
unreachable-requires g c =
    let a =
    subst (λ es. IsMissingAt c.args.key es c.in-Err.field-0) c.deref.ensures.value
    c.in-Err.ensures.missing in
    not_some _ (absent_get _ _ _ _ c.self.invariant c.self.view_is a) c.requires

pub returns : goal.returns
returns g c =
    let f =
    subst (λ es. IsAt c.args.key es c.in-Ok.place) c.deref.ensures.value c.in-Ok.ensures.at in
    let w =
    written c.args.key c.args.value _ _ _ c.in-Ok.place c.index_mut.result.now c.self.invariant
    c.self.view_is f c.index_mut.ensures.value refl in
    w.1
