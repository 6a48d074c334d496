use Rattle.std.proofs.Common.{sym, subst}
use Rattle.mrc_map.specs.Entries.{IsAt, IsMissingAt}
use Rattle.mrc_map.proofs.EntryLaws.{absent_get, taken_out, remove-absent}
use Rattle.mrc_map.proofs.map.Map.remove.Goals as goal

pub invariant_of-self : goal.invariant_of-self
invariant_of-self g c =
    let f =
    subst (λ es. IsAt c.args.key es c.in-Ok.place) c.deref.ensures.value c.in-Ok.ensures.at in
    let w =
    taken_out c.args.key _ _ _ c.in-Ok.place c.remove.result c.self.invariant c.self.view_is f
    c.remove.ensures.items in
    w.0

pub returns-in-Ok : goal.returns-in-Ok
returns-in-Ok g c =
    let f =
    subst (λ es. IsAt c.args.key es c.in-Ok.place) c.deref.ensures.value c.in-Ok.ensures.at in
    let w =
    taken_out c.args.key _ _ _ c.in-Ok.place c.remove.result c.self.invariant c.self.view_is f
    c.remove.ensures.items in
    w.1

pub returns-in_default : goal.returns-in_default
returns-in_default g c =
    let a =
    subst (λ es. IsMissingAt c.args.key es c.in_default.field-0) c.deref.ensures.value
    c.in_default.ensures.missing in
    sym (remove-absent _ _ (absent_get _ _ _ _ c.self.invariant c.self.view_is a))
