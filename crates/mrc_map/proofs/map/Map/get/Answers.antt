use Rattle.std.proofs.Common.{sym, ap, ◌∙◌, subst, Some}
use Rattle.mrc_map.specs.Entries.{IsAt, IsMissingAt}
use Rattle.mrc_map.proofs.EntryLaws.{found_get, absent_get}
use Rattle.mrc_map.proofs.map.Map.get.Goals as goal

pub returns-in-Ok : goal.returns-in-Ok
returns-in-Ok g c =
    let f =
    subst (λ es. IsAt c.args.key es c.in-Ok.place) c.deref.ensures.value c.in-Ok.ensures.at in
    ap (λ e. Some e.1) c.index.ensures
    ∙ sym (found_get _ _ _ _ c.index.result.now c.self.invariant c.self.view_is f)

pub returns-in-Err : goal.returns-in-Err
returns-in-Err g c =
    let a =
    subst (λ es. IsMissingAt c.args.key es c.in-Err.field-0) c.deref.ensures.value
    c.in-Err.ensures.missing in
    sym (absent_get _ _ _ _ c.self.invariant c.self.view_is a)
