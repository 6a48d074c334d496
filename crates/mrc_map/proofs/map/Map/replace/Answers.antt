use Rattle.std.proofs.Common.{Some, sym, ap, ◌∙◌, subst}
use Rattle.std.specs.List.{slice_set}
use Rattle.mrc_map.specs.Entries.{IsAt, IsMissingAt}
use Rattle.mrc_map.proofs.EntryLaws.{not_some, absent_get, found_get, written}
use Rattle.mrc_map.proofs.map.Map.replace.Goals as goal

pub invariant_of-self : goal.invariant_of-self
invariant_of-self g c =
    let f = subst (λ es. IsAt c.args.key es c.in-Ok.place) c.deref.ensures.value c.in-Ok.ensures.at in
    let put = ap (λ v. slice_set c.self.inside.entries.items c.in-Ok.place (c.index_mut.result.now.0, v))
    c.replace.ensures.after in
    let w = written c.args.key c.args.value _ _ _ c.in-Ok.place c.index_mut.result.now
    c.self.invariant c.self.view_is f c.index_mut.ensures.value put in
    w.0

pub unreachable-requires : goal.unreachable-requires
unreachable-requires g c =
    let a = subst (λ es. IsMissingAt c.args.key es c.in-Err.field-0) c.deref.ensures.value
    c.in-Err.ensures.missing in
    not_some _ (absent_get _ _ _ _ c.self.invariant c.self.view_is a) c.requires

pub returns-clause-out : goal.returns-clause-out
returns-clause-out g c =
    let f = subst (λ es. IsAt c.args.key es c.in-Ok.place) c.deref.ensures.value c.in-Ok.ensures.at in
    let got = found_get _ _ _ _ c.index_mut.result.now c.self.invariant c.self.view_is f in
    ap Some (c.replace.ensures.value ∙ ap (λ e. e.1) c.index_mut.ensures.value) ∙ sym got

pub returns-clause-changed : goal.returns-clause-changed
returns-clause-changed g c =
    let f = subst (λ es. IsAt c.args.key es c.in-Ok.place) c.deref.ensures.value c.in-Ok.ensures.at in
    let put = ap (λ v. slice_set c.self.inside.entries.items c.in-Ok.place (c.index_mut.result.now.0, v))
    c.replace.ensures.after in
    let w = written c.args.key c.args.value _ _ _ c.in-Ok.place c.index_mut.result.now
    c.self.invariant c.self.view_is f c.index_mut.ensures.value put in
    w.1
