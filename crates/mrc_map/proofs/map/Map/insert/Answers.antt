use Rattle.std.proofs.Common.{refl}
use Rattle.std.proofs.Common.{subst}
use Rattle.mrc_map.specs.Entries.{IsAt, IsMissingAt}
use Rattle.mrc_map.proofs.EntryLaws.{written, added}
use Rattle.mrc_map.proofs.map.Map.insert.Goals as goal

pub invariant_of-self : goal.invariant_of-self
invariant_of-self g c =
    let f =
    subst (λ es. IsAt c.args.key es c.in-Ok.place) c.deref.ensures.value c.in-Ok.ensures.at in
    let w =
    written c.args.key c.args.value _ _ _ c.in-Ok.place c.index_mut.result.now c.self.invariant
    c.self.view_is f c.index_mut.ensures.value refl in
    w.0

pub invariant_of-self-in-Continue-1 : goal.invariant_of-self-in-Continue-1
invariant_of-self-in-Continue-1 g c =
    let a =
    subst (λ es. IsMissingAt c.args.key es c.in-Err.place) c.deref.ensures.value
    c.in-Err.ensures.missing in
    let w =
    added c.args.key c.args.value _ _ _ c.in-Err.place c.self.invariant c.self.view_is a
    c.in_ok-insert-in-Err.ensures.items in
    w.0

pub returns-in-Ok-clause-ok : goal.returns-in-Ok-clause-ok
returns-in-Ok-clause-ok g c =
    let f =
    subst (λ es. IsAt c.args.key es c.in-Ok.place) c.deref.ensures.value c.in-Ok.ensures.at in
    let w =
    written c.args.key c.args.value _ _ _ c.in-Ok.place c.index_mut.result.now c.self.invariant
    c.self.view_is f c.index_mut.ensures.value refl in
    w.1

pub returns-in_ok-insert-in-Err-clause-ok : goal.returns-in_ok-insert-in-Err-clause-ok
returns-in_ok-insert-in-Err-clause-ok g c =
    let a =
    subst (λ es. IsMissingAt c.args.key es c.in-Err.place) c.deref.ensures.value
    c.in-Err.ensures.missing in
    let w =
    added c.args.key c.args.value _ _ _ c.in-Err.place c.self.invariant c.self.view_is a
    c.in_ok-insert-in-Err.ensures.items in
    w.1
