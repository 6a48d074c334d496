use Rattle.std.proofs.Common.{◌≡◌, sym, ap, ◌∙◌, eqb-true}
use Rattle.mrc_model.specs.Map.{keys}
use Rattle.mrc_model.specs.Death.{has, is_kernel_of}
use Rattle.mrc_death.proofs.Keeping.{kernel_dies, mapped_none, live_not_absent}
use Rattle.mrc_death.proofs.search.Search.kill_kernel.Goals as goal

pub kill-requires-clause-dies : goal.kill-requires-clause-dies
kill-requires-clause-dies c = kernel_dies c.args.store.now c.args.doomed.now c.in-Some.kernel (λ x.
    x.now) c.live.result c.live.ensures (sym c.if-is_some.ensures) (sym c.in-Some.ensures)

pub returns-else-is_some-clause-kernel : goal.returns-else-is_some-clause-kernel
returns-else-is_some-clause-kernel c = λ p live k.
    let same : c.in-Some.kernel ≡ p = eqb-true c.in-Some.kernel p (ap (λ o. is_kernel_of o p)
    c.in-Some.ensures ∙ k) in
    absurd (live_not_absent c.args.store.now.ports c.in-Some.kernel (mapped_none (λ x. x.now)
    c.live.result c.live.ensures (sym c.if-is_some.ensures)) (ap (has (keys
    c.args.store.now.ports)) same ∙ live))
