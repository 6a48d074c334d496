use Rattle.std.proofs.Common.{List, subst, sym}
use Rattle.mrc_base.specs.declared.Fact.{Fact}
use Rattle.mrc_wiring.specs.Table.{wiring_of}
use Rattle.mrc_wiring.specs.FirstState.{HasFirstHolds}
use Rattle.mrc_facts.specs.Sets.{has}
use Rattle.mrc_classes.specs.Growing.{Added}
use Rattle.mrc_classes.specs.Parts.{IsListedHold}
use Rattle.mrc_classes.proofs.Beginning.{held_listed}
use Rattle.mrc_classes.proofs.first_facts.held_at_first.Goals as goal

-- the set has the listed holds, which are those of the first state
pub returns : goal.returns
returns c =
    let W = wiring_of c.args.wired.now in
    let holds : HasFirstHolds W c.as_slice.result.now = subst
    (λ (fs : List Fact). HasFirstHolds W fs) (sym c.as_slice.ensures.value)
    c.in_ok-holdings.ensures.held in
    held_listed W c.as_slice.result.now holds c.put_holds.new.facts
    (subst (λ (fs : List Fact). Added (has fs) (has c.put_holds.new.facts)
    (IsListedHold W c.as_slice.result.now)) c.new-facts.ensures c.in_ok-put_holds.ensures)
