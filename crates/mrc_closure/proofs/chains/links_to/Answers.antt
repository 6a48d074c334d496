use Rattle.std.proofs.Common.{List, ap, sym, subst, ◌∙◌, IsTrue}
use Rattle.std.specs.Prelude.{◌||◌}
use Rattle.mrc_base.specs.declared.Fact.{Fact}
use Rattle.mrc_wiring.specs.Table.{wiring_of}
use Rattle.mrc_facts.specs.Order.{is_same}
use Rattle.mrc_facts.specs.Sets.{has}
use Rattle.mrc_closure.specs.Orders.{HaveSame, IsOnce, IsOrder, Ordered}
use Rattle.mrc_closure.proofs.Deriving.{IsSearch, search_begun, same_then, next_follows, searched}
use Rattle.mrc_closure.proofs.chains.links_to.Goals as goal

pub loop-next-init : goal.loop-next-init
loop-next-init c =
    let W = wiring_of c.args.rules.now in
    let facts = c.derived.inside.facts in
    let order = c.derived.inside.order.items in
    let is = sym c.derived.view_is in
    subst (IsSearch W c.args.fact facts order c.insert.new.self) (sym c.new-links.ensures.items)
    (search_begun W c.args.fact facts order c.insert.new.self
    (subst (λ (o : Ordered). IsOrder W o.order) is c.requires.order)
    (subst (λ (o : Ordered). IsOnce o.order) is c.requires.once)
    (subst (λ (o : Ordered). HaveSame o.facts o.order) is c.requires.same)
    (subst (λ (o : Ordered). IsTrue (has o.facts c.args.fact)) is c.requires.there)
    (λ g. c.in_ok-_new.ensures.members g ∙ ap (λ (fs : List Fact). is_same g c.args.fact || has fs g)
    c.new-needed.ensures))

pub link_if_needed-requires : goal.link_if_needed-requires
link_if_needed-requires c =
    let W = wiring_of c.args.rules.now in
    let same : HaveSame c.remove.new.self c.pop.new.self.items = same_then W c.args.fact
    c.loop-next.facts c.loop-next.order.items c.loop-next.needed c.loop-next.links.items
    c.loop-next.invariant c.in-Some.next c.pop.new.self.items c.in-Some.ensures.items
    c.remove.new.self c.remove.ensures.members in
    next_follows W c.args.fact c.loop-next.facts c.loop-next.order.items c.loop-next.needed
    c.loop-next.links.items c.loop-next.invariant c.in-Some.next c.pop.new.self.items
    c.in-Some.ensures.items c.remove.new.self same

pub loop-next-preserved : goal.loop-next-preserved
loop-next-preserved c =
    let W = wiring_of c.args.rules.now in
    let same : HaveSame c.remove.new.self c.pop.new.self.items = same_then W c.args.fact
    c.loop-next.facts c.loop-next.order.items c.loop-next.needed c.loop-next.links.items
    c.loop-next.invariant c.in-Some.next c.pop.new.self.items c.in-Some.ensures.items
    c.remove.new.self c.remove.ensures.members in
    searched W c.args.fact c.loop-next.facts c.loop-next.order.items c.loop-next.needed
    c.loop-next.links.items c.loop-next.invariant c.in-Some.next c.pop.new.self.items
    c.in-Some.ensures.items c.remove.new.self c.link_if_needed.new.needed
    c.link_if_needed.new.links.items same c.in_ok-link_if_needed.ensures
