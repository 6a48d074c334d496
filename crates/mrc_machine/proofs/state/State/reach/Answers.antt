use Rattle.std.proofs.Common.{◌≡◌, ◌∷◌, ◌∙◌, sym, drop, ◌+◌}
use Rattle.std.proofs.lemmas.Bool.{true≢false}
use Rattle.mrc_desc.proofs.Walks.{item_first}
use Rattle.mrc_wiring.specs.Table.{wiring_of}
use Rattle.mrc_machine.specs.Holdings.{holding_of}
use Rattle.mrc_machine.specs.Breaching.{is_new}
use Rattle.mrc_machine.proofs.BreachLaws.{reached_more, next_any, first_held, rest_held, put_less}
use Rattle.mrc_machine.proofs.state.State.reach.Goals.{then-is_new+in_ok-insert, else-is_new}
use Rattle.mrc_machine.proofs.state.State.reach.Goals as goal

pub loop-holding-preserved : goal.loop-holding-preserved
loop-holding-preserved c =
    let W = wiring_of c.args.wired.now in
    let w = c.args.self.now in
    let class = c.args.class in
    let hs = c.args.holdings.now in
    let i = c.loop-holding.holding-index in
    let item = c.holding-item.result in
    let next : drop i hs ≡ item ∷ drop (i + 1) hs =
    item_first hs i item c.loop-holding-test.true c.holding-item.is in
    let before = c.loop-holding.invariant in
    let held = rest_held w item (drop i hs) (drop (i + 1) hs) next before.held in
    let holds = first_held w item (drop i hs) (drop (i + 1) hs) next before.held in
    elim c.if-is_new.branch [
      | then-is_new+in_ok-insert d ↦
          let new = sym c.is_new.ensures ∙ d.if-is_new.true in
          rw (d.ports-is, d.more-is) (record {
            reached = reached_more W w class c.loop-holding.ports d.insert.new.self
                (holding_of item) new holds before.reached d.in_ok-insert.ensures.ok;
            held = held;
            all = λ n. absurd (true≢false n);
            less = put_less W w class c.loop-holding.ports d.insert.new.self hs
                (drop (i + 1) hs) i item next
                c.loop-holding.more _ new d.in_ok-insert.ensures.ok before.less;
          })
      | else-is_new d ↦ rw (d.ports-is, d.more-is) (record {
        reached = before.reached;
        held = held;
        all = λ n. before.all n
            ∙ next_any (is_new W w class c.loop-holding.ports) item (drop i hs)
            (drop (i + 1) hs) next (sym c.is_new.ensures ∙ d.if-is_new.false);
        less = before.less;
      })
    ]
