use Rattle.std.proofs.Common.{◌<◌, rules, arith, length, ap, subst}
use Rattle.mrc_live.specs.Runs.{reply_to}
use Rattle.mrc_live.specs.Waits.{FindsNone}
use Rattle.mrc_model.specs.Reply as model
use Rattle.mrc_model.specs.World.{World}
use Rattle.mrc_live.proofs.desk.Desk.finds_none.Goals as goal

pub returns-then-len-self : goal.returns-then-len-self
unfolding reply_to
returns-then-len-self g c = λ waits.
    let was = c.self.inside in
    let below : length was.events.items < was.limit = search rules in
    subst (λ d. FindsNone d c.args.task c.args.name c.args.limit) c.self.view_is (
      (λ full. omega (arith, below, full)),
      ap (λ (end : World × model.Reply). end.1) (c.would_wait.ensures.exact.0 waits),
    )
