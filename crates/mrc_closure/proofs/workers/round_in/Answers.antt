use Rattle.std.proofs.Common.{ℕ, subst}
use Rattle.std.specs.Prelude.{IfOk}
use Rattle.mrc_wiring.specs.Table.{wiring_of}
use Rattle.mrc_classes.specs.Following.{IsListOf}
use Rattle.mrc_closure.specs.Dealing.{FromFirst}
use Rattle.mrc_closure.proofs.workers.round_in.Goals as goal

-- as many workers were joined as there are
pub returns-then-started : goal.returns-then-started
returns-then-started g c =
    subst (λ (n : ℕ). IfOk c.join_all-found.result (IsListOf (FromFirst
    (wiring_of c.args.rules.now) c.args.facts.now c.args.new.now n c.args.workers)))
    (c.start_all-started.ensures.all c.if-started.true) c.join_all-found.ensures
