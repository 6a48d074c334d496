use Rattle.std.proofs.Common.{◌++◌, sym, ap, ◌∙◌, append-nil}
use Rattle.mrc_model.specs.Breach.{Holding}
use Rattle.mrc_model.specs.FirstHoldings.{fact_at}
use Rattle.mrc_wiring.proofs.holdings.add_hold.Goals as goal

-- a port that is not there gives nothing
pub returns-in-None : goal.returns-in-None
returns-in-None c =
    let h : Holding = record { task = c.args.task; port = c.args.port; right = c.args.right } in
    sym (append-nil c.args.holds.now.items)
    ∙ ap (λ o. c.args.holds.now.items ++ fact_at h o) c.in-None.ensures
