use Rattle.std.proofs.Common.{ap, cond, sym, true}
use Rattle.std.specs.List.{list_any}
use Rattle.mrc_model.specs.Wiring.{trusts_by, may}
use Rattle.mrc_wiring.specs.Table.{wiring_of}
use Rattle.mrc_wiring.proofs.wired.Wired.may.Goals as goal

-- no line limits the verb
pub returns-in-None : goal.returns-in-None
unfolding may
returns-in-None c =
    let any = list_any (trusts_by c.args.verb c.args.task c.args.right c.args.class)
    (wiring_of c.args.self.now).trusted in
    sym (ap (λ b. cond b any true) c.in-None.ensures.none)
