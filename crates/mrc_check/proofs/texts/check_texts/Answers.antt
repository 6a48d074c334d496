use Rattle.std.proofs.Common.{arith, map}
use Rattle.mrc_check.proofs.TextLaws.{yes_told, only_memory_told}
use Rattle.mrc_check.proofs.texts.check_texts.Goals as goal

pub returns-clause-found : goal.returns-clause-found
returns-clause-found g c =
    yes_told (map (λ bytes. bytes.items) c.args.defs.now) c.args.wiring.now c.args.policy.now
    c.args.certificate.now c.checked.result (λ i. omega (arith, c.type_inv.certificate i)) c.checked.ensures

pub returns-clause-only : goal.returns-clause-only
returns-clause-only g c =
    only_memory_told (map (λ bytes. bytes.items) c.args.defs.now) c.args.wiring.now
    c.args.policy.now c.args.certificate.now c.checked.result c.checked.ensures
