use Rattle.mrc_wiring.specs.Claims.{holding_of}
use Rattle.mrc_attack.proofs.Leaking.{breaking_told}
use Rattle.mrc_attack.proofs.judging.is_breaking.Goals as goal

pub returns : goal.returns
returns c =
    breaking_told c.args.wired.now (holding_of c.args.line.now) c.args.script.now
    c.in_ok-world.world _ c.in_ok-world.ensures c.breach.ensures.exact
