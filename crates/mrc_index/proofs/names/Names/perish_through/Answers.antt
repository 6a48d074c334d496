use Rattle.std.proofs.Common.{◌+◌, sym, subst}
use Rattle.mrc_index.proofs.PerishLaws.{HasTurned, next_turned, all_turned}
use Rattle.mrc_index.proofs.names.Names.perish_through.Goals as goal

pub loop-held-preserved : goal.loop-held-preserved
loop-held-preserved c =
    subst (λ n. HasTurned c.args.dead.now (n + 1) c.args.self.now c.turn_dead.new.self)
    (sym c.from-from.ensures)
    (next_turned c.args.dead.now c.loop-held.from c.in-Some.held.0 c.in-Some.held.1
    c.args.self.now c.loop-held.self c.turn_dead.new.self c.loop-held.invariant
    c.in-Some.ensures.some c.turn_dead.ensures)

pub returns : goal.returns
returns c =
    all_turned c.args.dead.now c.loop-held.from _ c.loop-held.self c.loop-held.invariant
    c.in_default.ensures.none
