use Rattle.mrc_death.proofs.Keeping.{no_step}
use Rattle.mrc_death.proofs.Following.{goes_part, step_on}
use Rattle.mrc_death.proofs.search.Search.lose_rights.Goals as goal

pub loop-held-init : goal.loop-held-init
loop-held-init c = no_step c.args.store.now c.args.doomed.now c.args.self.now c.requires.kept

pub lose_held-requires : goal.lose_held-requires
lose_held-requires c = record {
  kept = c.loop-held.invariant.kept;
  goes = goes_part c.args.store.now c.args.doomed.now c.args.rights.now c.loop-held.held-index
      c.held-item.result c.requires.goes c.loop-held-test.true c.held-item.is;
}

pub loop-held-preserved : goal.loop-held-preserved
loop-held-preserved c = step_on c.args.store.now c.args.doomed.now c.args.rights.now
    c.loop-held.held-index c.held-item.result c.args.self.now c.loop-held.self c.lose_held.new.self
    c.loop-held-test.true c.held-item.is c.loop-held.invariant c.in_ok-lose_held.ensures
