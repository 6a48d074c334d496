use Rattle.std.specs.Option.{option_copied}
use Rattle.std.proofs.Common.{sym, ap, ◌∙◌}
use Rattle.mrc_death.proofs.Keeping.{not_live, present_live, self_receive}
use Rattle.mrc_death.proofs.search.Search.lose.Goals as goal

pub returns-in_default : goal.returns-in_default
returns-in_default c = not_live c.args.store.now c.args.doomed.now c.args.self.now c.args.port
    c.requires.kept (sym c.in_default.ensures)

pub settle-requires-clause-loses : goal.settle-requires-clause-loses
settle-requires-clause-loses c = record {
  live = present_live c.args.store.now.ports c.args.port
      c.in-Some.slot.now (sym c.live.ensures ∙ ap (option_copied) c.in-Some.is);
  goes =
      c.requires.goes.at c.args.port (self_receive c.args.port);
}

pub mark-requires-clause-loses : goal.mark-requires-clause-loses
mark-requires-clause-loses c = record {
  live = present_live c.args.store.now.ports c.args.port
      c.in-Some.slot.now (sym c.live.ensures ∙ ap (option_copied) c.in-Some.is);
  goes =
      c.requires.goes.at c.args.port (self_receive c.args.port);
}
