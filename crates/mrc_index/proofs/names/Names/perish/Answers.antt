use Rattle.std.proofs.Common.{◌∙◌, sym}
use Rattle.mrc_index.proofs.PerishLaws.{none_left}
use Rattle.mrc_index.proofs.names.Names.perish.Goals as goal

pub returns : goal.returns
returns c =
    sym (none_left c.loop-name.self c.args.port c.in_default.ensures.none) ∙ c.loop-name.invariant
