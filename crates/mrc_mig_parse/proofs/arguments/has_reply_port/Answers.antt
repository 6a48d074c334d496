use Rattle.std.proofs.Common.{sym, ◌∙◌, rules, tests}
use Rattle.std.proofs.lemmas.Iterator.{YieldsList-from_slice}
use Rattle.std.proofs.lemmas.Iterator.Search.{any_from_yields_List}
use Rattle.mrc_base.proofs.Lists.{any_map}
use Rattle.mrc_mig_parse.specs.Arguments.{is_reply_port}
use Rattle.mrc_mig_parse.specs.Readers.{parameter_of}
use Rattle.mrc_mig_parse.proofs.arguments.has_reply_port.Goals as goal

pub returns : goal.returns
returns c =
    any_from_yields_List (λ w. is_reply_port w.direction) _ _ _ c.any.ensures.ran
    (YieldsList-from_slice c.args.seen.now cc) (λ x b q k. search (rules, tests))
    ∙ sym (any_map (λ p. is_reply_port p.direction) parameter_of c.args.seen.now)
