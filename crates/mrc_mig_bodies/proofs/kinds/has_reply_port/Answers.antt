use Rattle.std.proofs.Common.{sym, ◌∙◌, rules, tests}
use Rattle.std.proofs.lemmas.Iterator.{YieldsList-from_slice}
use Rattle.std.proofs.lemmas.Iterator.Search.{any_from_yields_List}
use Rattle.mrc_base.proofs.Lists.{any_map}
use Rattle.mrc_mig_bodies.specs.Parameters.{parameter_of}
use Rattle.mrc_mig_bodies.specs.Roles.{is_reply_port}
use Rattle.mrc_mig_bodies.proofs.kinds.has_reply_port.Goals as goal

pub returns : goal.returns
returns c =
    any_from_yields_List (λ a. is_reply_port a.role) _ _ _ c.any.ensures.ran
    (YieldsList-from_slice c.args.arguments.now cc) (λ x b q k. search (rules, tests))
    ∙ sym (any_map (λ a. is_reply_port a.role) parameter_of c.args.arguments.now)
