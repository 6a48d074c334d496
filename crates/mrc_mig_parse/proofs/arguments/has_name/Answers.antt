use Rattle.std.proofs.Common.{sym, ◌∙◌, rules, tests}
use Rattle.std.specs.Str.{bytes_eq}
use Rattle.std.proofs.lemmas.Iterator.{YieldsList-from_slice}
use Rattle.std.proofs.lemmas.Iterator.Search.{any_from_yields_List}
use Rattle.mrc_base.proofs.Lists.{any_map}
use Rattle.mrc_mig_parse.specs.Readers.{parameter_of}
use Rattle.mrc_mig_parse.proofs.arguments.has_name.Goals as goal

pub returns : goal.returns
returns c =
    any_from_yields_List (λ w. bytes_eq w.name.now c.args.name.now) _ _ _ c.any.ensures.ran
    (YieldsList-from_slice c.args.seen.now cc) (λ x b q k. search (rules, tests))
    ∙ sym (any_map (λ p. bytes_eq p.name c.args.name.now) parameter_of c.args.seen.now)
