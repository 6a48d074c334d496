use Rattle.std.proofs.Common.{sym, ◌∙◌, rules, tests}
use Rattle.std.specs.Prelude.{not, ◌||◌}
use Rattle.std.proofs.lemmas.List.Folds.{list_all-map}
use Rattle.std.proofs.lemmas.Iterator.{YieldsList-from_slice}
use Rattle.std.proofs.lemmas.Iterator.Search.{all_from_yields_List}
use Rattle.mrc_mig_parse.specs.Arguments.{is_marked, is_of_port_type}
use Rattle.mrc_mig_parse.specs.Readers.{parameter_of}
use Rattle.mrc_mig_parse.proofs.arguments.marked_are_ports.Goals as goal

pub returns : goal.returns
returns c =
    all_from_yields_List (λ w. not (is_marked (parameter_of w)) || is_of_port_type (parameter_of w))
    _ _ _ c.all.ensures.ran (YieldsList-from_slice c.args.seen.now cc)
    (λ x b q k. search (rules, tests))
    ∙ sym (list_all-map (λ p. not (is_marked p) || is_of_port_type p) parameter_of c.args.seen.now)
