use Rattle.std.proofs.Common.{sym, ◌∙◌, rules, tests}
use Rattle.std.proofs.lemmas.Iterator.{YieldsList-from_slice}
use Rattle.std.proofs.lemmas.Iterator.Search.{any_from_yields_List}
use Rattle.mrc_base.proofs.Lists.{any_map}
use Rattle.mrc_mig_parse.specs.Files.{is_named}
use Rattle.mrc_mig_parse.specs.Meanings.{row_of}
use Rattle.mrc_mig_parse.proofs.file.is_routine.Goals as goal

pub returns : goal.returns
returns c =
    any_from_yields_List (λ entry. is_named c.args.name.now (row_of entry)) _ _ _
    c.any.ensures.ran (YieldsList-from_slice c.args.entries.now cc)
    (λ x b q k. search (rules, tests))
    ∙ sym (any_map (is_named c.args.name.now) row_of c.args.entries.now)
