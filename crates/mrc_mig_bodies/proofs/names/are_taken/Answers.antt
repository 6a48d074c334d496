use Rattle.std.proofs.Common.{sym, ◌∙◌, rules, tests, string_bytes, map}
use Rattle.std.proofs.lemmas.Iterator.{YieldsList-from_slice}
use Rattle.std.proofs.lemmas.Iterator.Search.{any_from_yields_List}
use Rattle.mrc_base.proofs.Lists.{any_map}
use Rattle.mrc_mig_bodies.specs.Objections.{is_taken}
use Rattle.mrc_mig_bodies.proofs.names.are_taken.Goals as goal

pub returns : goal.returns
returns c =
    any_from_yields_List (λ s. is_taken (map string_bytes c.args.names.now) (string_bytes s)) _ _ _
    c.any.ensures.ran
    (YieldsList-from_slice c.args.own.now cc) (λ x b q k. search (rules, tests))
    ∙ sym (any_map (is_taken (map string_bytes c.args.names.now)) string_bytes c.args.own.now)
