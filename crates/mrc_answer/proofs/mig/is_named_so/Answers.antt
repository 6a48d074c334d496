use Rattle.std.proofs.Common.{sym, ◌∙◌, rules, tests, List, ℕ, Bor}
use Rattle.std.specs.Prelude.{bytes_eq}
use Rattle.std.proofs.lemmas.Iterator.{YieldsList-from_slice}
use Rattle.std.proofs.lemmas.Iterator.Search.{any_from_yields_List}
use Rattle.mrc_base.proofs.Lists.{any_map}
use Rattle.mrc_files.specs.Paths.{name}
use Rattle.mrc_answer.proofs.mig.is_named_so.Goals as goal

pub returns : goal.returns
returns c =
    any_from_yields_List
    (λ (other : Bor (List ℕ)). bytes_eq (name other.now) (name c.args.file.now))
    _ _ _ c.any.ensures.ran (YieldsList-from_slice c.args.files.now cc)
    (λ x b q k. search (rules, tests))
    ∙ sym (any_map (λ (other : List ℕ). bytes_eq (name other) (name c.args.file.now))
    (λ (other : Bor (List ℕ)). other.now) c.args.files.now)
