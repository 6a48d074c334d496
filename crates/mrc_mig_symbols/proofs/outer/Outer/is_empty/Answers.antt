use Rattle.std.proofs.Common.{◌==◌, length, sym, ◌∙◌, ap}
use Rattle.mrc_mig_symbols.proofs.OuterLemmas.{unrolled_none}
use Rattle.mrc_mig_symbols.proofs.outer.Outer.is_empty.Goals as goal

pub returns : goal.returns
returns c =
    c.is_empty.ensures ∙ ap (λ l. length l == 0) c.as_slice.ensures.value
    ∙ sym (unrolled_none c.self.inside.runs.items) ∙ ap (λ l. length l == 0) c.self.view_is
