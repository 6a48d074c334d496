-- What lines forbid, one line more.
use Rattle.std.proofs.Common.{◌≡◌, ℕ, ◌+◌, ◌<◌, Bool, List, length}
use Rattle.std.proofs.Common.{take, get_or, sym, ap, ◌∙◌}
use Rattle.std.specs.Prelude.{◌||◌}
use Rattle.std.proofs.lemmas.List.Folds.{list_any_more}
use Rattle.std.proofs.Math.Bool.{or_comm}
use Rattle.mrc_base.specs.declared.Fact.{Fact}
use Rattle.mrc_facts.specs.Order.{is_same}
use Rattle.mrc_wiring.specs.declared.claim.ForbiddenLine.{ForbiddenLine}
use Rattle.mrc_why.specs.Broken.{forbidden_fact}
use Rattle.mrc_answer.specs.LeakyLines.{forbids, is_forbidden}

-- the set has what one line more forbids
pub forbidden_more : (lines : List ForbiddenLine) (i : ℕ) (line : ForbiddenLine)
    → i < length lines
    → line ≡ get_or lines i line
    → (before after : Fact → Bool)
    → ((g : Fact) → before g ≡ is_forbidden (take i lines) g)
    → ((g : Fact) → after g ≡ (is_same g (forbidden_fact line) || before g))
    → (g : Fact) → after g ≡ is_forbidden (take (i + 1) lines) g
forbidden_more lines i line low at before after so_far told g =
    told g ∙ (ap (λ b. forbids g line || b) (so_far g)
    ∙ (or_comm (forbids g line) (is_forbidden (take i lines) g)
    ∙ (ap (λ l. is_forbidden (take i lines) g || forbids g l) at
    ∙ sym (list_any_more (forbids g) lines i line low))))
