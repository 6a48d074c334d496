use Rattle.std.proofs.Common.{ℕ, ◌∙◌, ap, Bool}
use Rattle.std.proofs.Math.Path.{fun_ext}
use Rattle.std.specs.Ordering.{nat_cmp}
use Rattle.std.specs.BTreeSet.{contains}
use Rattle.mrc_base.specs.declared.Fact.{Fact}
use Rattle.mrc_facts.specs.Sets.{has}
use Rattle.mrc_answer.specs.LeakyLines.{is_forbidden, all_leaky}
use Rattle.mrc_answer.proofs.leaky_lines.leaky_lines.Goals as goal

-- what is forbidden is the set of what the lines forbid, and what is broken are their numbers
pub returns : goal.returns
returns c =
    c.in_ok-leaky.ensures
    ∙ ap (λ (set : Fact → Bool). all_leaky (has c.args.facts.now) set
    (contains nat_cmp c.in_ok-broken.broken) c.args.lines.now)
    (fun_ext c.in_ok-forbidden.ensures)
    ∙ ap (λ (broken : ℕ → Bool). all_leaky (has c.args.facts.now)
    (is_forbidden c.args.lines.now) broken c.args.lines.now)
    (fun_ext c.in_ok-broken.ensures)
