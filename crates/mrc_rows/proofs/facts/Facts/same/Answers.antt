use Rattle.std.proofs.Common.{List, subst}
use Rattle.std.specs.Prelude.{IsTrue}
use Rattle.mrc_base.specs.declared.Fact.{Fact}
use Rattle.mrc_facts.specs.Sets.{has}
use Rattle.mrc_rows.proofs.Wholes.{same_lists}
use Rattle.mrc_rows.proofs.facts.Facts.same.Goals as goal

pub returns-then-has_all : goal.returns-then-has_all
returns-then-has_all c = (
  λ h. same_lists c.args.self.now c.args.other.now c.has_all-then-has_all.ensures.kept
      c.has_all.ensures.kept (c.has_all-then-has_all.ensures.exact.0 h)
      (c.has_all.ensures.exact.0 c.if-has_all.true),
  λ e. c.has_all-then-has_all.ensures.exact.1 (λ g there. subst (λ (fs : List Fact).
      IsTrue (has fs g)) e there),
)
