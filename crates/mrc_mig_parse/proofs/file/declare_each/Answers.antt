use Rattle.std.proofs.Common.{sym, ◌∙◌}
use Rattle.mrc_mig_parse.proofs.FileLemmas.{declares_on, declares_twice}
use Rattle.mrc_mig_parse.proofs.file.declare_each.Goals as goal

pub returns-then-is_declared-clause-exact : goal.returns-then-is_declared-clause-exact
returns-then-is_declared-clause-exact c = declares_twice _ c.args.table.now c.loop-name.name-index _ _
    c.loop-name-test.true (sym c.is_declared.ensures ∙ c.if-is_declared.true) c.loop-name.invariant

pub loop-name-preserved : goal.loop-name-preserved
loop-name-preserved c = declares_on _ _ c.args.table.now c.loop-name.name-index _ _
    c.loop-name-test.true (sym c.is_declared.ensures ∙ c.if-is_declared.false)
    c.in_ok-declare.ensures.ok c.loop-name.invariant
