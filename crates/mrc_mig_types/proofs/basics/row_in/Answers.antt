use Rattle.std.proofs.Common.{sym, ◌∙◌}
use Rattle.mrc_mig_symbols.proofs.TableLemmas.{entry_found, entry_passed, no_entry}
use Rattle.mrc_mig_types.proofs.basics.row_in.Goals as goal

pub returns-then-eq : goal.returns-then-eq
returns-then-eq c = entry_found c.args.table.now c.loop-name.name-index _ c.args.text.now _
    c.loop-name-test.true (sym c.eq.ensures ∙ c.if-eq.true) c.loop-name.invariant

pub loop-name-preserved : goal.loop-name-preserved
loop-name-preserved c = entry_passed c.args.table.now c.loop-name.name-index _ c.args.text.now _
    c.loop-name-test.true (sym c.eq.ensures ∙ c.if-eq.false) c.loop-name.invariant

pub returns : goal.returns
returns c = no_entry c.args.table.now c.loop-name.name-index c.args.text.now _
    c.loop-name-test.false c.loop-name.invariant
