use Rattle.std.specs.Str.{str_to_ascii_lowercase}
use Rattle.mrc_mig_symbols.proofs.TableLemmas.{entry_found, entry_passed, no_entry, lower_at}
use Rattle.mrc_mig_symbols.proofs.TableLemmas.{lower_same, lower_differs}
use Rattle.mrc_mig_rows.proofs.kinds.kind_in.Goals as goal

pub returns-then-eq_ignore_ascii_case : goal.returns-then-eq_ignore_ascii_case
returns-then-eq_ignore_ascii_case c =
    let low = lower_at c.args.table.now c.loop-name.name-index _ c.loop-name-test.true
    c.loop-name.invariant.0 in
    entry_found c.args.table.now c.loop-name.name-index _
    (str_to_ascii_lowercase c.args.text.now) _ c.loop-name-test.true
    (lower_same c.args.text.now _ low.0
    (c.eq_ignore_ascii_case.ensures.test.0 c.if-eq_ignore_ascii_case.true))
    c.loop-name.invariant.1

pub loop-name-preserved : goal.loop-name-preserved
loop-name-preserved c =
    let low = lower_at c.args.table.now c.loop-name.name-index _ c.loop-name-test.true
    c.loop-name.invariant.0 in (
      low.1,
      entry_passed c.args.table.now c.loop-name.name-index _
          (str_to_ascii_lowercase c.args.text.now) _ c.loop-name-test.true
          (lower_differs c.args.text.now _ low.0
          (λ e. let t = c.eq_ignore_ascii_case.ensures.test.1 e in let f =
          c.if-eq_ignore_ascii_case.false in cc)) c.loop-name.invariant.1,
    )

pub returns : goal.returns
returns c = no_entry c.args.table.now c.loop-name.name-index
    (str_to_ascii_lowercase c.args.text.now) _ c.loop-name-test.false
    c.loop-name.invariant.1
