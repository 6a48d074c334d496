use Rattle.std.proofs.Common.{◌∙◌, ◌+◌, ◌++◌, [], ap, drop, length, map, rules, string_bytes}
use Rattle.std.proofs.Common.{sym}
use Rattle.std.proofs.lemmas.Result.{err_from_is_err_and}
use Rattle.mrc_live.specs.Runs.{event_of}
use Rattle.mrc_report.specs.Journal.{journal_text}
use Rattle.mrc_report.specs.Printing.{end_line}
use Rattle.mrc_report.specs.Replay.{event_lines}
use Rattle.mrc_report.proofs.JournalLaws.{journal_end, journal_next}
use Rattle.mrc_report.proofs.OutputLaws.{ends, ends_cut, ends_within, few_out, first_out, goes_on}
use Rattle.mrc_report.proofs.OutputLaws.{stops}
use Rattle.mrc_report.proofs.serving.print_journal.Goals as goal

pub returns-in_err-print-clause-cut : goal.returns-in_err-print-clause-cut
returns-in_err-print-clause-cut g c =
    let p = err_from_is_err_and c.from_residual.result c.from_residual.ensures.1 in
    let table = c.args.wired.now in
    let all = c.args.events.now in
    let n = c.loop-number.number in
    let end = end_line (length all) c.args.ports in
    let later = event_lines table (n + 1) (map event_of (drop (n + 1) all)) ++ end in
    let line = c.as_str.ensures.value ∙ c.in-Ok.ensures in
    let part =
    stops _ _ _ 0 _ _ (journal_text table all c.args.ports) (string_bytes c.loop-number.out.kept)
    c.as_str.result.now _ later c.loop-number.invariant.on
    (journal_next table all n c.index-events-number.result end c.loop-number-test.true
    c.index-events-number.is ∙ ap (λ l. l ++ later) (sym line))
    c.in_err-print.ensures.err in
    rw (p.1, p.2) (first_out _ _ _ _ part)

pub returns-in_err-print-clause-within : goal.returns-in_err-print-clause-within
returns-in_err-print-clause-within g c =
    let p = err_from_is_err_and c.from_residual.result c.from_residual.ensures.1 in
    let table = c.args.wired.now in
    let all = c.args.events.now in
    let n = c.loop-number.number in
    let end = end_line (length all) c.args.ports in
    let later = event_lines table (n + 1) (map event_of (drop (n + 1) all)) ++ end in
    let line = c.as_str.ensures.value ∙ c.in-Ok.ensures in
    let part =
    stops _ _ _ 0 _ _ (journal_text table all c.args.ports) (string_bytes c.loop-number.out.kept)
    c.as_str.result.now _ later c.loop-number.invariant.on
    (journal_next table all n c.index-events-number.result end c.loop-number-test.true
    c.index-events-number.is ∙ ap (λ l. l ++ later) (sym line))
    c.in_err-print.ensures.err in
    rw (p.1, p.2) (few_out _ _ _ _ part)

pub loop-number-preserved : goal.loop-number-preserved
loop-number-preserved g c =
    let table = c.args.wired.now in
    let all = c.args.events.now in
    let n = c.loop-number.number in
    let end = end_line (length all) c.args.ports in
    let later = event_lines table (n + 1) (map event_of (drop (n + 1) all)) ++ end in
    let line = c.as_str.ensures.value ∙ c.in-Ok.ensures in
    record {
      on = goes_on _ _ _ 0 _ _ (journal_text table all c.args.ports)
          (string_bytes c.loop-number.out.kept) c.as_str.result.now _ later _
          c.loop-number.invariant.on
          (journal_next table all n c.index-events-number.result end c.loop-number-test.true
          c.index-events-number.is ∙ ap (λ l. l ++ later) (sym line))
          c.in_ok-print.ensures.ok;
      room = search rules;
      passed = c.in_ok-print.ensures.passed ∙ c.loop-number.invariant.passed;
    }

pub returns-in_err-print-2-clause-cut : goal.returns-in_err-print-2-clause-cut
returns-in_err-print-2-clause-cut g c =
    let p = err_from_is_err_and c.from_residual-in_err-print-2.result
    c.from_residual-in_err-print-2.ensures.1 in
    let table = c.args.wired.now in
    let all = c.args.events.now in
    let end = end_line (length all) c.args.ports in
    let line = c.as_str-2.ensures.value ∙ c.in-Ok-end_line.ensures in
    let part =
    stops _ _ _ 0 _ _ (journal_text table all c.args.ports) (string_bytes c.loop-number.out.kept)
    c.as_str-2.result.now _ [] c.loop-number.invariant.on
    (journal_end table all c.loop-number.number end c.loop-number-test.false
    ∙ ap (λ l. l ++ []) (sym line))
    c.in_err-print-2.ensures.err in
    rw (p.1, p.2) (first_out _ _ _ _ part)

pub returns-in_err-print-2-clause-within : goal.returns-in_err-print-2-clause-within
returns-in_err-print-2-clause-within g c =
    let p = err_from_is_err_and c.from_residual-in_err-print-2.result
    c.from_residual-in_err-print-2.ensures.1 in
    let table = c.args.wired.now in
    let all = c.args.events.now in
    let end = end_line (length all) c.args.ports in
    let line = c.as_str-2.ensures.value ∙ c.in-Ok-end_line.ensures in
    let part =
    stops _ _ _ 0 _ _ (journal_text table all c.args.ports) (string_bytes c.loop-number.out.kept)
    c.as_str-2.result.now _ [] c.loop-number.invariant.on
    (journal_end table all c.loop-number.number end c.loop-number-test.false
    ∙ ap (λ l. l ++ []) (sym line))
    c.in_err-print-2.ensures.err in
    rw (p.1, p.2) (few_out _ _ _ _ part)

pub returns-clause-whole : goal.returns-clause-whole
returns-clause-whole g c =
    let table = c.args.wired.now in
    let all = c.args.events.now in
    let end = end_line (length all) c.args.ports in
    let line = c.as_str-2.ensures.value ∙ c.in-Ok-end_line.ensures in
    let on =
    goes_on _ _ _ 0 _ _ (journal_text table all c.args.ports)
    (string_bytes c.loop-number.out.kept) c.as_str-2.result.now _ [] _ c.loop-number.invariant.on
    (journal_end table all c.loop-number.number end c.loop-number-test.false
    ∙ ap (λ l. l ++ []) (sym line))
    c.in_ok-print-2.ensures.ok in
    ends c.pass_on.result _ _ _ _ _ (journal_text table all c.args.ports)
    (string_bytes c.print-2.new.out.kept) on c.pass_on.ensures.ok

pub returns-clause-cut : goal.returns-clause-cut
returns-clause-cut g c =
    let table = c.args.wired.now in
    let all = c.args.events.now in
    let end = end_line (length all) c.args.ports in
    let line = c.as_str-2.ensures.value ∙ c.in-Ok-end_line.ensures in
    let on =
    goes_on _ _ _ 0 _ _ (journal_text table all c.args.ports)
    (string_bytes c.loop-number.out.kept) c.as_str-2.result.now _ [] _ c.loop-number.invariant.on
    (journal_end table all c.loop-number.number end c.loop-number-test.false
    ∙ ap (λ l. l ++ []) (sym line))
    c.in_ok-print-2.ensures.ok in
    ends_cut c.pass_on.result _ _ _ _ (journal_text table all c.args.ports)
    (string_bytes c.print-2.new.out.kept) on c.pass_on.ensures.err

pub returns-clause-within : goal.returns-clause-within
returns-clause-within g c =
    let table = c.args.wired.now in
    let all = c.args.events.now in
    let end = end_line (length all) c.args.ports in
    let line = c.as_str-2.ensures.value ∙ c.in-Ok-end_line.ensures in
    let on =
    goes_on _ _ _ 0 _ _ (journal_text table all c.args.ports)
    (string_bytes c.loop-number.out.kept) c.as_str-2.result.now _ [] _ c.loop-number.invariant.on
    (journal_end table all c.loop-number.number end c.loop-number-test.false
    ∙ ap (λ l. l ++ []) (sym line))
    c.in_ok-print-2.ensures.ok in
    ends_within c.pass_on.result _ _ _ _ (journal_text table all c.args.ports)
    (string_bytes c.print-2.new.out.kept) on c.pass_on.ensures.err
