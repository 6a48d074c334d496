use Rattle.std.proofs.Common.{◌≡◌, ◌∙◌, ◌+◌, ◌++◌, [], ap, arith, drop, length, rules, string_bytes}
use Rattle.std.proofs.Common.{sym}
use Rattle.std.proofs.lemmas.Result.{err_from_is_err_and}
use Rattle.mrc_report.specs.Printing.{end_line}
use Rattle.mrc_report.specs.Replay.{replay_from, replay_text}
use Rattle.mrc_report.proofs.OutputLaws.{ends, ends_cut, ends_within, few_out, first_out, goes_on}
use Rattle.mrc_report.proofs.OutputLaws.{stops}
use Rattle.mrc_report.proofs.ReplayLaws.{told_end, told_next}
use Rattle.mrc_report.proofs.replaying.replay_in.Goals as goal

pub returns-in_err-print-clause-cut : goal.returns-in_err-print-clause-cut
returns-in_err-print-clause-cut g c =
    let p = err_from_is_err_and c.from_residual.result c.from_residual.ensures.1 in
    let all = c.lines-lines.result.now in
    let n = c.loop-number.number in
    let later = replay_from c.args.wired.now (n + 1) c.event_of.new.world (drop (n + 1) all) in
    let line = c.as_str.ensures.value ∙ c.in-Ok.ensures.text in
    let part =
    stops _ _ _ 0 _ _ (replay_text c.args.wired.now all) (string_bytes c.loop-number.out.kept)
    c.as_str.result.now _ later c.loop-number.invariant.on
    (told_next c.args.wired.now all n c.index-lines-number.result c.loop-number.world
    c.loop-number-test.true c.index-lines-number.is
    ∙ (λ i. sym line i ++ replay_from c.args.wired.now (n + 1)
    (sym c.in-Ok.ensures.world i) (drop (n + 1) all)))
    c.in_err-print.ensures.err in
    rw (p.1, p.2, sym c.lines-lines.ensures) (first_out _ _ _ _ part)

pub returns-in_err-print-clause-within : goal.returns-in_err-print-clause-within
returns-in_err-print-clause-within g c =
    let p = err_from_is_err_and c.from_residual.result c.from_residual.ensures.1 in
    let all = c.lines-lines.result.now in
    let n = c.loop-number.number in
    let later = replay_from c.args.wired.now (n + 1) c.event_of.new.world (drop (n + 1) all) in
    let line = c.as_str.ensures.value ∙ c.in-Ok.ensures.text in
    let part =
    stops _ _ _ 0 _ _ (replay_text c.args.wired.now all) (string_bytes c.loop-number.out.kept)
    c.as_str.result.now _ later c.loop-number.invariant.on
    (told_next c.args.wired.now all n c.index-lines-number.result c.loop-number.world
    c.loop-number-test.true c.index-lines-number.is
    ∙ (λ i. sym line i ++ replay_from c.args.wired.now (n + 1)
    (sym c.in-Ok.ensures.world i) (drop (n + 1) all)))
    c.in_err-print.ensures.err in
    rw (p.1, p.2, sym c.lines-lines.ensures) (few_out _ _ _ _ part)

pub loop-number-preserved : goal.loop-number-preserved
loop-number-preserved g c =
    let all = c.lines-lines.result.now in
    let n = c.loop-number.number in
    let later = replay_from c.args.wired.now (n + 1) c.event_of.new.world (drop (n + 1) all) in
    let line = c.as_str.ensures.value ∙ c.in-Ok.ensures.text in
    record {
      on = goes_on _ _ _ 0 _ _ (replay_text c.args.wired.now all)
          (string_bytes c.loop-number.out.kept) c.as_str.result.now _ later _
          c.loop-number.invariant.on
          (told_next c.args.wired.now all n c.index-lines-number.result c.loop-number.world
          c.loop-number-test.true c.index-lines-number.is
          ∙ (λ i. sym line i ++ replay_from c.args.wired.now (n + 1)
          (sym c.in-Ok.ensures.world i) (drop (n + 1) all)))
          c.in_ok-print.ensures.ok;
      few = omega (arith, c.loop-number-test.true);
      room = search rules;
      passed = c.in_ok-print.ensures.passed ∙ c.loop-number.invariant.passed;
    }

pub returns-in_err-print-2-clause-cut : goal.returns-in_err-print-2-clause-cut
returns-in_err-print-2-clause-cut g c =
    let p = err_from_is_err_and c.from_residual-in_err-print-2.result
    c.from_residual-in_err-print-2.ensures.1 in
    let all = c.lines-lines.result.now in
    let line = c.as_str-2.ensures.value ∙ c.in-Ok-end_line.ensures
    ∙ ap (end_line (length all)) c.live_ports.ensures in
    let part =
    stops _ _ _ 0 _ _ (replay_text c.args.wired.now all) (string_bytes c.loop-number.out.kept)
    c.as_str-2.result.now _ [] c.loop-number.invariant.on
    (told_end c.args.wired.now all c.loop-number.number c.loop-number.world
    c.loop-number.invariant.few c.loop-number-test.false
    ∙ ap (λ l. l ++ []) (sym line))
    c.in_err-print-2.ensures.err in
    rw (p.1, p.2, sym c.lines-lines.ensures) (first_out _ _ _ _ part)

pub returns-in_err-print-2-clause-within : goal.returns-in_err-print-2-clause-within
returns-in_err-print-2-clause-within g c =
    let p = err_from_is_err_and c.from_residual-in_err-print-2.result
    c.from_residual-in_err-print-2.ensures.1 in
    let all = c.lines-lines.result.now in
    let line = c.as_str-2.ensures.value ∙ c.in-Ok-end_line.ensures
    ∙ ap (end_line (length all)) c.live_ports.ensures in
    let part =
    stops _ _ _ 0 _ _ (replay_text c.args.wired.now all) (string_bytes c.loop-number.out.kept)
    c.as_str-2.result.now _ [] c.loop-number.invariant.on
    (told_end c.args.wired.now all c.loop-number.number c.loop-number.world
    c.loop-number.invariant.few c.loop-number-test.false
    ∙ ap (λ l. l ++ []) (sym line))
    c.in_err-print-2.ensures.err in
    rw (p.1, p.2, sym c.lines-lines.ensures) (few_out _ _ _ _ part)

pub returns-clause-whole : goal.returns-clause-whole
returns-clause-whole g c =
    let all = c.lines-lines.result.now in
    let line = c.as_str-2.ensures.value ∙ c.in-Ok-end_line.ensures
    ∙ ap (end_line (length all)) c.live_ports.ensures in
    let on =
    goes_on _ _ _ 0 _ _ (replay_text c.args.wired.now all) (string_bytes c.loop-number.out.kept)
    c.as_str-2.result.now _ [] _ c.loop-number.invariant.on
    (told_end c.args.wired.now all c.loop-number.number c.loop-number.world
    c.loop-number.invariant.few c.loop-number-test.false
    ∙ ap (λ l. l ++ []) (sym line))
    c.in_ok-print-2.ensures.ok in
    rw (sym c.lines-lines.ensures)
    (ends c.pass_on.result _ _ _ _ _ (replay_text c.args.wired.now all)
    (string_bytes c.print-2.new.out.kept) on c.pass_on.ensures.ok)

pub returns-clause-cut : goal.returns-clause-cut
returns-clause-cut g c =
    let all = c.lines-lines.result.now in
    let line = c.as_str-2.ensures.value ∙ c.in-Ok-end_line.ensures
    ∙ ap (end_line (length all)) c.live_ports.ensures in
    let on =
    goes_on _ _ _ 0 _ _ (replay_text c.args.wired.now all) (string_bytes c.loop-number.out.kept)
    c.as_str-2.result.now _ [] _ c.loop-number.invariant.on
    (told_end c.args.wired.now all c.loop-number.number c.loop-number.world
    c.loop-number.invariant.few c.loop-number-test.false
    ∙ ap (λ l. l ++ []) (sym line))
    c.in_ok-print-2.ensures.ok in
    rw (sym c.lines-lines.ensures)
    (ends_cut c.pass_on.result _ _ _ _ (replay_text c.args.wired.now all)
    (string_bytes c.print-2.new.out.kept) on c.pass_on.ensures.err)

pub returns-clause-within : goal.returns-clause-within
returns-clause-within g c =
    let all = c.lines-lines.result.now in
    let line = c.as_str-2.ensures.value ∙ c.in-Ok-end_line.ensures
    ∙ ap (end_line (length all)) c.live_ports.ensures in
    let on =
    goes_on _ _ _ 0 _ _ (replay_text c.args.wired.now all) (string_bytes c.loop-number.out.kept)
    c.as_str-2.result.now _ [] _ c.loop-number.invariant.on
    (told_end c.args.wired.now all c.loop-number.number c.loop-number.world
    c.loop-number.invariant.few c.loop-number-test.false
    ∙ ap (λ l. l ++ []) (sym line))
    c.in_ok-print-2.ensures.ok in
    rw (sym c.lines-lines.ensures)
    (ends_within c.pass_on.result _ _ _ _ (replay_text c.args.wired.now all)
    (string_bytes c.print-2.new.out.kept) on c.pass_on.ensures.err)
