use Rattle.std.proofs.Common.{◌≡◌, ◌∙◌, ap, length, map, rules, subst}
use Rattle.std.specs.List.Sorted.{IsNonDecreasing}
use Rattle.std.specs.Prelude.{IfSome, IsPermutation}
use Rattle.mrc_check.specs.Verdict.{Case}
use Rattle.mrc_confine.specs.Guards.{Guard, wiring_in}
use Rattle.mrc_live.specs.Runs.{event_of}
use Rattle.mrc_model.specs.Map.{len}
use Rattle.mrc_report.specs.Halts.{next_numbers}
use Rattle.mrc_report.specs.Journal.{journal_text}
use Rattle.mrc_report.proofs.JournalLaws.{AreInVain, is_halted}
use Rattle.mrc_report.proofs.serving.halted.Goals as goal

-- what is printed is the journal of the server, with the lines that wait in the world after it
pub returns-in-Some-clause-served : goal.returns-in-Some-clause-served
returns-in-Some-clause-served g c =
    let live = c.args.live in
    let lines = c.args.script.now in
    let seats = c.args.seats.items in
    let done = c.in-Ok.ensures in
    let journal = c.in-Ok.journal in
    let guard = c.in-Ok.guarded in
    let told = c.in-Some.lines.items in
    let events = c.events.result.now in
    let many : length seats ≡ (wiring_in live).tasks = search rules in
    let kept : c.waiting_lines.new.guarded ≡ guard =
    subst (λ some. IfSome some (λ _. c.waiting_lines.new.guarded ≡ guard)) c.in-Some.is
    c.in-Ok-waiting_lines.ensures.kept in
    let shown =
    ap (λ (x : Guard). journal_text x.confined.claim.table journal (len x.world.store.ports)) kept
    ∙ ap (λ (k : Case). journal_text k.claim.table journal (len guard.world.store.ports))
    done.confined in
    let vain : AreInVain guard.confined guard.world lines events =
    subst (λ some. IfSome some (λ _. AreInVain guard.confined guard.world lines events))
    c.in-Some.is c.in-Ok-waiting_lines.ensures.halted in
    let numbers : IsPermutation
    (next_numbers lines (map event_of events) (wiring_in guard.confined).tasks) told =
    subst (λ some. IfSome some (λ waits. IsPermutation
    (next_numbers lines (map event_of events) (wiring_in guard.confined).tasks) waits.items))
    c.in-Some.is c.in-Ok-waiting_lines.ensures.lines in
    is_halted live lines seats journal guard.world told _ done.run done.parts done.owners
    done.apart c.requires.said many shown
    (subst (λ (k : Case). AreInVain k guard.world lines journal) done.confined
    (subst (AreInVain guard.confined guard.world lines) c.events.ensures vain))
    (subst (λ (k : Case). IsPermutation
    (next_numbers lines (map event_of journal) (wiring_in k).tasks) told) done.confined
    (subst (λ es. IsPermutation
    (next_numbers lines (map event_of es) (wiring_in guard.confined).tasks) told)
    c.events.ensures numbers))
    (subst (λ some. IfSome some (λ waits. IsNonDecreasing waits.items)) c.in-Some.is
    c.in-Ok-waiting_lines.ensures.ascending)
