use Rattle.std.proofs.Common.{◌≡◌, ap, length, rules}
use Rattle.mrc_check.specs.Verdict.{Case}
use Rattle.mrc_confine.specs.Guards.{wiring_in}
use Rattle.mrc_model.specs.Map.{len}
use Rattle.mrc_report.specs.Journal.{journal_text}
use Rattle.mrc_report.proofs.JournalLaws.{is_live}
use Rattle.mrc_report.proofs.serving.whole.Goals as goal

-- what is printed is the journal of the server
pub returns-in-Ok-clause-served : goal.returns-in-Ok-clause-served
returns-in-Ok-clause-served g c =
    let live = c.args.live in
    let seats = c.args.seats.items in
    let done = c.in-Ok.ensures in
    let journal = c.in-Ok.journal in
    let world = c.in-Ok.guarded.world in
    let many : length seats ≡ (wiring_in live).tasks = search rules in
    let shown = ap (λ (k : Case). journal_text k.claim.table journal (len world.store.ports))
    done.confined in
    is_live live c.args.script.now seats journal world _ done.run done.parts done.owners
    done.apart c.requires.said many shown
