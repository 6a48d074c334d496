use Rattle.std.proofs.Common.{◌≡◌, IfErr, sym, subst, take}
use Rattle.std.specs.Io.KnownBytes.{Appends}
use Rattle.mrc_report.specs.Journal.{journal_text}
use Rattle.mrc_report.specs.Output.{written}
use Rattle.mrc_report.proofs.serving.Ran.print.Goals as goal

-- what went out are the first bytes of what is printed of the journal
pub returns-clause-cut : goal.returns-clause-cut
returns-clause-cut g c =
    let shown : c.args.self.now
    ≡ journal_text c.wired-wired.result.now c.events.result.now c.live_ports-ports.result =
    rw (
      c.wired-wired.ensures.exact,
      c.confined.ensures,
      c.events.ensures,
      c.live_ports-ports.ensures,
      c.world.ensures.exact,
    ) (sym c.self.view_is) in
    subst (λ text. IfErr c.print_journal.result (λ fault.
    Appends (g.S.Sink.contents c.args.sink.now) (g.S.Sink.contents c.print_journal.new.sink)
    (take (written fault) text))) (sym shown) c.print_journal.ensures.cut
