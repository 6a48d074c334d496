-- The edition of a wiring is that by which it is read.
use Rattle.std.specs.Prelude.{Ok}
use Rattle.mrc_base.proofs.Steps.{gives_same}
use Rattle.mrc_wiring_text.specs.declared.reading.TextKind.TheVariants as kinds
use Rattle.mrc_wiring_text.specs.Wiring.{wiring_says, wiring_edition}
use Rattle.mrc_wiring_text.proofs.TextLaws.{edition_read}
use Rattle.mrc_wiring_text.proofs.wiring.wiring_edition.Goals as goal

pub returns-clause-only : goal.returns-clause-only
returns-clause-only c =
    λ says is. gives_same (λ edition. edition) c.edition_of.result
    (wiring_edition c.args.bytes.now) (Ok is.edition)
    (edition_read kinds.Wiring wiring_says c.args.bytes.now says is) c.edition_of.ensures.fault
