use Rattle.std.proofs.Common.{sym, ◌∙◌}
use Rattle.mrc_wiring.specs.Table.{wiring_of}
use Rattle.mrc_transit.proofs.AdmitLaws.{reply_unfit, reply_unnamed, reply_named}
use Rattle.mrc_transit.proofs.sending.judge_reply.Goals as goal

pub returns-then-not-fits_item-clause-refused : goal.returns-then-not-fits_item-clause-refused
returns-then-not-fits_item-clause-refused c =
    reply_unfit (wiring_of c.args.wired.now) c.args.store.now c.args.own c.args.to c.args.id
    c.args.item.now (sym c.fits_item.ensures ∙ c.if-not-fits_item.true)

pub returns-then-not-may_item-clause-refused : goal.returns-then-not-may_item-clause-refused
returns-then-not-may_item-clause-refused c =
    reply_unnamed (wiring_of c.args.wired.now) c.args.store.now c.args.own c.args.to c.args.id
    c.args.item.now (sym c.fits_item.ensures ∙ c.if-not-fits_item.false)
    (sym c.may_item.ensures ∙ c.if-not-may_item.true)

pub returns-clause-ok : goal.returns-clause-ok
returns-clause-ok c =
    reply_named (wiring_of c.args.wired.now) c.args.store.now c.args.own c.args.to c.args.id
    c.args.item.now (sym c.fits_item.ensures ∙ c.if-not-fits_item.false)
    (sym c.may_item.ensures ∙ c.if-not-may_item.false)
