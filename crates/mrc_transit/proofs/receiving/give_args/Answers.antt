use Rattle.std.proofs.Common.{◌+◌, ap, ◌∙◌, drop, map}
use Rattle.std.proofs.lemmas.Result.{err_from_is_err_and}
use Rattle.mrc_desc.specs.View.{argument_of, arguments_of}
use Rattle.mrc_desc.proofs.Walks.{item_first}
use Rattle.mrc_ports.specs.Parcels.{queued_of}
use Rattle.mrc_transit.proofs.ReceiveWalks.{args_next, args_over, others_next}
use Rattle.mrc_transit.proofs.ReceiveWalks.{arguments_pushed}
use Rattle.mrc_transit.proofs.receiving.give_args.Goals as goal

pub returns-in_err-give_arg-clause-refused : goal.returns-in_err-give_arg-clause-refused
returns-in_err-give_arg-clause-refused c =
    let p = err_from_is_err_and c.from_residual-in_err-give_arg.result
    c.from_residual-in_err-give_arg.ensures.1 in
    let args = c.args.arguments.now in
    let i = c.loop-argument.argument-index in
    let first = item_first args i c.argument-item.result c.loop-argument-test.true
    c.argument-item.is in
    rw (p.1, p.2) (args_over c.args.giving.now.space c.loop-argument.giving.space (map queued_of
    args)
    (map queued_of (drop i args)) (map queued_of (drop (i + 1) args))
    (queued_of c.argument-item.result) (arguments_of c.loop-argument.args.items)
    c.in_err-give_arg.field-0.0 c.loop-argument.invariant.0 (ap (map queued_of) first)
    c.in_err-give_arg.ensures.refused)

pub loop-argument-preserved : goal.loop-argument-preserved
loop-argument-preserved c =
    let args = c.args.arguments.now in
    let i = c.loop-argument.argument-index in
    let first = item_first args i c.argument-item.result c.loop-argument-test.true
    c.argument-item.is in (
      args_next c.args.giving.now.space c.loop-argument.giving.space c.give_arg.new.giving.space
          (map queued_of args)
          (map queued_of (drop i args)) (map queued_of (drop (i + 1) args))
          (queued_of c.argument-item.result) (arguments_of c.loop-argument.args.items)
          (arguments_of c.push.new.self.items) (argument_of c.in_ok-give_arg.field-0)
          c.loop-argument.invariant.0 (ap (map queued_of) first) c.in_ok-give_arg.ensures.given
          (arguments_pushed c.loop-argument.args.items c.push.new.self.items
          c.in_ok-give_arg.field-0 c.in_ok-push.ensures.items),
      others_next args i c.argument-item.result c.loop-argument.args.items c.push.new.self.items
          c.in_ok-give_arg.field-0 c.loop-argument.invariant.1 c.loop-argument-test.true
          c.argument-item.is c.in_ok-give_arg.ensures.other c.in_ok-push.ensures.items,
      c.give_arg.ensures.base ∙ c.loop-argument.invariant.2,
    )
