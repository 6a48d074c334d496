use Rattle.std.proofs.Common.{◌<◌, ◌^◌, ap, sym, ◌∙◌, subst, map}
use Rattle.std.proofs.lemmas.Result.{err_from_is_err_and}
use Rattle.mrc_model.specs.CallReceive.{reply_disp}
use Rattle.mrc_desc.specs.View.{arguments_of, message_of}
use Rattle.mrc_desc.specs.Lawful.{HeaderFits}
use Rattle.mrc_ports.specs.Parcels.{queued_of, AreCarried}
use Rattle.mrc_transit.proofs.ReceiveWalks.{reply_over, rest_over, received_whole}
use Rattle.mrc_transit.proofs.ReceiveSizes.{received_lawful}
use Rattle.mrc_transit.proofs.receiving.received.Goals as goal

pub returns-in_err-remote-clause-refused : goal.returns-in_err-remote-clause-refused
returns-in_err-remote-clause-refused c =
    let p = err_from_is_err_and c.from_residual.result c.from_residual.ensures.1 in
    rw (p.1, p.2) (reply_over c.in_err-remote.field-0.0 c.args.giving.now.space c.reply.result
    c.args.name
    c.args.receipts c.args.parcel.now c.reply.ensures c.in_err-remote.ensures.refused)

pub returns-in_err-args-clause-refused : goal.returns-in_err-args-clause-refused
returns-in_err-args-clause-refused c =
    let p = err_from_is_err_and c.from_residual-in_err-args.result
    c.from_residual-in_err-args.ensures.1 in
    rw (p.1, p.2) (rest_over c.args.giving.now.space c.give_item.new.giving.space c.reply.result
    c.in_ok-remote.remote (map queued_of c.arguments.result.now) c.args.parcel.now c.reply.ensures
    c.arguments.ensures.exact c.in_ok-remote.ensures.given c.in_err-args.field-0.0 c.args.name
    c.args.receipts c.in_err-args.ensures.refused)

pub returns-clause-given : goal.returns-clause-given
returns-clause-given c =
    received_whole c.args.giving.now.space c.give_item.new.giving.space c.reply.result
    c.in_ok-remote.remote
    (map queued_of c.arguments.result.now) c.args.parcel.now c.reply.ensures
    c.arguments.ensures.exact c.in_ok-remote.ensures.given c.give_args.new.giving.space
    (arguments_of c.in_ok-args.args) c.args.name c.args.receipts c.reply_disp.result
    c.local_disp.result c.id.result c.by_once.result c.in-Ok.message c.in_ok-args.ensures.given
    (c.reply_disp.ensures ∙ ap reply_disp (c.reply-2.ensures ∙ sym c.reply.ensures))
    c.local_disp.ensures c.by_once.ensures c.id.ensures c.in-Ok.ensures.made

pub unreachable-requires : goal.unreachable-requires
unreachable-requires c =
    let small : c.in_ok-remote.remote < 2 ^ 32 = search in
    let named : c.args.name < 2 ^ 32 = search in
    let counted : c.args.receipts < 2 ^ 32 = search in
    let header : HeaderFits (message_of (record {
      remote_disp = c.reply_disp.result;
      local_disp = c.local_disp.result;
      remote_port = c.in_ok-remote.remote;
      local_port = c.args.name;
      seqno = c.args.receipts;
      id = c.id.result;
    }) c.in_ok-args.args) = record {
      remote_disp = c.reply_disp.type_inv;
      local_disp = c.local_disp.type_inv;
      remote = small;
      local = named;
      seqno = counted;
      id = c.id.type_inv;
    } in
    let bad = c.in-Err.ensures.lawful.1 (received_lawful _ (map queued_of c.arguments.result.now)
    header (subst AreCarried (sym c.arguments.ensures.exact) c.arguments.ensures.kept)
    c.in_ok-args.ensures.other) in
    cc
