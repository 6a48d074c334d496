use Rattle.std.proofs.Common.{◌≡◌, subst, arith}
use Rattle.std.proofs.lemmas.Result.{err_from_is_err_and}
use Rattle.mrc_model.specs.Message.{Message}
use Rattle.mrc_desc.specs.declared.message.Header.{Header}
use Rattle.mrc_desc.specs.Lawful.{IsLawful}
use Rattle.mrc_desc.specs.Reading.{header_at, message_at}
use Rattle.mrc_desc.specs.View.{arguments_of, with_args}
use Rattle.mrc_desc.proofs.Steps.{seen_ok}
use Rattle.mrc_desc.proofs.Whole.{steps_of, args_fail, lawful_read, message_made}
use Rattle.mrc_desc.proofs.reading.message_at.Goals as goal

pub args_of-requires : goal.args_of-requires
args_of-requires c =
    let read = seen_ok (λ (m : Message). header_at c.args.bytes.now) (message_at c.args.bytes.now)
    c.in_ok-header.header c.in_ok-header.ensures in
    (steps_of c.args.bytes.now read.0 read.1).starts.enough

pub returns-in_err-args-clause-fault : goal.returns-in_err-args-clause-fault
returns-in_err-args-clause-fault c =
    let p = err_from_is_err_and c.from_residual-in_err-args.result
    c.from_residual-in_err-args.ensures.1 in
    let read = seen_ok (λ (m : Message). header_at c.args.bytes.now) (message_at c.args.bytes.now)
    c.in_ok-header.header c.in_ok-header.ensures in
    rw (p.1, p.2)
    (args_fail c.in_err-args.field-0.0 c.args.bytes.now
    (steps_of c.args.bytes.now read.0 read.1).starts c.in_err-args.ensures)

pub invariant_of-result : goal.invariant_of-result
invariant_of-result c =
    let read = seen_ok (λ (m : Message). header_at c.args.bytes.now) (message_at c.args.bytes.now)
    c.in_ok-header.header c.in_ok-header.ensures in
    subst (λ (h : Header). IsLawful (with_args h (arguments_of c.in_ok-args.args))) read.2
    (lawful_read c.args.bytes.now (arguments_of c.in_ok-args.args)
    (λ i. omega (arith, c.type_inv.bytes i)) (steps_of c.args.bytes.now read.0 read.1).starts
    c.in_ok-args.ensures)

pub returns-clause-fault : goal.returns-clause-fault
returns-clause-fault c =
    let read = seen_ok (λ (m : Message). header_at c.args.bytes.now) (message_at c.args.bytes.now)
    c.in_ok-header.header c.in_ok-header.ensures in
    message_made c.args.bytes.now read.0 c.in_ok-header.header (arguments_of c.in_ok-args.args)
    read.1 read.2 c.in_ok-args.ensures
