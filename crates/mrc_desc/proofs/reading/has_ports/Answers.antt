use Rattle.std.proofs.Common.{◌≡◌, ◌<◌, Bool, [], ◌∷◌, ◌++◌, length, Ok, Err, refl, sym, ap}
use Rattle.std.proofs.Common.{◌∙◌, arith}
use Rattle.std.proofs.lemmas.Result.{err_from_is_err_and}
use Rattle.mrc_base.specs.declared.memory.OrMemory.TheVariants.{Fault}
use Rattle.mrc_model.specs.Message.{any_port_arg}
use Rattle.mrc_desc.specs.Reading.{arg_with, args_of}
use Rattle.mrc_desc.proofs.Steps.{seen}
use Rattle.mrc_desc.proofs.Walks.{begins, goes_on_from, ends_from, is_done_from, any_port_after}
use Rattle.mrc_desc.proofs.reading.has_ports.Goals as goal

pub loop-rest-init : goal.loop-rest-init
loop-rest-init c = (
  omega (arith, c.split_at.ensures.back_len),
  ([], refl, begins c.args.bytes.now c.split_at.result.1.now c.split_at.ensures.back),
)

pub returns-in_err-desc : goal.returns-in_err-desc
returns-in_err-desc c =
    let p = err_from_is_err_and c.from_residual.result c.from_residual.ensures.1 in
    let some : 0 < length c.loop-rest.rest.now = grind arith in
    let fault = c.in_err-desc.field-0.0 in
    rw (p.1, p.2)
    (sym (seen any_port_arg (args_of c.args.bytes.now) (Err fault)
    (ends_from (Fault fault) c.loop-rest.invariant.1.0 (length c.args.bytes.now)
    c.loop-rest.rest.now _ some (sym c.in_err-desc.ensures.fault) c.loop-rest.invariant.1.2)))

pub loop-rest-preserved : goal.loop-rest-preserved
loop-rest-preserved c =
    let front = c.loop-rest.invariant.1.0 in
    let argument = arg_with c.in_ok-desc.desc c.in_ok-desc._items.now in
    let some : 0 < length c.loop-rest.rest.now = grind arith in (
      grind (arith, c.in_ok-desc.ensures.within, c.loop-rest.invariant.0),
      (
        front ++ argument ∷ [],
        any_port_after front c.in_ok-desc.desc c.in_ok-desc._items.now c.loop-rest.ports
            c.is_port_number-ports.result c.loop-rest.invariant.1.1
            c.is_port_number-ports.ensures,
        goes_on_from front (length c.args.bytes.now) c.loop-rest.rest.now argument
            c.in_ok-desc.after.now _ some c.in_ok-desc.ensures.within
            (sym c.in_ok-desc.ensures.fault) c.loop-rest.invariant.1.2,
      ),
    )

pub returns : goal.returns
returns c =
    let front = c.loop-rest.invariant.1.0 in
    let none : length c.loop-rest.rest.now ≡ 0 = grind arith in
    ap (λ (x : Bool). Ok x) (sym c.loop-rest.invariant.1.1)
    ∙ sym (seen any_port_arg (args_of c.args.bytes.now) (Ok front)
    (is_done_from front (length c.args.bytes.now) c.loop-rest.rest.now _ none
    c.loop-rest.invariant.1.2))
