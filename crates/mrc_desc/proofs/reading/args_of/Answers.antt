use Rattle.std.proofs.Common.{◌≡◌, ◌++◌, ◌∷◌, [], ◌<◌, length, sym, ap, ◌∙◌, arith}
use Rattle.std.proofs.lemmas.Result.{err_from_is_err_and}
use Rattle.std.proofs.lemmas.List.{map_push}
use Rattle.mrc_base.specs.declared.memory.OrMemory.TheVariants.{Fault}
use Rattle.mrc_model.specs.Message.{Arg}
use Rattle.mrc_desc.specs.Reading.{arg_with}
use Rattle.mrc_desc.specs.View.{arguments_of}
use Rattle.mrc_desc.proofs.Walks.{begins, goes_on_from, ends_from, is_done_from}
use Rattle.mrc_desc.proofs.reading.args_of.Goals as goal

pub loop-rest-init : goal.loop-rest-init
loop-rest-init c = (
  omega (arith, c.split_at.ensures.back_len),
  rw c.new-args.ensures.items
      (begins c.args.bytes.now c.split_at.result.1.now c.split_at.ensures.back),
)

pub returns-in_err-desc : goal.returns-in_err-desc
returns-in_err-desc c =
    let p = err_from_is_err_and c.from_residual.result c.from_residual.ensures.1 in
    let some : 0 < length c.loop-rest.rest.now = grind arith in
    rw (p.1, p.2)
    (ends_from (Fault c.in_err-desc.field-0.0) (arguments_of c.loop-rest.args.items)
    (length c.args.bytes.now) c.loop-rest.rest.now _ some (sym c.in_err-desc.ensures.fault)
    c.loop-rest.invariant.1)

pub loop-rest-preserved : goal.loop-rest-preserved
loop-rest-preserved c =
    let argument = arg_with c.in_ok-desc.desc c.in_ok-desc.items.now in
    let e : arguments_of c.push.new.self.items ≡ arguments_of c.loop-rest.args.items
    ++ argument ∷ [] =
    rw c.in_ok-push.ensures.items
    (map_push _ c.loop-rest.args.items c.in_ok-argument.argument)
    ∙ ap (λ (a : Arg). arguments_of c.loop-rest.args.items ++ a ∷ []) c.in_ok-argument.ensures in
    let some : 0 < length c.loop-rest.rest.now = grind arith in (
      grind (arith, c.in_ok-desc.ensures.within, c.loop-rest.invariant.0),
      rw e
          (goes_on_from (arguments_of c.loop-rest.args.items) (length c.args.bytes.now)
          c.loop-rest.rest.now argument c.in_ok-desc.after.now _ some c.in_ok-desc.ensures.within
          (sym c.in_ok-desc.ensures.fault) c.loop-rest.invariant.1),
    )

pub returns : goal.returns
returns c =
    let none : length c.loop-rest.rest.now ≡ 0 = grind arith in
    grind (
      arith,
      is_done_from (arguments_of c.loop-rest.args.items) (length c.args.bytes.now)
          c.loop-rest.rest.now _ none c.loop-rest.invariant.1,
    )
