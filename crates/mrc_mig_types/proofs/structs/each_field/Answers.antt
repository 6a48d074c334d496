use Rattle.std.proofs.Common.{◌≡◌, ◌-◌, [], length, true, false, sym, ◌∙◌, arith}
use Rattle.std.proofs.lemmas.Result.{err_from_is_err_and}
use Rattle.mrc_mig_tokens.specs.Reading.{left}
use Rattle.mrc_mig_types.specs.Reading.{goes_on}
use Rattle.mrc_mig_types.specs.Table.{known}
use Rattle.mrc_mig_types.proofs.StructLemmas.{first_read, first_stops, one_of_many, none_of_many}
use Rattle.mrc_mig_types.proofs.StructLemmas.{end_of_many, last_of_many}
use Rattle.mrc_mig_types.proofs.structs.each_field.Goals as goal

pub returns-in_err-laid : goal.returns-in_err-laid
returns-in_err-laid c =
    let p = err_from_is_err_and c.from_residual.result c.from_residual.ensures.1 in
    rw (p.1, p.2) (first_stops (known c.args.types.now) (left c.args.rest) _
    (c.in_err-laid.ensures [] c.new.ensures))

pub loop-init : goal.loop-init
loop-init c =
    let r = c.in_ok-laid.ensures [] c.new.ensures in
    let count : c.len-count.result - 0 ≡ length (left c.in_ok-laid.rest) = omega arith in (
      r.0,
      (
        rw count (first_read (known c.args.types.now) (left c.args.rest)
            (r.0, left c.in_ok-laid.rest) r.1.0),
        r.1.1,
      ),
    )

pub returns-then-not-goes_on : goal.returns-then-not-goes_on
returns-then-not-goes_on c =
    let i = c.loop.invariant in
    let ends : goes_on (i.0, left c.loop.rest) ≡ false =
    sym (c.goes_on.ensures i.0) ∙ c.if-not-goes_on.true in (
      i.0,
      (
        end_of_many (known c.args.types.now) (c.len-count.result - c.loop.counter)
            (i.0, left c.loop.rest) _ ends i.1.0,
        i.1.1,
      ),
    )

pub returns-in_err-next : goal.returns-in_err-next
returns-in_err-next c =
    let i = c.loop.invariant in
    let goes : goes_on (i.0, left c.loop.rest) ≡ true =
    sym (c.goes_on.ensures i.0) ∙ c.if-not-goes_on.false in
    let p = err_from_is_err_and c.from_residual-in_err-next.result
    c.from_residual-in_err-next.ensures.1 in
    rw (p.1, p.2) (none_of_many (known c.args.types.now) c.len-count.result c.loop.counter
    (i.0, left c.loop.rest) _ _ c.loop-test.true goes (c.in_err-next.ensures i.0 i.1.1) i.1.0)

pub loop-preserved : goal.loop-preserved
loop-preserved c =
    let i = c.loop.invariant in
    let goes : goes_on (i.0, left c.loop.rest) ≡ true =
    sym (c.goes_on.ensures i.0) ∙ c.if-not-goes_on.false in
    let r = c.in_ok-next.ensures i.0 i.1.1 in (
      r.0,
      (
        one_of_many (known c.args.types.now) c.len-count.result c.loop.counter
            (i.0, left c.loop.rest) (r.0, left c.in_ok-next.after) _ c.loop-test.true goes r.1.0
            i.1.0,
        r.1.1,
      ),
    )

pub returns : goal.returns
returns c =
    let i = c.loop.invariant in (
      i.0,
      (
        last_of_many (known c.args.types.now) c.len-count.result c.loop.counter
            (i.0, left c.loop.rest) _ c.loop-test.false i.1.0,
        i.1.1,
      ),
    )
