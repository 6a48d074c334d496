use Rattle.std.proofs.Common.{[], ◌∷◌, ◌++◌}
use Rattle.std.proofs.lemmas.Result.{err_from_is_err_and}
use Rattle.mrc_mig_tokens.specs.Reading.{left}
use Rattle.mrc_mig_types.specs.Table.{known, type_of}
use Rattle.mrc_mig_types.proofs.StructLemmas.{more_is, more_stops}
use Rattle.mrc_mig_types.proofs.structs.more.Goals as goal

pub returns-in_err-type_name : goal.returns-in_err-type_name
returns-in_err-type_name c = λ fields is.
    let p = err_from_is_err_and c.from_residual.result c.from_residual.ensures.1 in
    rw (p.1, p.2) (more_stops (known c.args.types.now) fields (left c.args.rest) _
    c.in_err-type_name.ensures)

pub returns : goal.returns
returns c = λ fields is.
    let types = known c.args.types.now in (
      fields ++ type_of types c.in_ok-type_name.type_name.now ∷ [],
      (
        more_is types fields (left c.args.rest) (left c.in_ok-type_name.rest)
            c.in_ok-type_name.type_name.now c.in_ok-type_name.ensures,
        rw c.get.ensures at (c.with.ensures fields is),
      ),
    )
