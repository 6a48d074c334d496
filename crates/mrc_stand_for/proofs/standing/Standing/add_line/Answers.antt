-- The parts of a line one after the other, and a line of which no part is stood for.
use Rattle.std.proofs.Common.{subst, refl}
use Rattle.std.proofs.lemmas.Result.{err_from_is_err_and}
use Rattle.mrc_stand_for.specs.Standing.{Stood}
use Rattle.mrc_stand_for.proofs.StoodLemmas.{line_goes, line_stopped}
use Rattle.mrc_stand_for.proofs.standing.Standing.add_line.Goals as goal

pub returns-in_err-parts : goal.returns-in_err-parts
returns-in_err-parts c =
    let p = err_from_is_err_and c.from_residual.result c.from_residual.ensures.1 in
    rw (p.1, p.2) (line_stopped c.in_err-parts.field-0.0 c.args.self.now _ c.args.line.now.number _
    refl c.in_err-parts.ensures)

pub returns : goal.returns
returns c =
    subst (Stood c.add_parts.result c.add_parts.new.self)
    (line_goes c.args.self.now c.line_stands.new.known c.args.line.now.number _ _ _
    c.in_ok-parts.ensures c.into_vec.ensures) c.add_parts.ensures
