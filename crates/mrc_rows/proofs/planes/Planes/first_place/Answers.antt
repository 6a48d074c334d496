use Rattle.mrc_rows.proofs.Groups.{place_found, no_keys}
use Rattle.mrc_rows.proofs.planes.Planes.first_place.Goals as goal

pub returns-clause-found : goal.returns-clause-found
returns-clause-found c =
    place_found c.args.self.now c.args.from c.in_ok-class.class c.first_right.result
    c.in_ok-class.ensures.found c.first_right.ensures

pub returns-in_err-class-clause-none : goal.returns-in_err-class-clause-none
returns-in_err-class-clause-none c =
    rw c.from_residual.ensures (no_keys c.args.self.now c.args.from c.in_err-class.ensures.none)
