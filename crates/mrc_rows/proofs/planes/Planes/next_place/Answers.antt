use Rattle.mrc_rows.proofs.Groups.{behind_found, behind_none}
use Rattle.mrc_rows.proofs.planes.Planes.next_place.Goals as goal

pub returns-in-None-clause-found : goal.returns-in-None-clause-found
returns-in-None-clause-found c =
    behind_found c.args.self.now c.args.class c.args.right c.in-None.ensures.none
    c.first_place.result c.first_place.ensures.found

pub returns-in-None-clause-none : goal.returns-in-None-clause-none
returns-in-None-clause-none c =
    behind_none c.args.self.now c.args.class c.args.right c.in-None.ensures.none
    c.first_place.result c.first_place.ensures.none
