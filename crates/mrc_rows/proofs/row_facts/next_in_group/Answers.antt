use Rattle.mrc_rows.specs.Planes.{key_behind}
use Rattle.mrc_rows.proofs.Groups.{key_found, key_none}
use Rattle.mrc_rows.proofs.row_facts.next_in_group.Goals as goal

pub returns-clause-found : goal.returns-clause-found
returns-clause-found c =
    key_found c.planes_of.result c.args.rows.now c.args.group c.planes_of.ensures
    (key_behind c.args.behind) c.next_behind.result c.next_behind.ensures.found

pub returns-clause-none : goal.returns-clause-none
returns-clause-none c =
    key_none c.planes_of.result c.args.rows.now c.args.group c.planes_of.ensures
    (key_behind c.args.behind) c.next_behind.result c.next_behind.ensures.none
