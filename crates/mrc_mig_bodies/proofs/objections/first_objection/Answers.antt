use Rattle.std.proofs.Common.{map, ap, ◌∙◌}
use Rattle.std.specs.Option.{option_map}
use Rattle.mrc_mig_bodies.specs.Parameters.{parameter_of}
use Rattle.mrc_mig_bodies.proofs.FirstLemmas.{first_behind}
use Rattle.mrc_mig_bodies.proofs.objections.first_objection.Goals as goal

pub returns : goal.returns
returns c =
    first_behind c.args.kind c.args.by_request c.args.end_at
    (map parameter_of c.args.arguments.now) (map parameter_of c.deref.result.now)
    (option_map parameter_of c.request_port.result) c.port_objection-first.result
    c.each_objection.result c.port_objection-first.ensures c.request_port.ensures
    (ap (map parameter_of) c.deref.ensures.value ∙ c.in_ok-settled.ensures)
    c.each_objection.ensures
