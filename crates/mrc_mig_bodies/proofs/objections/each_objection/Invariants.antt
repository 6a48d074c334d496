use Rattle.std.proofs.Common.{◌≡◌, map, take, drop, string_bytes, []}
use Rattle.std.specs.List.{flat_map, fold}
use Rattle.mrc_mig_bodies.specs.Listed.{each_objections, sooner}
use Rattle.mrc_mig_bodies.specs.Objections.{names_of}
use Rattle.mrc_mig_bodies.specs.Parameters.{parameter_of}
use Rattle.mrc_mig_bodies.proofs.objections.each_objection.Given as goal

abbrev pub invariant-loop-index : goal.invariant-loop-index
invariant-loop-index l = record {
  named : map string_bytes l.names.items
      ≡ flat_map (names_of l.kind) (map parameter_of (take l.index l.settled));
  told : fold sooner l.first (each_objections l.kind l.by
      (map parameter_of (take l.index l.settled)) (map parameter_of (drop l.index l.settled)))
      ≡ fold sooner l.fn.first (each_objections l.kind l.by [] (map parameter_of l.settled));
}
