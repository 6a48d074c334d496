use Rattle.std.proofs.Common.{◌∙◌, ap, arith}
use Rattle.mrc_model.specs.Map.{get}
use Rattle.mrc_index.proofs.IndexLaws.{put_after}
use Rattle.mrc_index.proofs.names.Names.put.Goals as goal

pub invariant_of-self-in-Ok : goal.invariant_of-self-in-Ok
invariant_of-self-in-Ok c =
    put_after c.self.inside.entries c.insert.new.self c.self.inside.held c.self.inside.once
    c.index.new.held c.index.new.once c.self.inside.free c.use_name.new.free c.from.result
    c.args.name c.args.entry c.self.invariant c.from.ensures
    (ap (λ z. get z c.args.name) c.self.view_is ∙ c.requires)
    (omega (arith, c.ranges.name.fits)) c.in-Ok.ensures.ok
    c.in_ok-index.ensures.held c.in_ok-index.ensures.once c.use_name.ensures.bits
    c.use_name.ensures.len
