use Rattle.std.proofs.Common.{rules, of_calls}
use Rattle.std.proofs.lemmas.Fn.{always_returns_same}
use Rattle.mrc_machine.proofs.KernelLaws.{is_earlier, kernels_parted, kernel_place_is}
use Rattle.mrc_machine.proofs.state.kernel_place.Goals as goal

pub returns : goal.returns
returns c =
    let bound = c.partition_point.ensures.bound in
    let parted = kernels_parted c.args.port c.args.tasks.now c.requires in
    let computes = c.partition_point.ensures.partitioned (is_earlier c.args.port)
    (always_returns_same _ _ _ (λ a r f k. search (rules, of_calls))) parted in
    kernel_place_is c.args.port c.args.tasks.now c.partition_point.result bound computes
