use Rattle.std.proofs.Common.{◌∙◌, ◌++◌, [], ap, map, string_bytes}
use Rattle.std.specs.List.{cons_option}
use Rattle.mrc_mig_forms.specs.Files.{LeftOut}
use Rattle.mrc_interface.specs.Left.{name_if}
use Rattle.mrc_interface.proofs.LeftLaws.{name_more}
use Rattle.mrc_interface.proofs.left.carrying.Goals as goal

pub loop-left-preserved : goal.loop-left-preserved
loop-left-preserved c =
    let names = map string_bytes c.loop-left.names.items in
    name_more c.args.left_out.now c.loop-left.left-index c.left-item.result names
    (map string_bytes c.push_name.new.names.items) c.loop-left-test.true c.loop-left.invariant
    (c.in_ok-push_name.ensures
    ∙ ap (λ (left : LeftOut). names ++ cons_option (name_if left) []) c.left-item.is)
