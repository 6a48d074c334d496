-- Classes of a policy that stand for themselves.
use Rattle.std.proofs.Common.{refl}
use Rattle.mrc_wiring_text.specs.declared.policy.ClassName.TheVariants.{Port, Task, Births}
use Rattle.mrc_stand_for.specs.PolicyLaws.{ClassesStandForThemselves}

pub classes_stand : ClassesStandForThemselves
classes_stand known (Port port) none = refl
classes_stand known (Task task) none = refl
classes_stand known (Births task kind) none = rw none refl
