-- Believe. What the classes of a line that expects stand for: births are the births alone, without
-- the wired ports that are such. Such a port is there only if a class, or one of a set, names the
-- port itself. This profile's own choice.
use Rattle.std.specs.Prelude.{ℕ, Bool, true, false, List, [], ◌∷◌, filter, Option, Some, None}
use Rattle.std.specs.Prelude.{Result, Ok, Err}
use Rattle.mrc_base.specs.Reading.{◌>>=◌}
use Rattle.mrc_wiring_text.specs.declared.policy.ClassName.{ClassName}
use Rattle.mrc_wiring_text.specs.declared.policy.ClassName.TheVariants as class
use Rattle.mrc_stand_for.specs.declared.faults.StandFault.{StandFault}
use Rattle.mrc_stand_for.specs.declared.faults.StandFault.TheVariants.{UnknownName}
use Rattle.mrc_stand_for.specs.declared.known.ClassSet.{ClassSet}
use Rattle.mrc_stand_for.specs.declared.known.Known.{Known}
use Rattle.mrc_stand_for.specs.declared.wide.WideClass.{WideClass}
use Rattle.mrc_stand_for.specs.declared.wide.WideClass.TheVariants as wide
use Rattle.mrc_stand_for.specs.Once.{with_each, same_class}
use Rattle.mrc_stand_for.specs.Known.{set_named}
use Rattle.mrc_stand_for.specs.Lists.{classes_of}
use Rattle.mrc_stand_for.specs.Steps.{each}

-- the class is one of births
abbrev pub is_births : ClassName → Bool
is_births (class.Births task kind) = true
is_births (class.Port port) = false
is_births (class.Task task) = false

-- what a CLASS stands for in a line that does not expect
abbrev pub class_alone : Known → ℕ → Option (List ℕ) → WideClass
    → Result (List ClassName) StandFault
class_alone known n holder class =
    classes_of known n holder (class ∷ []) >>= λ found. Ok found.classes

-- the classes of a set that is there, as a line that expects has them
abbrev pub bare_of : ℕ → Option ClassSet → Result (List ClassName) StandFault
bare_of n (Some set) = Ok set.bare
bare_of n None = Err (UnknownName n)

-- what a CLASS stands for in a line that expects
abbrev pub expected_class : Known → ℕ → Option (List ℕ) → WideClass
    → Result (List ClassName) StandFault
expected_class known n holder (wide.Births whom kinds) =
    class_alone known n holder (wide.Births whom kinds) >>= λ found. Ok (filter is_births found)
expected_class known n holder (wide.Set name) = bare_of n (set_named known name)
expected_class known n holder (wide.Port port) = class_alone known n holder (wide.Port port)
expected_class known n holder (wide.Task whom) = class_alone known n holder (wide.Task whom)

-- CLASS more
abbrev pub add_expected : Known → ℕ → Option (List ℕ) → List ClassName → WideClass
    → Result (List ClassName) StandFault
add_expected known n holder so_far class =
    expected_class known n holder class >>= λ more. Ok (with_each same_class so_far more)

-- CLASSES in a line that expects
abbrev pub expected_classes : Known → ℕ → Option (List ℕ) → List WideClass
    → Result (List ClassName) StandFault
expected_classes known n holder classes = each (add_expected known n holder) [] classes
