-- Law. Over a wiring none of whose wired ports is births, each class of a policy stands for itself.
use Rattle.std.specs.Prelude.{◌≡◌, [], ◌∷◌}
use Rattle.mrc_wiring_text.specs.declared.policy.ClassName.{ClassName}
use Rattle.mrc_stand_for.specs.declared.known.Known.{Known}
use Rattle.mrc_stand_for.specs.Policies.{classes_forbidden}

-- with no such ports a class stands for itself alone
abbrev pub ClassesStandForThemselves : Type 0
ClassesStandForThemselves =
    (known : Known) (class : ClassName)
    → known.members ≡ []
    → classes_forbidden known class ≡ class ∷ []
