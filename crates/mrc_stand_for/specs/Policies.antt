-- Believe. What the class of a line of a policy of version 1 or 2 stands for over a wiring of
-- version 4: births stand for themselves, and then for each wired port that is such births. This
-- profile's own choice.
use Rattle.std.specs.Prelude.{List, [], ◌∷◌}
use Rattle.mrc_wiring_text.specs.declared.policy.ClassName.{ClassName}
use Rattle.mrc_wiring_text.specs.declared.policy.ClassName.TheVariants.{Births}
use Rattle.mrc_stand_for.specs.declared.known.Known.{Known}
use Rattle.mrc_stand_for.specs.Known.{births_classes}

-- the classes that CLASS stands for
abbrev pub classes_forbidden : Known → ClassName → List ClassName
classes_forbidden known (Births task kind) = births_classes known task kind
classes_forbidden known class = class ∷ []
