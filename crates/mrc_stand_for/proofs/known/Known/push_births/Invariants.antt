-- What was added so far.
use Rattle.std.proofs.Common.{◌≡◌, ◌∷◌, [], ◌++◌, take, map}
use Rattle.std.specs.Prelude.{filter}
use Rattle.mrc_wiring_text.specs.declared.policy.ClassName.TheVariants.{Births}
use Rattle.mrc_stand_for.specs.Known.{member_class, is_member}
use Rattle.mrc_stand_for.proofs.known.Known.push_births.Given as goal

abbrev pub invariant-loop-member : goal.invariant-loop-member
invariant-loop-member l =
    l.classes ≡ l.fn.classes ++ Births l.task l.kind ∷ []
    ++ map member_class (filter (is_member l.task l.kind) (take l.member-index l.member-items))
