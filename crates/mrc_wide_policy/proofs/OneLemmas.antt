-- Lines of one name in each list.
use Rattle.std.proofs.Common.{◌≡◌, Bool, true, false, cond, List, [], ◌∷◌, ◌++◌, map, Result, Ok}
use Rattle.std.proofs.Common.{refl, ap, ◌∙◌}
use Rattle.std.specs.Prelude.{filter, fold}
use Rattle.std.specs.List.{list_any}
use Rattle.std.proofs.lemmas.List.{append-nil}
use Rattle.std.proofs.lemmas.List.Elements.{filter-append}
use Rattle.mrc_wiring_text.specs.declared.policy.ClassName.{ClassName}
use Rattle.mrc_wiring_text.specs.declared.policy.ClassName.TheVariants as class
use Rattle.mrc_stand_for.specs.declared.faults.StandFault.{StandFault}
use Rattle.mrc_stand_for.specs.Expected.{is_births}
use Rattle.mrc_stand_for.specs.Known.{is_member, member_class}
use Rattle.mrc_stand_for.specs.Once.{with_once, with_each, same_class}
use Rattle.mrc_wide_policy.specs.declared.facts.NamedFact.{NamedFact}
use Rattle.mrc_wide_policy.specs.Facts.{facts_in}
use Rattle.mrc_wide_policy.specs.LineLaws.{OnePortIsOneFact, OneKernelIsOneFact}
use Rattle.mrc_wide_policy.specs.LineLaws.{BirthsAreExpectedAlone}

pub one_port : OnePortIsOneFact
one_port true known n task port right there also = rw (there, also) refl
one_port false known n task port right there also = rw (there, also) refl

pub one_kernel : OneKernelIsOneFact
one_kernel true known n task other right there also = rw (there, also) refl
one_kernel false known n task other right there also = rw (there, also) refl

-- what is no births leaves the births as they were
one_left : (b : Bool) (xs : List ClassName) (x : ClassName)
    → is_births x ≡ false
    → filter is_births (cond b xs (xs ++ x ∷ [])) ≡ filter is_births xs
one_left true xs x none = refl
one_left false xs x none =
    let nothing : filter is_births (x ∷ []) ≡ [] = rw none refl in
    filter-append is_births xs (x ∷ [])
    ∙ ap (λ ys. filter is_births xs ++ ys) nothing
    ∙ append-nil (filter is_births xs)

all_left : {X : Type 0} (f : X → ClassName)
    → ((x : X) → is_births (f x) ≡ false)
    → (found : List ClassName) (xs : List X)
    → filter is_births (fold (with_once same_class) found (map f xs)) ≡ filter is_births found
all_left f none found [] = refl
all_left f none found (x ∷ xs) =
    all_left f none (with_once same_class found (f x)) xs
    ∙ one_left (list_any (same_class (f x)) found) found (f x) (none x)

pub births_alone : BirthsAreExpectedAlone
births_alone = λ known n task other right kind there also has.
    let made : List ClassName → Result (List NamedFact) StandFault = λ found. Ok
    (facts_in (right ∷ []) (record { task = task; classes = with_each same_class [] found } ∷ []))
    in
    rw (there, also, has) (ap made (all_left member_class (λ member. refl)
    (class.Births other kind ∷ []) (filter (is_member other kind) known.members)))
