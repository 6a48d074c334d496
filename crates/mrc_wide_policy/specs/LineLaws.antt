-- Law. A line of one name in each list names one fact. Births that are expected are births alone.
use Rattle.std.specs.Prelude.{◌≡◌, ℕ, Bool, true, List, [], ◌∷◌, Ok}
use Rattle.mrc_base.specs.declared.PortRight.{PortRight}
use Rattle.mrc_wiring_text.specs.declared.policy.ClassName.TheVariants as class
use Rattle.mrc_stand_for.specs.declared.known.Known.{Known}
use Rattle.mrc_stand_for.specs.declared.wide.Kinds.TheVariants as kinds
use Rattle.mrc_stand_for.specs.declared.wide.Tasks.TheVariants as tasks
use Rattle.mrc_stand_for.specs.declared.wide.WideClass.{WideClass}
use Rattle.mrc_stand_for.specs.declared.wide.WideClass.TheVariants as wide
use Rattle.mrc_stand_for.specs.declared.wide.Whom.TheVariants as whom
use Rattle.mrc_stand_for.specs.Known.{has_kind}
use Rattle.mrc_stand_for.specs.Once.{is_among}
use Rattle.mrc_wide_policy.specs.declared.says.Product.{Product}
use Rattle.mrc_wide_policy.specs.Facts.{fact}
use Rattle.mrc_wide_policy.specs.PolicyStanding.{product_facts}

-- one task, one right and one CLASS
abbrev pub of_one : List ℕ → PortRight → WideClass → Product
of_one task right class = record {
  tasks = tasks.Listed (task ∷ []);
  rights = right ∷ [];
  classes = class ∷ [];
}

-- `T RIGHT port P`
abbrev pub OnePortIsOneFact : Type 0
OnePortIsOneFact =
    (expects : Bool) (known : Known) (n : ℕ) (task port : List ℕ)
    (right : PortRight)
    → is_among task known.tasks ≡ true
    → is_among port known.ports ≡ true
    → product_facts expects known n (of_one task right (wide.Port port))
    ≡ Ok (fact task right (class.Port port) ∷ [])

-- `T RIGHT task U`
abbrev pub OneKernelIsOneFact : Type 0
OneKernelIsOneFact =
    (expects : Bool) (known : Known) (n : ℕ) (task other : List ℕ)
    (right : PortRight)
    → is_among task known.tasks ≡ true
    → is_among other known.tasks ≡ true
    → product_facts expects known n (of_one task right (wide.Task (whom.Who other)))
    ≡ Ok (fact task right (class.Task other) ∷ [])

-- `T RIGHT births U K` in a line that expects, whichever ports are such births
abbrev pub BirthsAreExpectedAlone : Type 0
BirthsAreExpectedAlone =
    (known : Known) (n : ℕ) (task other : List ℕ) (right : PortRight)
    (kind : ℕ)
    → is_among task known.tasks ≡ true
    → is_among other known.tasks ≡ true
    → has_kind known other kind ≡ true
    → product_facts true known n
    (of_one task right (wide.Births (whom.Who other) (kinds.One kind)))
    ≡ Ok (fact task right (class.Births other kind) ∷ [])

-- the three
pub record LinesOfOneNameNameOneFact : Type 0 where
  pub port : OnePortIsOneFact
  pub kernel : OneKernelIsOneFact
  pub births : BirthsAreExpectedAlone
