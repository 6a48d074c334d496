-- Worked. Answers. Worked examples, by computation: their values were worked out by hand.
use Rattle.std.specs.Prelude.{◌≡◌, List, [], ◌∷◌, ◌++◌, Some, None, codes, refl}
use Rattle.std.specs.Fmt.{digits}
use Rattle.mrc_base.specs.declared.Fact.TheVariants.{Hold}
use Rattle.mrc_base.specs.declared.PortRight.TheVariants.{Send, Receive}
use Rattle.mrc_wiring_text.specs.declared.wiring.WiringSays.TheVariants as says
use Rattle.mrc_wiring.specs.Table.{Table}
use Rattle.mrc_classes.specs.declared.rule_names.RuleName.TheVariants.{First, Births, Weaker}
use Rattle.mrc_closure.specs.declared.chains.Places.TheVariants.{Empty, One, Two}
use Rattle.mrc_closure.specs.declared.chains.Step.{Step}
use Rattle.mrc_words.specs.Words.{fact_text}
use Rattle.mrc_why.specs.declared.trees.TreeLine.{TreeLine}
use Rattle.mrc_why.specs.Lines.{first_numbers}
use Rattle.mrc_why.specs.Texts.{source_text, deeper, plain_lines}
use Rattle.mrc_why.specs.Trees.{tree_lines}

-- three steps, of which the last one needs both others, and the second one the first
abbrev given : Step
given = record { rule = First; fact = Hold 0 0 Receive; premises = Empty }

abbrev made : Step
made = record { rule = Weaker; fact = Hold 0 0 Send; premises = One 0 }

abbrev last : Step
last = record { rule = Births; fact = Hold 1 0 Send; premises = Two 0 1 }

abbrev steps : List Step
steps = given ∷ made ∷ last ∷ []

-- the first one is told below the last one, and seen again below the second one
abbrev told : List TreeLine
told =
    record { depth = 0; place = 2; seen = None } ∷ record { depth = 1; place = 0; seen = None }
    ∷ record { depth = 1; place = 1; seen = None } ∷ record { depth = 2; place = 0; seen = Some 2 }
    ∷ []

tree_example : tree_lines steps ≡ told
tree_example = refl

-- `task a`, `births a accepts none`, `hold a send task a`: the second line makes nothing of the
-- first state
lines_example : first_numbers (record { number = 2; says = says.Task (codes "a") }
    ∷ record { number = 3; says = says.Births (codes "a") 0 [] }
    ∷ record { number = 5; says = says.HoldTask (codes "a") (codes "a") } ∷ [])
    ≡ 2 ∷ 5 ∷ []
lines_example = refl

depth_example : deeper 2 ≡ codes "    "
depth_example = refl

none_example : source_text None ≡ []
none_example = refl

-- the line of a step that has no premises, without where it comes from
plain_example : (table : Table) → plain_lines table (given ∷ [])
    ≡ codes "0 K1 " ++ ((fact_text table given.fact ++ codes "\n") ++ [])
unfolding digits
plain_example table = refl
