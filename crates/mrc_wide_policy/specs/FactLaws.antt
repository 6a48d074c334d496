-- Law. A product has the facts that it names, and nothing is waived that is not forbidden.
use Rattle.std.specs.Prelude.{◌≡◌, true, List, Ok}
use Rattle.std.specs.List.{list_any}
use Rattle.mrc_base.specs.declared.PortRight.{PortRight}
use Rattle.mrc_wiring_text.specs.declared.reading.Line.{Line}
use Rattle.mrc_stand_for.specs.declared.known.Known.{Known}
use Rattle.mrc_wide_policy.specs.declared.facts.NamedFact.{NamedFact}
use Rattle.mrc_wide_policy.specs.declared.facts.PolicyStands.{PolicyStands}
use Rattle.mrc_wide_policy.specs.declared.facts.Row.{Row}
use Rattle.mrc_wide_policy.specs.declared.says.PolicySays.{PolicySays}
use Rattle.mrc_wide_policy.specs.Facts.{facts_in, facts_of, forbidding, same_fact, is_in}
use Rattle.mrc_wide_policy.specs.Facts.{is_waived}
use Rattle.mrc_wide_policy.specs.PolicyStanding.{policy_stands}

-- a fact is in a product, by its task, its right and its class, exactly if it is one of its facts
abbrev pub ProductsHaveTheirFacts : Type 0
ProductsHaveTheirFacts =
    (rights : List PortRight) (rows : List Row) (fact : NamedFact)
    → is_in rights rows fact ≡ list_any (same_fact fact) (facts_in rights rows)

-- a fact that is waived is one that a line forbids
abbrev pub WaivedIsForbidden : Type 0
WaivedIsForbidden =
    (known : Known) (lines : List (Line PolicySays)) (stands : PolicyStands) (fact : NamedFact)
    → policy_stands known lines ≡ Ok stands
    → is_waived stands.waived fact ≡ true
    → list_any (same_fact fact) (facts_of (forbidding stands.lines)) ≡ true
