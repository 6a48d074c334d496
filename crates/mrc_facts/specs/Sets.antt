-- Believe. Sets of facts as ascending lists. The profile's own choice.
use Rattle.std.specs.Prelude.{Bool, true, ◌&&◌, List, [], ◌∷◌, Option, IsTrue, if◌then◌else◌}
use Rattle.std.specs.List.{list_any, find, slice_get}
use Rattle.std.specs.Ordering.{match_ordering}
use Rattle.mrc_base.specs.declared.Fact.{Fact}
use Rattle.mrc_facts.specs.Order.{fact_cmp, is_before, is_same}

-- whether f stands among the facts
abbrev pub has : List Fact → Fact → Bool
has facts f = list_any (is_same f) facts

-- the facts with f at its place, unless it stands there
abbrev pub with_fact : List Fact → Fact → List Fact
with_fact [] f = f ∷ []
with_fact (g ∷ facts) f =
    match_ordering (fact_cmp f g) (f ∷ g ∷ facts) (g ∷ facts) (g ∷ with_fact facts f)

-- the first fact, which is the least
abbrev pub first : List Fact → Option Fact
first facts = slice_get facts 0

-- the first fact that comes after f, which is the least of those
abbrev pub after : List Fact → Fact → Option Fact
after facts f = find (is_before f) facts

-- whether f comes before the first of the facts
abbrev pub begins_after : Fact → List Fact → Bool
begins_after f [] = true
begins_after f (g ∷ facts) = is_before f g

-- whether each fact comes before the next
abbrev pub are_ascending : List Fact → Bool
are_ascending [] = true
are_ascending (f ∷ facts) = begins_after f facts && are_ascending facts

-- each fact comes before the next
abbrev pub IsAscending : List Fact → Type 0
IsAscending facts = IsTrue (are_ascending facts)
