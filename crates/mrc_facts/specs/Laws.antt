-- Law. What order and sets have to be. What holds of the order of facts and of sets of facts.
use Rattle.std.specs.Prelude.{◌≡◌, ◌↔◌, false, List, IsTrue}
use Rattle.std.specs.Ordering.{nat_cmp}
use Rattle.std.specs.Cmp.Lexicographic.{slice_cmp}
use Rattle.mrc_base.specs.declared.Fact.{Fact}
use Rattle.mrc_facts.specs.Order.{fact_bytes, FitsBytes, fact_cmp, is_before, is_same}
use Rattle.mrc_facts.specs.Sets.{has, IsAscending}

-- f is the least of the facts
pub record IsLeast (facts : List Fact) (f : Fact) : Type 0 where
  pub member : IsTrue (has facts f)
  pub least : (g : Fact) → IsTrue (has facts g) → is_before g f ≡ false

-- g is the least of the facts that come after f
pub record IsNext (facts : List Fact) (f g : Fact) : Type 0 where
  pub member : IsTrue (has facts g)
  pub later : IsTrue (is_before f g)
  pub least : (h : Fact) → IsTrue (has facts h) → IsTrue (is_before f h) → is_before h g ≡ false

-- none of the facts comes after f
abbrev pub NoneAfter : List Fact → Fact → Type 0
NoneAfter facts f = (g : Fact) → IsTrue (has facts g) → is_before f g ≡ false

-- facts stand in the order of their bytes
abbrev pub InByteOrder : Type 0
InByteOrder = (f g : Fact) → FitsBytes f → FitsBytes g
    → fact_cmp f g ≡ slice_cmp nat_cmp (fact_bytes f) (fact_bytes g)

-- facts that are the same are equal
abbrev pub SameAreEqual : Type 0
SameAreEqual = (f g : Fact) → IsTrue (is_same f g) ↔ (f ≡ g)

-- a set of facts is one ascending list
abbrev pub OneList : Type 0
OneList = (fs gs : List Fact) → IsAscending fs → IsAscending gs
    → ((f : Fact) → has fs f ≡ has gs f) → fs ≡ gs
