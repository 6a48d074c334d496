-- The facts of the least set are within the counts of a certificate.
use Rattle.std.proofs.Common.{◌≡◌, ℕ, ◌<◌, Bool, true, List, [], ◌∷◌, refl, sym, subst}
use Rattle.std.proofs.Common.{IsTrue, nat_lt}
use Rattle.std.specs.List.{list_all}
use Rattle.std.proofs.lemmas.Bool.{and_from, or_left, or_right, lt-ltb}
use Rattle.mrc_base.specs.declared.Fact.{Fact}
use Rattle.mrc_base.specs.declared.Fact.TheVariants.{Hold, Carry, Backup}
use Rattle.mrc_model.specs.Wiring.{classes}
use Rattle.mrc_model.specs.Rules.{InRange}
use Rattle.mrc_wiring.specs.Table.{Table, wiring_of}
use Rattle.mrc_facts.specs.Order.{is_same}
use Rattle.mrc_facts.specs.Sets.{has}
use Rattle.mrc_facts.proofs.Total.{same_itself}
use Rattle.mrc_certificate.specs.Drafts.{is_within, AreWithin}

-- a number below the wiring's is below the count
below : (n m count : ℕ) → count ≡ m → n < m → nat_lt n count ≡ true
below n m count e small = lt-ltb n count (subst (λ k. n < k) (sym e) small)

one_within : (table : Table) (tasks class_count : ℕ)
    → tasks ≡ (wiring_of table).tasks
    → class_count ≡ classes (wiring_of table)
    → (f : Fact)
    → InRange (wiring_of table) f
    → is_within tasks class_count f ≡ true
one_within table tasks class_count et ec (Hold t c r) within =
    and_from (nat_lt t tasks) (nat_lt c class_count)
    (below t (wiring_of table).tasks tasks et within.0)
    (below c (classes (wiring_of table)) class_count ec within.1)
one_within table tasks class_count et ec (Carry d c r) within =
    and_from (nat_lt d class_count) (nat_lt c class_count)
    (below d (classes (wiring_of table)) class_count ec within.0)
    (below c (classes (wiring_of table)) class_count ec within.1)
one_within table tasks class_count et ec (Backup c d) within =
    and_from (nat_lt c class_count) (nat_lt d class_count)
    (below c (classes (wiring_of table)) class_count ec within.0)
    (below d (classes (wiring_of table)) class_count ec within.1)

all_pass : (test : Fact → Bool) (facts : List Fact)
    → ((f : Fact) → IsTrue (has facts f) → test f ≡ true)
    → list_all test facts ≡ true
all_pass test [] all = refl
all_pass test (f ∷ fs) all =
    and_from (test f) (list_all test fs)
    (all f (or_left (is_same f f) (has fs f) (same_itself f)))
    (all_pass test fs (λ g h. all g (or_right (is_same g f) (has fs g) h)))

pub are_within : (table : Table) (tasks class_count : ℕ)
    → tasks ≡ (wiring_of table).tasks
    → class_count ≡ classes (wiring_of table)
    → (facts : List Fact)
    → ((f : Fact) → IsTrue (has facts f) → InRange (wiring_of table) f)
    → AreWithin tasks class_count facts
are_within table tasks class_count et ec facts within =
    all_pass (is_within tasks class_count) facts
    (λ f h. one_within table tasks class_count et ec f (within f h))
