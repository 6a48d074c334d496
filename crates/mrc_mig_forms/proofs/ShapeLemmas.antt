-- Each argument of a type has the numbers, the size and the count of a form, and its numbers are
-- kept.
use Rattle.std.proofs.Common.{◌≡◌, ℕ, Bool, true, false, List, [], ◌∷◌, Option, Some, None}
use Rattle.std.proofs.Common.{refl, ap, sym, ◌∙◌, arith, if◌then◌else◌}
use Rattle.std.specs.Prelude.{◌&&◌, ◌||◌, ◌==◌, not, nat_le}
use Rattle.std.proofs.lemmas.Bool.{and_parts, le-leb, leb-true}
use Rattle.mrc_base.specs.Disposition.{is_port_number}
use Rattle.mrc_forms.specs.Shapes.{number_fits, size_fits}
use Rattle.mrc_forms.specs.Types.{types_of as numbers_of}
use Rattle.mrc_mig_types.specs.declared.meaning.Count.{Count}
use Rattle.mrc_mig_types.specs.declared.meaning.Count.TheVariants.{Exactly, AtMost, Either, Away}
use Rattle.mrc_mig_types.specs.declared.meaning.Meaning.{Meaning}
use Rattle.mrc_mig_types.specs.declared.meaning.Tag.{Tag}
use Rattle.mrc_mig_types.specs.declared.meaning.Tag.TheVariants.{Picked, Fixed}
use Rattle.mrc_mig_types.specs.declared.shapes.By.{By}
use Rattle.mrc_mig_types.specs.declared.shapes.By.TheVariants as by
use Rattle.mrc_mig_types.specs.Shapes.{Form as Meant, all_numbers, sends, sends_once}
use Rattle.mrc_mig_types.specs.Shapes.{right_numbers, fitting, slot_count, bits_fit, data_by}
use Rattle.mrc_mig_types.specs.Shapes.{data_of, form_by, shape_by, shape_of, items_fit, any_data}
use Rattle.mrc_mig_types.specs.Shapes.{or_most}
use Rattle.mrc_mig_forms.specs.Bounds.{meant_fits}
use Rattle.mrc_mig_forms.specs.Shapes.{items_of}

-- the lists of type numbers that arguments may have in the place of rights
data AreRights : List ℕ → Type 0 where
  nothing : AreRights []
  only : (n : ℕ) → nat_le n 21 ≡ true → AreRights (n ∷ [])
  send : AreRights sends
  once : AreRights sends_once
  any : AreRights all_numbers

picked_are : (a b c : Bool)
    → AreRights (if a then 16 ∷ [] else if b then sends else if c then sends_once else [])
picked_are true b c = only 16 refl
picked_are false true c = send
picked_are false false true = once
picked_are false false false = nothing

fixed_are : (n : ℕ) (b : Bool) → is_port_number n ≡ b → AreRights (if b then n ∷ [] else [])
fixed_are n true e = only n (and_parts _ _ e).1
fixed_are n false e = nothing

rights_are : (picks received : Tag) → AreRights (right_numbers picks received)
rights_are (Fixed n) received = fixed_are n (is_port_number n) refl
rights_are Picked Picked = any
rights_are Picked (Fixed n) =
    picked_are (n == 16) ((n == 17 || n == 19) || n == 20) (n == 18 || n == 21)

-- a count that fits, if there is one
fitted_fits : (n : ℕ) (is_bound b : Bool) → items_fit n ≡ b
    → number_fits (or_most (if b then Some (n, is_bound) else None)).0 ≡ true
fitted_fits n is_bound true e = e
fitted_fits n is_bound false e = refl

slot_fits : (count : Count) → number_fits (slot_count count).0 ≡ true
slot_fits (Exactly n) = fitted_fits n false (items_fit n) refl
slot_fits (AtMost n) = fitted_fits n true (items_fit n) refl
slot_fits Either = refl
slot_fits Away = refl

-- with true on the right
or_true : (b : Bool) → (b || true) ≡ true
or_true true = refl
or_true false = refl

both_are : (a b : Bool) → a ≡ true → b ≡ true → (a && b) ≡ true
both_are a b e f = ap (λ x. x && b) e ∙ f

-- what fits, and keeps its numbers
pub record Kept (meant : Meant) : Type 0 where
  pub fits : meant_fits meant ≡ true
  pub numbers : numbers_of (items_of meant).types ≡ meant.types

kept_by : (numbers : List ℕ) (other : Meant) (count : Count) → AreRights numbers → Kept other
    → Kept (form_by numbers other count)
kept_by numbers other count nothing kept = kept
kept_by numbers other count (only n le) kept = record {
  fits = both_are _ _ (both_are _ _ le refl)
      (both_are _ _ (or_true (not (is_port_number n))) (slot_fits count));
  numbers = refl;
}
kept_by numbers other count send kept = record { fits = slot_fits count; numbers = refl }
kept_by numbers other count once kept = record { fits = slot_fits count; numbers = refl }
kept_by numbers other count any kept = record { fits = slot_fits count; numbers = refl }

-- a number that is no right's
no_port : (n : ℕ) → nat_le n 15 ≡ true → is_port_number n ≡ false
no_port n le = grind (arith, leb-true)

within : (n : ℕ) → nat_le n 15 ≡ true → nat_le n 21 ≡ true
within n le = le-leb n 21 (let less = leb-true n 15 le in omega arith)

size_is : (n bits : ℕ) → nat_le n 15 ≡ true → bits_fit bits ≡ true → size_fits n bits ≡ true
size_is n bits le fits =
    rw (no_port n le) (ap (λ b. b && true) fits)

-- data of one number with a count
data_kept : (n bits : ℕ) (count : Option (ℕ × Bool)) → nat_le n 15 ≡ true → bits_fit bits ≡ true
    → ((found : ℕ × Bool) → count ≡ Some found → number_fits found.0 ≡ true)
    → Kept (data_by n bits count)
data_kept n bits None le size fits = record { fits = refl; numbers = refl }
data_kept n bits (Some found) le size fits = record {
  fits = both_are _ _ (both_are _ _ (within n le) refl)
      (both_are _ _ (size_is n bits le size) (fits found refl));
  numbers = refl;
}

counts_fit : (n : ℕ) (is_bound b : Bool) → items_fit n ≡ b → (found : ℕ × Bool)
    → (if b then Some (n, is_bound) else None) ≡ Some found → number_fits found.0 ≡ true
counts_fit n is_bound true e found is =
    ap (λ (m : ℕ × Bool). number_fits m.0) (let same : (n, is_bound) ≡ found = cc in sym same) ∙ e
counts_fit n is_bound false e found is = absurd cc

fitting_fits : (count : Count) (found : ℕ × Bool) → fitting count ≡ Some found
    → number_fits found.0 ≡ true
fitting_fits (Exactly n) found is = counts_fit n false (items_fit n) refl found is
fitting_fits (AtMost n) found is = counts_fit n true (items_fit n) refl found is
fitting_fits Either found is = absurd cc
fitting_fits Away found is = absurd cc

fixed_kept : (n bits : ℕ) (count : Count) (b : Bool) → (nat_le n 15 && bits_fit bits) ≡ b
    → Kept (if b then data_by n bits (fitting count)
    else any_data)
fixed_kept n bits count true e =
    data_kept n bits (fitting count) (and_parts _ _ e).0 (and_parts _ _ e).1 (fitting_fits count)
fixed_kept n bits count false e = record { fits = refl; numbers = refl }

data_is_kept : (tag : Tag) (bits : ℕ) (count : Count) → Kept (data_of tag bits count)
data_is_kept Picked bits count = record { fits = refl; numbers = refl }
data_is_kept (Fixed n) bits count = fixed_kept n bits count (nat_le n 15 && bits_fit bits) refl

by_kept : (picks tag : Tag) (found : Meaning) → Kept (shape_by picks tag found)
by_kept picks tag found =
    kept_by (right_numbers picks found.received) (data_of tag found.bits found.count) found.count
    (rights_are picks found.received) (data_is_kept tag found.bits found.count)

-- each argument of a type
pub shape_kept : (found : Meaning) (judged : By) → Kept (shape_of found judged)
shape_kept found by.Sent = by_kept found.sent found.sent found
shape_kept found by.Received = by_kept found.received found.received found
shape_kept found by.Picked = by_kept Picked found.sent found
shape_kept found by.PickedReceived = by_kept Picked found.received found
