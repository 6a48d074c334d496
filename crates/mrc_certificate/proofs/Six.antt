-- The six bytes of a fact, read and written.
use Rattle.std.proofs.Common.{◌≡◌, ℕ, zero, suc, ◌^◌, ◌<◌, List, [], ◌∷◌, ◌++◌, drop, Option, Some}
use Rattle.std.proofs.Common.{None, Ok, refl, sym, ap, subst, ◌∙◌, arith}
use Rattle.std.specs.Prelude.{IsTrue, nat_lt}
use Rattle.std.specs.Int.{w16, from_be_bytes, to_be_bytes}
use Rattle.std.proofs.lemmas.Bool.{ltb-true, and_parts}
use Rattle.mrc_base.specs.declared.Fact.{Fact}
use Rattle.mrc_base.specs.declared.Fact.TheVariants.{Hold, Carry, Backup}
use Rattle.mrc_base.specs.declared.PortRight.TheVariants.{Send, Receive, SendOnce}
use Rattle.mrc_facts.specs.Order.{kind, first_number, second_number, last_byte, fact_bytes}
use Rattle.mrc_facts.specs.Order.{FitsBytes}
use Rattle.mrc_certificate.specs.declared.fault.DraftFault.TheVariants.{BadFact}
use Rattle.mrc_base.proofs.Steps.{passed, ok_is}
use Rattle.mrc_certificate.specs.Drafts.{is_within}
use Rattle.mrc_certificate.specs.Reading.{fact_from, checked, fact_at}
use Rattle.mrc_certificate.proofs.Fields.{IsBytes, IsBytes-drop, IsBytes-take, Takes, wide16}

-- the bytes that a fact is read from are its own
abbrev HasParts : Fact → ℕ → ℕ → ℕ → ℕ → Type 0
HasParts f k first second last =
    (kind f ≡ k) × (first_number f ≡ first) × (second_number f ≡ second) × (last_byte f ≡ last)

some_is : (f g : Fact) → Some f ≡ Some g → f ≡ g
some_is f g e = cc

parts_of : (k first second last : ℕ) (g f : Fact)
    → HasParts g k first second last
    → Some g ≡ Some f
    → HasParts f k first second last
parts_of k first second last g f parts e =
    subst (λ (h : Fact). HasParts h k first second last) (some_is g f e) parts

fact_from_parts : (k first second last : ℕ) (f : Fact)
    → fact_from k first second last ≡ Some f
    → HasParts f k first second last
fact_from_parts zero first second last f e = absurd cc
fact_from_parts (suc zero) first second zero f e =
    parts_of 1 first second 0 (Hold first second Send) f (refl, refl, refl, refl) e
fact_from_parts (suc zero) first second (suc zero) f e =
    parts_of 1 first second 1 (Hold first second Receive) f (refl, refl, refl, refl) e
fact_from_parts (suc zero) first second (suc (suc zero)) f e =
    parts_of 1 first second 2 (Hold first second SendOnce) f (refl, refl, refl, refl) e
fact_from_parts (suc zero) first second (suc (suc (suc n))) f e = absurd cc
fact_from_parts (suc (suc zero)) first second zero f e =
    parts_of 2 first second 0 (Carry first second Send) f (refl, refl, refl, refl) e
fact_from_parts (suc (suc zero)) first second (suc zero) f e =
    parts_of 2 first second 1 (Carry first second Receive) f (refl, refl, refl, refl) e
fact_from_parts (suc (suc zero)) first second (suc (suc zero)) f e =
    parts_of 2 first second 2 (Carry first second SendOnce) f (refl, refl, refl, refl) e
fact_from_parts (suc (suc zero)) first second (suc (suc (suc n))) f e = absurd cc
fact_from_parts (suc (suc (suc zero))) first second zero f e =
    parts_of 3 first second 0 (Backup first second) f (refl, refl, refl, refl) e
fact_from_parts (suc (suc (suc zero))) first second (suc n) f e = absurd cc
fact_from_parts (suc (suc (suc (suc k)))) first second last f e = absurd cc

-- and from its own bytes it is read
fact_from_own : (f : Fact)
    → fact_from (kind f) (first_number f) (second_number f) (last_byte f) ≡ Some f
fact_from_own (Hold task class Send) = refl
fact_from_own (Hold task class Receive) = refl
fact_from_own (Hold task class SendOnce) = refl
fact_from_own (Carry destination class Send) = refl
fact_from_own (Carry destination class Receive) = refl
fact_from_own (Carry destination class SendOnce) = refl
fact_from_own (Backup class notify) = refl

checked_ok : (tasks classes at : ℕ) (o : Option Fact) (f : Fact)
    → checked tasks classes at o ≡ Ok f
    → (o ≡ Some f) × IsTrue (is_within tasks classes f)
checked_ok tasks classes at None f e = absurd cc
checked_ok tasks classes at (Some g) f e =
    let p = passed (is_within tasks classes g) (BadFact at) (Ok g) f e in
    let same = ok_is g f p.1 in (
      ap (λ (x : Fact). Some x) same,
      subst (λ (x : Fact). IsTrue (is_within tasks classes x)) same
          p.0,
    )

checked_again : (tasks classes at : ℕ) (f : Fact)
    → IsTrue (is_within tasks classes f)
    → checked tasks classes at (Some f) ≡ Ok f
checked_again tasks classes at f within = rw within refl

pub fact_takes : (tasks classes at : ℕ) (bytes : List ℕ) (f : Fact)
    → IsBytes bytes
    → fact_at tasks classes at bytes ≡ Ok f
    → Takes bytes (fact_bytes f) (drop 6 bytes) × IsTrue (is_within tasks classes f)
unfolding fact_at
fact_takes tasks classes at [] f fits e = absurd cc
fact_takes tasks classes at (k ∷ []) f fits e = absurd cc
fact_takes tasks classes at (k ∷ a ∷ []) f fits e = absurd cc
fact_takes tasks classes at (k ∷ a ∷ b ∷ []) f fits e = absurd cc
fact_takes tasks classes at (k ∷ a ∷ b ∷ c ∷ []) f fits e = absurd cc
fact_takes tasks classes at (k ∷ a ∷ b ∷ c ∷ d ∷ []) f fits e = absurd cc
fact_takes tasks classes at (k ∷ a ∷ b ∷ c ∷ d ∷ last ∷ rest) f fits e =
    let bytes : List ℕ = k ∷ a ∷ b ∷ c ∷ d ∷ last ∷ rest in
    let first = from_be_bytes w16 (a ∷ b ∷ []) in
    let second = from_be_bytes w16 (c ∷ d ∷ []) in
    let ok = checked_ok tasks classes at (fact_from k first second last) f e in
    let parts = fact_from_parts k first second last f ok.0 in
    let first_is : to_be_bytes w16 (first_number f) ≡ a ∷ b ∷ [] = ap (to_be_bytes w16) parts.1
    ∙ wide16.back (a ∷ b ∷ []) refl (IsBytes-take 2 (drop 1 bytes) (IsBytes-drop 1 bytes fits)) in
    let second_is : to_be_bytes w16 (second_number f) ≡ c ∷ d ∷ [] = ap (to_be_bytes w16) parts.2
    ∙ wide16.back (c ∷ d ∷ []) refl (IsBytes-take 2 (drop 3 bytes) (IsBytes-drop 3 bytes fits)) in
    let is : fact_bytes f ≡ k ∷ a ∷ b ∷ c ∷ d ∷ last ∷ [] =
    ap (λ (n : ℕ). n ∷ to_be_bytes w16 (first_number f) ++ to_be_bytes w16 (second_number f) ++
    last_byte f ∷ []) parts.0
    ∙ ap (λ (t : List ℕ). k ∷ t ++ to_be_bytes w16 (second_number f) ++ last_byte f ∷ []) first_is
    ∙ ap (λ (t : List ℕ). k ∷ a ∷ b ∷ t ++ last_byte f ∷ []) second_is
    ∙ ap (λ (n : ℕ). k ∷ a ∷ b ∷ c ∷ d ∷ n ∷ []) parts.3
    in (
      record {
        parts = ap (λ (t : List ℕ). t ++ rest) (sym is);
        rest_fits = IsBytes-drop 6 bytes fits;
      },
      ok.1,
    )

within_fits : (tasks classes : ℕ) (f : Fact)
    → tasks < 2 ^ 16
    → classes < 2 ^ 16
    → IsTrue (is_within tasks classes f)
    → FitsBytes f
within_fits tasks classes (Hold task class right) fits_tasks fits_classes within =
    let parts = and_parts (nat_lt task tasks) (nat_lt class classes) within in
    let first = ltb-true task tasks parts.0 in
    let second = ltb-true class classes parts.1 in
    record { first = omega arith; second = omega arith }
within_fits tasks classes (Carry destination class right) fits_tasks fits_classes within =
    let parts = and_parts (nat_lt destination classes) (nat_lt class classes) within in
    let first = ltb-true destination classes parts.0 in
    let second = ltb-true class classes parts.1 in
    record { first = omega arith; second = omega arith }
within_fits tasks classes (Backup class notify) fits_tasks fits_classes within =
    let parts = and_parts (nat_lt class classes) (nat_lt notify classes) within in
    let first = ltb-true class classes parts.0 in
    let second = ltb-true notify classes parts.1 in
    record { first = omega arith; second = omega arith }

pub fact_again : (tasks classes at : ℕ) (f : Fact) (rest : List ℕ)
    → tasks < 2 ^ 16
    → classes < 2 ^ 16
    → IsTrue (is_within tasks classes f)
    → fact_at tasks classes at (fact_bytes f ++ rest) ≡ Ok f
unfolding fact_at
fact_again tasks classes at f rest fits_tasks fits_classes within =
    let fits = within_fits tasks classes f fits_tasks fits_classes within in
    let is : fact_from (kind f) (from_be_bytes w16 (to_be_bytes w16 (first_number f)))
    (from_be_bytes w16 (to_be_bytes w16 (second_number f))) (last_byte f) ≡ Some f =
    ap (λ (n : ℕ). fact_from (kind f) n (from_be_bytes w16 (to_be_bytes w16 (second_number f)))
    (last_byte f)) (wide16.again (first_number f) fits.first)
    ∙ ap (λ (n : ℕ). fact_from (kind f) (first_number f) n (last_byte f))
    (wide16.again (second_number f) fits.second)
    ∙ fact_from_own f
    in
    ap (checked tasks classes at) is ∙ checked_again tasks classes at f within
