-- The order of facts is the order of their bytes.
use Rattle.std.proofs.Common.{◌≡◌, ℕ, ◌/◌, ◌%◌, ◌^◌, ◌<◌, refl, ap, ◌∙◌, inl, inr, arith}
use Rattle.std.specs.declared.cmp.Ordering.{Ordering}
use Rattle.std.specs.declared.cmp.Ordering.TheVariants.{Less, Equal, Greater}
use Rattle.std.specs.Ordering.{nat_cmp, ordering_then}
use Rattle.std.proofs.lemmas.Bool.{cases_order, lt-ltb, le-ltb, eq-eqb, ne_eqb}
use Rattle.mrc_facts.specs.Order.{kind, first_number, second_number, last_byte}
use Rattle.mrc_facts.specs.Laws.{InByteOrder}
use Rattle.mrc_facts.proofs.Derived.{then_equal}

cmp_less : (m n : ℕ) → m < n → nat_cmp m n ≡ Less
cmp_less m n h = rw (lt-ltb m n h) refl

cmp_greater : (m n : ℕ) → n < m → nat_cmp m n ≡ Greater
cmp_greater m n h = rw (le-ltb m n (omega arith), ne_eqb m n (omega arith)) refl

cmp_equal : (m n : ℕ) → m ≡ n → nat_cmp m n ≡ Equal
cmp_equal m n h = rw (le-ltb m n (omega arith), eq-eqb m n h) refl

-- two bytes compare as the number that they spell
two_bytes : (m n : ℕ) (o : Ordering)
    → m < 2 ^ 16
    → n < 2 ^ 16
    → ordering_then (nat_cmp m n) o ≡ ordering_then (nat_cmp (m / 256 % 256) (n / 256 % 256))
    (ordering_then (nat_cmp (m % 256) (n % 256)) o)
two_bytes m n o fits_m fits_n =
    elim (cases_order m n) [
      | inl same ↦ rw (
        cmp_equal m n same,
        cmp_equal (m / 256 % 256) (n / 256 % 256)
            (ap (λ k. k / 256 % 256) same),
        cmp_equal (m % 256) (n % 256) (ap (λ k. k % 256) same),
      )
          refl
      | inr (inl less) ↦ rw (cmp_less m n less)
          (elim (cases_order (m / 256 % 256) (n / 256 % 256)) [
            | inl same ↦ rw (
              cmp_equal (m / 256 % 256) (n / 256 % 256) same,
              cmp_less (m % 256)
                  (n % 256) (omega arith),
            ) refl
            | inr (inl less_high) ↦ rw (cmp_less (m / 256 % 256) (n / 256 % 256) less_high) refl
            | inr (inr greater) ↦ absurd (omega arith)
          ])
      | inr (inr greater) ↦ rw (cmp_greater m n greater)
          (elim (cases_order (m / 256 % 256) (n / 256 % 256)) [
            | inl same ↦ rw (
              cmp_equal (m / 256 % 256) (n / 256 % 256) same,
              cmp_greater (m % 256)
                  (n % 256) (omega arith),
            ) refl
            | inr (inl less) ↦ absurd (omega arith)
            | inr (inr greater_high) ↦ rw (cmp_greater (m / 256 % 256) (n / 256 % 256) greater_high)
                refl
          ])
    ]

pub in_byte_order : InByteOrder
in_byte_order f g fits_f fits_g =
    let last = nat_cmp (last_byte f) (last_byte g) in
    let first = nat_cmp (first_number f) (first_number g) in
    let second = nat_cmp (second_number f) (second_number g) in
    let second_bytes = ap (ordering_then second) (then_equal last)
    ∙ two_bytes (second_number f) (second_number g) (ordering_then last Equal) fits_f.second
    fits_g.second in
    ap (ordering_then (nat_cmp (kind f) (kind g)))
    (ap (ordering_then first) second_bytes
    ∙ two_bytes (first_number f) (first_number g) _ fits_f.first fits_g.first)
