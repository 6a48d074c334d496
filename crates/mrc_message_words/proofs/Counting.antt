-- Numbers as bytes: what is written is read, and what is read was written.
use Rattle.std.proofs.Common.{◌≡◌, ℕ, zero, suc, ◌+◌, ◌-◌, ◌*◌, ◌/◌, ◌%◌, ◌^◌, ◌<◌, ◌≤◌, true}
use Rattle.std.proofs.Common.{false, List, [], ◌∷◌, ◌++◌, length, get_or, drop, refl, sym, ap}
use Rattle.std.proofs.Common.{◌∙◌, arith, ltb, eqb, append_assoc, inl, inr}
use Rattle.std.specs.List.{flat_map, AllByRecursion}
use Rattle.std.proofs.lemmas.Bool.{lt-ltb, le-ltb, cases_lt}
use Rattle.std.proofs.lemmas.Bool.Decides.{nat_tests}
use Rattle.std.proofs.lemmas.Nat.{pow-add, pow_pos}
use Rattle.std.proofs.lemmas.List.{flat_map_more}
use Rattle.std.proofs.Math.Pow.{pow_mono}
use Rattle.std.proofs.Math.Seq.{drop-cons}
use Rattle.std.proofs.Math.Nat.{div-eq_of_lt, div-lt_iff_lt-mul, suc-mul}
use Rattle.mrc_message_words.specs.Values.{number_bytes}

-- a number of 64 bits is below each larger power
pub below_large : (size number : ℕ) → number < 2 ^ 64 → 64 ≤ size → ltb number (2 ^ size) ≡ true
below_large size number fits large =
    let most : 2 ^ 64 ≤ 2 ^ size = pow_mono large in
    lt-ltb number (2 ^ size) (omega arith)

-- nothing is left above so many bits if and only if the number is below that power
shifted_by : (power number : ℕ) → 0 < power → eqb (number / power) 0 ≡ ltb number power
shifted_by power number some =
    elim (cases_lt number power) [
      | inl below ↦ ap (λ n. eqb n 0) (div-eq_of_lt below) ∙ sym (lt-ltb number power below)
      | inr above ↦ differ_eqb (number / power) (some_left power number some above)
          ∙ sym (le-ltb number power above)
    ]
  where
    some_left : (power number : ℕ) → 0 < power → power ≤ number → 0 < number / power
    some_left power number some above =
        elim (cases_lt (number / power) 1) [
          | inl none ↦
              let below = (div-lt_iff_lt-mul {k = power} {x = number} {y = 1} some).0 none in
              absurd (omega (arith, below))
          | inr one ↦ one
        ]

    differ_eqb : (n : ℕ) → 0 < n → eqb n 0 ≡ false
    differ_eqb zero h = absurd (omega arith)
    differ_eqb (suc n) h = grind (arith, nat_tests)

pub shifted : (size number : ℕ) → eqb (number / 2 ^ size) 0 ≡ ltb number (2 ^ size)
shifted size number = shifted_by (2 ^ size) number (pow_pos size)

-- one more byte in front
pub one_more_bits : (count number byte : ℕ) → number < 2 ^ (8 * count) → byte < 256
    → number * 256 + byte < 2 ^ (8 * suc count)
one_more_bits count number byte fits b =
    let e : 2 ^ (8 * suc count) ≡ 2 ^ (8 * count) * 2 ^ 8 =
    ap (λ n. 2 ^ n) (omega arith) ∙ pow-add 2 (8 * count) 8 in
    rw e (omega arith)

pub one_more_byte : (count number byte : ℕ) → byte < 256
    → number_bytes (suc count) (number * 256 + byte) ≡ byte ∷ number_bytes count number
one_more_byte count number byte b =
    let low : (number * 256 + byte) % 256 ≡ byte = omega arith in
    let high : (number * 256 + byte) / 256 ≡ number = omega arith in
    rw (low, high) refl

eight_times : (count : ℕ) → count ≤ 7 → 8 * count ≤ 56
eight_times count few = omega arith

-- so few bytes leave room for one more
pub has_room : (count number : ℕ) → count ≤ 7 → number < 2 ^ (8 * count) → number < 2 ^ 56
has_room count number few fits =
    let most : 2 ^ (8 * count) ≤ 2 ^ 56 = pow_mono (eight_times count few) in
    omega arith

-- a byte of a number is put
pub put_step : (out goal : List ℕ) (width counter rest byte : ℕ)
    → counter < width → byte ≡ rest % 256
    → out ++ number_bytes (width - counter) rest ≡ goal
    → (out ++ byte ∷ []) ++ number_bytes (width - (counter + 1)) (rest / 256) ≡ goal
put_step out goal width counter rest byte below is so =
    let e : width - counter ≡ suc (width - (counter + 1)) = omega arith in
    append_assoc out (byte ∷ []) (number_bytes (width - (counter + 1)) (rest / 256))
    ∙ ap (λ b. out ++ b ∷ number_bytes (width - (counter + 1)) (rest / 256)) is
    ∙ ap (λ k. out ++ number_bytes k rest) (sym e) ∙ so

-- a byte is read, from the back
pub read_step : (bytes : List ℕ) (place number byte : ℕ)
    → 0 < place → place ≤ length bytes → byte ≡ get_or bytes (place - 1) 0 → byte < 256
    → number_bytes (length bytes - place) number ≡ drop place bytes
    → number_bytes (length bytes - (place - 1)) (number * 256 + byte) ≡ drop (place - 1) bytes
read_step bytes place number byte some within is fits so =
    let e : length bytes - (place - 1) ≡ suc (length bytes - place) = omega arith in
    let p : suc (place - 1) ≡ place = omega arith in
    ap (λ k. number_bytes k (number * 256 + byte)) e
    ∙ one_more_byte (length bytes - place) number byte fits
    ∙ ap (λ rest. byte ∷ rest) so
    ∙ ap (λ b. b ∷ drop place bytes) is
    ∙ sym (drop-cons bytes (place - 1) 0 (omega arith)
    ∙ ap (λ k. get_or bytes (place - 1) 0 ∷ drop k bytes) p)

pub read_bits : (len place number byte : ℕ)
    → 0 < place → place ≤ len → byte < 256
    → number < 2 ^ (8 * (len - place)) → number * 256 + byte < 2 ^ (8 * (len - (place - 1)))
read_bits len place number byte some within byte_fits fits =
    let e : len - (place - 1) ≡ suc (len - place) = omega arith in
    rw e (one_more_bits (len - place) number byte fits byte_fits)

-- one more at the end
pub all_more : {X : Type 0} (P : X → Type 0) (xs : List X) (x : X) → AllByRecursion P xs → P x
    → AllByRecursion P (xs ++ x ∷ [])
all_more P [] x all here = (here, tt)
all_more P (y ∷ xs) x all here = (all.0, all_more P xs x all.1 here)

-- the next item is read
pub item_step : (bytes item behind rest : List ℕ) (numbers : List ℕ) (width number : ℕ)
    → flat_map (number_bytes width) numbers ++ rest ≡ bytes
    → item ++ behind ≡ rest
    → number_bytes width number ≡ item
    → flat_map (number_bytes width) (numbers ++ number ∷ []) ++ behind ≡ bytes
item_step bytes item behind rest numbers width number so parts is =
    ap (λ xs. xs ++ behind) (sym (flat_map_more (number_bytes width) [] numbers number))
    ∙ append_assoc (flat_map (number_bytes width) numbers) (number_bytes width number) behind
    ∙ ap (λ xs. flat_map (number_bytes width) numbers ++ (xs ++ behind)) is
    ∙ ap (λ xs. flat_map (number_bytes width) numbers ++ xs) parts
    ∙ so

-- and so many are left
pub left_step : (count counter width rest behind : ℕ) → counter < count
    → rest ≡ (count - counter) * width → behind + width ≡ rest
    → behind ≡ (count - (counter + 1)) * width
left_step count counter width rest behind below so parts =
    let e : count - counter ≡ suc (count - (counter + 1)) = omega arith in
    let f : (count - counter) * width ≡ (count - (counter + 1)) * width + width =
    ap (λ n. n * width) e ∙ suc-mul (count - (counter + 1)) width in
    omega arith
