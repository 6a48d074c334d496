-- What rows of bits say of trusted tasks.
use Rattle.std.proofs.Common.{◌≡◌, ℕ, ◌+◌, ◌*◌, ◌<◌, ◌==◌, Bool, true, false, Vec, Option}
use Rattle.std.proofs.Common.{Some, None}
use Rattle.std.proofs.Common.{List, [], ◌∷◌, length, refl, ap, sym, ◌∙◌, inl, inr, arith, cond}
use Rattle.std.specs.Prelude.{◌≤◌, ◌||◌, ◌&&◌, ⊤, nat_lt, option_and_then, unwrap_or, if◌then◌else◌}
use Rattle.std.specs.List.{list_any}
use Rattle.std.specs.Option.{option_map}
use Rattle.std.specs.declared.alloc.Global.{Global}
use Rattle.std.proofs.lemmas.Bool.{cases_eq, cases_lt, eq-eqb, ne_eqb, lt-ltb, le-ltb, ltb-true}
use Rattle.std.proofs.Math.Bool.{and-false}
use Rattle.mrc_base.specs.declared.PortRight.{PortRight}
use Rattle.mrc_base.specs.declared.PortRight.TheVariants.{Send, Receive, SendOnce}
use Rattle.mrc_bits.specs.Bits.{is_set}
use Rattle.mrc_model.specs.Rights.{same_right}
use Rattle.mrc_model.specs.declared.Verb.{Verb}
use Rattle.mrc_model.specs.declared.Verb.TheVariants.{Takes, Gives, Sends, Replies}
use Rattle.mrc_model.specs.Wiring.{is_line_of, admits_by, same_verb, is_trust_of}
use Rattle.mrc_model.specs.Wiring.{is_right_on, trusts_by}
use Rattle.mrc_wiring.specs.declared.births.BirthRow.{BirthRow}
use Rattle.mrc_wiring.specs.declared.table.NumberedRight.{NumberedRight}
use Rattle.mrc_wiring.specs.declared.table.TrustedLine.{TrustedLine}
use Rattle.mrc_wiring.specs.Marks.{words_at}
use Rattle.mrc_wiring.specs.Table.{class_within, kind_class, right_by, trusted_by, trusted_of}
use Rattle.mrc_wiring.specs.Trusting.{trust_row, place_on, trust_mark, trust_marks}
use Rattle.mrc_wiring.specs.Trusting.{IsTrusting, right_words, right_place, limit_of_classes}

-- ---- a line is of its row

same_rows : (i t s : ℕ) → ((4 * s + i) == (4 * t + i)) ≡ (s == t)
same_rows i t s = elim (cases_eq s t) [
  | inl e ↦ eq-eqb (4 * s + i) (4 * t + i) (omega (arith, e)) ∙ sym (eq-eqb s t e)
  | inr other ↦
      ne_eqb (4 * s + i) (4 * t + i) (λ e. other (omega (arith, e))) ∙ sym (ne_eqb s t other)
]

pub row_is : (v u : Verb) (t s : ℕ) → (trust_row u s == trust_row v t) ≡ (same_verb v u && s == t)
row_is Takes Takes t s = same_rows 0 t s
row_is Takes Gives t s = ne_eqb _ _ (λ e. omega (arith, e))
row_is Takes Sends t s = ne_eqb _ _ (λ e. omega (arith, e))
row_is Takes Replies t s = ne_eqb _ _ (λ e. omega (arith, e))
row_is Gives Takes t s = ne_eqb _ _ (λ e. omega (arith, e))
row_is Gives Gives t s = same_rows 1 t s
row_is Gives Sends t s = ne_eqb _ _ (λ e. omega (arith, e))
row_is Gives Replies t s = ne_eqb _ _ (λ e. omega (arith, e))
row_is Sends Takes t s = ne_eqb _ _ (λ e. omega (arith, e))
row_is Sends Gives t s = ne_eqb _ _ (λ e. omega (arith, e))
row_is Sends Sends t s = same_rows 2 t s
row_is Sends Replies t s = ne_eqb _ _ (λ e. omega (arith, e))
row_is Replies Takes t s = ne_eqb _ _ (λ e. omega (arith, e))
row_is Replies Gives t s = ne_eqb _ _ (λ e. omega (arith, e))
row_is Replies Sends t s = ne_eqb _ _ (λ e. omega (arith, e))
row_is Replies Replies t s = same_rows 3 t s

-- ---- a right on a class is of its place

-- the class that is named is one of so many
abbrev Within : ℕ → Option (PortRight × ℕ) → Type 0
Within n None = ⊤
Within n (Some on) = on.1 < n

class_in : (n : ℕ) (q : PortRight) (o : Option ℕ)
    → Within n (option_map (λ (c : ℕ). (q, c)) (class_within n o))
class_in n q None = tt
class_in n q (Some c) = go (nat_lt c n) refl
  where
    go : (b : Bool) → nat_lt c n ≡ b
        → Within n (option_map (λ (d : ℕ). (q, d)) (cond b (Some c) None))
    go true e = ltb-true c n e
    go false e = tt

within_more : (n m : ℕ) (right : Option (PortRight × ℕ)) → n ≤ m → Within n right → Within m right
within_more n m None few within = tt
within_more n m (Some on) few within = omega (arith, few, within)

right_in : (ports tasks : ℕ) (births : List BirthRow) (o : Option NumberedRight)
    → Within (ports + tasks + length births) (option_and_then (right_by ports tasks births) o)
right_in ports tasks births None = tt
right_in ports tasks births (Some on) =
    class_in (ports + tasks + length births) on.right
    (kind_class ports tasks births on.class.kind on.class.number)

-- of two classes of so many, each in the part of its right

same_parts : (n c d : ℕ) → ((n + d) == (n + c)) ≡ (d == c)
same_parts n c d = elim (cases_eq d c) [
  | inl e ↦ eq-eqb (n + d) (n + c) (omega (arith, e)) ∙ sym (eq-eqb d c e)
  | inr other ↦
      ne_eqb (n + d) (n + c) (λ e. other (omega (arith, e))) ∙ sym (ne_eqb d c other)
]

same_places : (c d : ℕ) (r q : PortRight) → c < limit_of_classes → d < limit_of_classes
    → (right_place q d == right_place r c) ≡ (same_right r q && d == c)
same_places c d Send Send one two = same_parts (limit_of_classes * 0) c d
same_places c d Send Receive one two = ne_eqb _ _ (λ e. omega (arith, one, two, e))
same_places c d Send SendOnce one two = ne_eqb _ _ (λ e. omega (arith, one, two, e))
same_places c d Receive Send one two = ne_eqb _ _ (λ e. omega (arith, one, two, e))
same_places c d Receive Receive one two = same_parts (limit_of_classes * 1) c d
same_places c d Receive SendOnce one two = ne_eqb _ _ (λ e. omega (arith, one, two, e))
same_places c d SendOnce Send one two = ne_eqb _ _ (λ e. omega (arith, one, two, e))
same_places c d SendOnce Receive one two = ne_eqb _ _ (λ e. omega (arith, one, two, e))
same_places c d SendOnce SendOnce one two = same_parts (limit_of_classes * 2) c d

on_place : (c d : ℕ) (r q : PortRight) → d < limit_of_classes
    → (nat_lt c limit_of_classes && (right_place q d == right_place r c))
    ≡ (same_right r q && d == c)
on_place c d r q within = elim (cases_lt c limit_of_classes) [
  | inl below ↦
      ap (λ b. b && (right_place q d == right_place r c)) (lt-ltb c limit_of_classes below)
      ∙ same_places c d r q below within
  | inr past ↦
      ap (λ b. b && (right_place q d == right_place r c)) (le-ltb c limit_of_classes past)
      ∙ sym (ap (λ b. same_right r q && b) (ne_eqb d c (λ e. omega (arith, e, within, past)))
      ∙ and-false (same_right r q))
]

right_marks : (c : ℕ) (r : PortRight) (right : Option (PortRight × ℕ))
    → Within limit_of_classes right
    → (nat_lt c limit_of_classes && unwrap_or (option_map (λ (p : ℕ). p == right_place r c)
    (option_map place_on right)) false) ≡ is_right_on r c right
right_marks c r None within = and-false (nat_lt c limit_of_classes)
right_marks c r (Some on) within = on_place c on.1 r on.0 within

-- ---- all lines

swapped : (a b x y z : Bool) → a ≡ b → (z && x) ≡ y → (z && (a && x)) ≡ (b && y)
swapped true true x y z e f = f
swapped true false x y z e f = absurd cc
swapped false true x y z e f = absurd cc
swapped false false x y z e f = and-false z

either_of : (z a b x y : Bool) → (z && a) ≡ x → (z && b) ≡ y → (z && (a || b)) ≡ (x || y)
either_of true a b x y e f = ap (λ c. c || b) e ∙ ap (λ c. x || c) f
either_of false a b x y e f = f ∙ ap (λ c. c || y) e

-- ---- all lines of a table

module _ (ports tasks : ℕ) (births : List BirthRow)
    (few : ports + tasks + length births ≤ limit_of_classes) where
  pub rows_named : (v : Verb) (t : ℕ) (lines : List TrustedLine)
      → list_any (is_line_of (trust_row v t)) (trust_marks ports tasks births lines)
      ≡ list_any (is_trust_of v t) (trusted_of ports tasks births lines)
  rows_named v t [] = refl
  rows_named v t (line ∷ lines) =
      ap (λ b. b || list_any (is_line_of (trust_row v t)) (trust_marks ports tasks births lines))
      (row_is v line.verb t line.task)
      ∙ ap (λ b. (same_verb v line.verb && line.task == t) || b) (rows_named v t lines)

  line_marks : (v : Verb) (t : ℕ) (r : PortRight) (c : ℕ) (line : TrustedLine)
      → (nat_lt c limit_of_classes
      && admits_by (trust_row v t) (right_place r c)
      (trust_mark (trusted_by ports tasks births line)))
      ≡ trusts_by v t r c (trusted_by ports tasks births line)
  line_marks v t r c line =
      swapped _ _ _ _ (nat_lt c limit_of_classes) (row_is v line.verb t line.task)
      (right_marks c r (option_and_then (right_by ports tasks births) line.right)
      (within_more (ports + tasks + length births) limit_of_classes _ few
      (right_in ports tasks births line.right)))

  pub places_marked : (v : Verb) (t : ℕ) (r : PortRight) (c : ℕ) (lines : List TrustedLine)
      → (nat_lt c limit_of_classes
      && list_any (admits_by (trust_row v t) (right_place r c))
      (trust_marks ports tasks births lines))
      ≡ list_any (trusts_by v t r c) (trusted_of ports tasks births lines)
  places_marked v t r c [] = and-false (nat_lt c limit_of_classes)
  places_marked v t r c (line ∷ lines) =
      either_of (nat_lt c limit_of_classes) _ _ _ _ (line_marks v t r c line)
      (places_marked v t r c lines)

  -- what is below the number of classes is in a row
  below_place : (c : ℕ) (r : PortRight) (x : Bool)
      → (nat_lt c limit_of_classes && (nat_lt (right_place r c) (3 * limit_of_classes) && x))
      ≡ (nat_lt c limit_of_classes && x)
  below_place c r x = elim (cases_lt c limit_of_classes) [
    | inl low ↦
        ap (λ b. nat_lt c limit_of_classes && (b && x)) (place r low)
    | inr high ↦ rw (le-ltb c limit_of_classes high) refl
  ]
    where
      place : (r : PortRight) → c < limit_of_classes
          → nat_lt (right_place r c) (3 * limit_of_classes) ≡ true
      place Send low = lt-ltb _ _ (omega (arith, low))
      place Receive low = lt-ltb _ _ (omega (arith, low))
      place SendOnce low = lt-ltb _ _ (omega (arith, low))

  -- the row of a verb and a task has words if a line names them, and the bits of what is named

  pub row_limits : (lines : List TrustedLine) (rows : List (Vec ℕ Global))
      → IsTrusting ports tasks births lines rows
      → (v : Verb) (t : ℕ)
      → nat_lt 0 (length (words_at rows (trust_row v t)))
      ≡ list_any (is_trust_of v t) (trusted_of ports tasks births lines)
  row_limits lines rows is v t =
      ap (nat_lt 0) (is.wide (trust_row v t))
      ∙ (long (list_any (is_line_of (trust_row v t)) (trust_marks ports tasks births lines))
      ∙ rows_named v t lines)
    where
      long : (b : Bool) → nat_lt 0 (if b then right_words else 0) ≡ b
      long true = refl
      long false = refl

  pub row_names : (lines : List TrustedLine) (rows : List (Vec ℕ Global))
      → IsTrusting ports tasks births lines rows
      → (v : Verb) (t : ℕ) (c : ℕ) (r : PortRight)
      → (nat_lt c limit_of_classes && is_set (words_at rows (trust_row v t)) (right_place r c))
      ≡ list_any (trusts_by v t r c) (trusted_of ports tasks births lines)
  row_names lines rows is v t c r =
      ap (λ b. nat_lt c limit_of_classes && b) (is.bits (trust_row v t) (right_place r c))
      ∙ (below_place c r (list_any (admits_by (trust_row v t) (right_place r c))
      (trust_marks ports tasks births lines))
      ∙ places_marked v t r c lines)
