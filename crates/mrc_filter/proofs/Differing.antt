-- The first difference is where the arguments are no longer met.
use Rattle.std.proofs.Common.{◌≡◌, ℕ, zero, suc, ◌+◌, Bool, true, false, ◌&&◌, List, []}
use Rattle.std.proofs.Common.{◌∷◌, Option, Some, None, refl, ap, sym, subst, ◌∙◌, arith}
use Rattle.std.specs.Prelude.{slice_get, ◌==◌, nat_le, if◌then◌else◌}
use Rattle.std.proofs.lemmas.Bool.{and_parts, and_from, leb-true, le-leb, eqb-true, eq-eqb}
use Rattle.std.proofs.lemmas.Bool.{true≢false}
use Rattle.mrc_base.specs.Disposition.{is_port_number}
use Rattle.mrc_model.specs.declared.Denied.{Denied}
use Rattle.mrc_model.specs.declared.Denied.TheVariants.{NoSuchId, WrongShape, WrongDisposition}
use Rattle.mrc_model.specs.declared.Denied.TheVariants.{ReplySlot, NotAdmitted, NotDestroyed}
use Rattle.mrc_model.specs.declared.Denied.TheVariants.{NotTaken, NotGiven, NotSent, NotForReply}
use Rattle.std.specs.List.{list_any}
use Rattle.mrc_model.specs.Message.{Arg, is_port_arg}
use Rattle.mrc_model.specs.Wiring.{ItemTypes, AnyData, OneOf, Shape}
use Rattle.mrc_model.specs.Filter.{arg_name, arg_size, arg_number, has_size, difference, or_behind}
use Rattle.mrc_model.specs.Filter.{first_difference}
use Rattle.mrc_filter.specs.Meeting.{IsCount, FitsIn, IsMet, AreMet, IsFirst}
use Rattle.mrc_filter.specs.Meeting.{DifferInShape, DifferInDisposition, IsMetBy, HasOtherName}
use Rattle.mrc_filter.specs.Meeting.{HasOtherNameBy}

-- ---- one argument

count_is : (b : Bool) (most n : ℕ) → (if b then nat_le n most else n == most) ≡ true
    → IsCount b most n
count_is true most n e = leb-true n most e
count_is false most n e = eqb-true n most e

is_count : (b : Bool) (most n : ℕ) → IsCount b most n
    → (if b then nat_le n most else n == most) ≡ true
is_count true most n e = le-leb n most e
is_count false most n e = eq-eqb n most e

size_fits : (s : Shape) (a : Arg) → has_size s a ≡ true → FitsIn s a
size_fits s a e =
    let parts = and_parts (s.size == arg_size a)
    (if s.is_bound then nat_le (arg_number a) s.number else arg_number a == s.number) e in
    (eqb-true s.size (arg_size a) parts.0, count_is s.is_bound s.number (arg_number a) parts.1)

fits_size : (s : Shape) (a : Arg) → FitsIn s a → has_size s a ≡ true
fits_size s a fits =
    and_from (s.size == arg_size a)
    (if s.is_bound then nat_le (arg_number a) s.number else arg_number a == s.number)
    (eq-eqb s.size (arg_size a) fits.0) (is_count s.is_bound s.number (arg_number a) fits.1)

-- ---- how one argument differs

-- how the argument differs, if this is the answer
abbrev Tells : ℕ → Shape → Arg → Option Denied → Type 0
Tells k s a None = IsMet s a
Tells k s a (Some (WrongShape n)) = (n ≡ k) × ¬ IsMet s a × ¬ HasOtherName s a
Tells k s a (Some (WrongDisposition n)) = (n ≡ k) × HasOtherName s a
Tells k s a (Some NoSuchId) = ⊥
Tells k s a (Some ReplySlot) = ⊥
Tells k s a (Some (NotAdmitted n)) = ⊥
Tells k s a (Some NotDestroyed) = ⊥
Tells k s a (Some NotTaken) = ⊥
Tells k s a (Some NotGiven) = ⊥
Tells k s a (Some (NotSent n)) = ⊥
Tells k s a (Some NotForReply) = ⊥

-- the same if the types of the shape are these
abbrev TellsBy : ItemTypes → ℕ → Shape → Arg → Option Denied → Type 0
TellsBy types k s a o = s.types ≡ types → Tells k s a o

any_data_tells : (k : ℕ) (s : Shape) (a : Arg) (b : Bool) → is_port_arg a ≡ b
    → TellsBy AnyData k s a (if b then Some (WrongShape k) else None)
any_data_tells k s a true e same = (
  refl,
  λ met. true≢false (sym e ∙ subst (λ types. IsMetBy types s a) same met),
  λ other. subst (λ types. HasOtherNameBy types s a) same other,
)
any_data_tells k s a false e same = subst (λ types. IsMetBy types s a) (sym same) e

ported : (k : ℕ) (s : Shape) (a : Arg) (numbers : List ℕ) (b : Bool)
    → (list_any is_port_number numbers && is_port_number (arg_name a)) ≡ b
    → has_size s a ≡ true
    → list_any (λ n. n == arg_name a) numbers ≡ false
    → TellsBy (OneOf numbers) k s a (if b then Some (WrongDisposition k) else Some (WrongShape k))
ported k s a numbers true e size none same =
    let ports = and_parts (list_any is_port_number numbers) (is_port_number (arg_name a)) e in (
      refl,
      subst (λ types. HasOtherNameBy types s a) (sym same)
          (size_fits s a size, none, ports.0, ports.1),
    )
ported k s a numbers false e size none same = (
  refl,
  λ met.
      let is = subst (λ types. IsMetBy types s a) same met in true≢false (sym is.1 ∙ none),
  λ other.
      let is = subst (λ types. HasOtherNameBy types s a) same other in
      true≢false (sym (and_from (list_any is_port_number numbers) (is_port_number (arg_name a))
      is.2 is.3) ∙ e),
)

named : (k : ℕ) (s : Shape) (a : Arg) (numbers : List ℕ) (b : Bool)
    → list_any (λ n. n == arg_name a) numbers ≡ b
    → has_size s a ≡ true
    → TellsBy (OneOf numbers) k s a (if b then None
    else if list_any is_port_number numbers && is_port_number (arg_name a)
    then Some (WrongDisposition k) else Some (WrongShape k))
named k s a numbers true e size same =
    subst (λ types. IsMetBy types s a) (sym same) (size_fits s a size, e)
named k s a numbers false e size same =
    ported k s a numbers (list_any is_port_number numbers && is_port_number (arg_name a)) refl size
    e same

sized : (k : ℕ) (s : Shape) (a : Arg) (numbers : List ℕ) (b : Bool) → has_size s a ≡ b
    → TellsBy (OneOf numbers) k s a (if b
    then (if list_any (λ n. n == arg_name a) numbers then None
    else if list_any is_port_number numbers && is_port_number (arg_name a)
    then Some (WrongDisposition k) else Some (WrongShape k))
    else Some (WrongShape k))
sized k s a numbers true e same =
    named k s a numbers (list_any (λ n. n == arg_name a) numbers) refl e same
sized k s a numbers false e same = (
  refl,
  λ met.
      let is = subst (λ types. IsMetBy types s a) same met in
      true≢false (sym (fits_size s a is.0) ∙ e),
  λ other.
      let is = subst (λ types. HasOtherNameBy types s a) same other in
      true≢false (sym (fits_size s a is.0) ∙ e),
)

tells_by : (types : ItemTypes) (k : ℕ) (s : Shape) (a : Arg)
    → TellsBy types k s a (difference k types s a)
tells_by AnyData k s a same = any_data_tells k s a (is_port_arg a) refl same
tells_by (OneOf numbers) k s a same = sized k s a numbers (has_size s a) refl same

tells : (k : ℕ) (s : Shape) (a : Arg) → Tells k s a (difference k s.types s a)
tells k s a = tells_by s.types k s a refl

-- an argument with another disposition is not met
other_is_not_met : (types : ItemTypes) (s : Shape) (a : Arg) → HasOtherNameBy types s a
    → IsMetBy types s a → ⊥
other_is_not_met AnyData s a other met = other
other_is_not_met (OneOf numbers) s a other met = true≢false (sym met.1 ∙ other.1)

-- ---- the answer of such an argument

met_is_none : (k : ℕ) (s : Shape) (a : Arg) → IsMet s a → difference k s.types s a ≡ None
met_is_none k s a met = go (difference k s.types s a) (tells k s a)
  where
    go : (o : Option Denied) → Tells k s a o → o ≡ None
    go None t = refl
    go (Some (WrongShape n)) t = absurd (t.1 met)
    go (Some (WrongDisposition n)) t = absurd (other_is_not_met s.types s a t.1 met)
    go (Some NoSuchId) t = absurd t
    go (Some ReplySlot) t = absurd t
    go (Some (NotAdmitted n)) t = absurd t
    go (Some NotDestroyed) t = absurd t
    go (Some NotTaken) t = absurd t
    go (Some NotGiven) t = absurd t
    go (Some (NotSent n)) t = absurd t
    go (Some NotForReply) t = absurd t

shape_is_told : (k : ℕ) (s : Shape) (a : Arg) → ¬ IsMet s a × ¬ HasOtherName s a
    → difference k s.types s a ≡ Some (WrongShape k)
shape_is_told k s a differ = go (difference k s.types s a) (tells k s a)
  where
    go : (o : Option Denied) → Tells k s a o → o ≡ Some (WrongShape k)
    go None t = absurd (differ.0 t)
    go (Some (WrongShape n)) t = ap (λ i. Some (WrongShape i)) t.0
    go (Some (WrongDisposition n)) t = absurd (differ.1 t.1)
    go (Some NoSuchId) t = absurd t
    go (Some ReplySlot) t = absurd t
    go (Some (NotAdmitted n)) t = absurd t
    go (Some NotDestroyed) t = absurd t
    go (Some NotTaken) t = absurd t
    go (Some NotGiven) t = absurd t
    go (Some (NotSent n)) t = absurd t
    go (Some NotForReply) t = absurd t

other_is_told : (k : ℕ) (s : Shape) (a : Arg) → HasOtherName s a
    → difference k s.types s a ≡ Some (WrongDisposition k)
other_is_told k s a other = go (difference k s.types s a) (tells k s a)
  where
    go : (o : Option Denied) → Tells k s a o → o ≡ Some (WrongDisposition k)
    go None t = absurd (other_is_not_met s.types s a other t)
    go (Some (WrongShape n)) t = absurd (t.2 other)
    go (Some (WrongDisposition n)) t = ap (λ i. Some (WrongDisposition i)) t.0
    go (Some NoSuchId) t = absurd t
    go (Some ReplySlot) t = absurd t
    go (Some (NotAdmitted n)) t = absurd t
    go (Some NotDestroyed) t = absurd t
    go (Some NotTaken) t = absurd t
    go (Some NotGiven) t = absurd t
    go (Some (NotSent n)) t = absurd t
    go (Some NotForReply) t = absurd t

-- ---- what the first difference tells

abbrev ToldOf : ℕ → List Shape → List Arg → Denied → Type 0
ToldOf k ss args (WrongShape n) = (i : ℕ) × (n ≡ k + i) × IsFirst DifferInShape ss args i
ToldOf k ss args (WrongDisposition n) =
    (i : ℕ) × (n ≡ k + i) × IsFirst DifferInDisposition ss args i
ToldOf k ss args NoSuchId = ⊥
ToldOf k ss args ReplySlot = ⊥
ToldOf k ss args (NotAdmitted n) = ⊥
ToldOf k ss args NotDestroyed = ⊥
ToldOf k ss args NotTaken = ⊥
ToldOf k ss args NotGiven = ⊥
ToldOf k ss args (NotSent n) = ⊥
ToldOf k ss args NotForReply = ⊥

abbrev pub Told : ℕ → List Shape → List Arg → Option Denied → Type 0
Told k ss args None = AreMet ss args
Told k ss args (Some denied) = ToldOf k ss args denied

-- one argument more is met in front
behind : (k : ℕ) (s : Shape) (ss : List Shape) (a : Arg) (more : List Arg) (o : Option Denied)
    → IsMet s a → Told (k + 1) ss more o → Told k (s ∷ ss) (a ∷ more) o
behind k s ss a more None met t = (met, t)
behind k s ss a more (Some (WrongShape n)) met (i, e, first) =
    (suc i, omega arith, record { before = (met, first.before); here = first.here })
behind k s ss a more (Some (WrongDisposition n)) met (i, e, first) =
    (suc i, omega arith, record { before = (met, first.before); here = first.here })
behind k s ss a more (Some NoSuchId) met t = t
behind k s ss a more (Some ReplySlot) met t = t
behind k s ss a more (Some (NotAdmitted n)) met t = t
behind k s ss a more (Some NotDestroyed) met t = t
behind k s ss a more (Some NotTaken) met t = t
behind k s ss a more (Some NotGiven) met t = t
behind k s ss a more (Some (NotSent n)) met t = t
behind k s ss a more (Some NotForReply) met t = t

-- the first argument differs, or those after it do
in_front : (k : ℕ) (s : Shape) (ss : List Shape) (a : Arg) (more : List Arg)
    (o rest : Option Denied)
    → Tells k s a o
    → Told (k + 1) ss more rest
    → Told k (s ∷ ss) (a ∷ more) (or_behind o rest)
in_front k s ss a more None rest t behind_it = behind k s ss a more rest t behind_it
in_front k s ss a more (Some (WrongShape n)) rest t behind_it =
    let e = t.0 in (0, omega (arith, e), record { before = tt; here = (t.1, t.2) })
in_front k s ss a more (Some (WrongDisposition n)) rest t behind_it =
    let e = t.0 in (0, omega (arith, e), record { before = tt; here = t.1 })
in_front k s ss a more (Some NoSuchId) rest t behind_it = absurd t
in_front k s ss a more (Some ReplySlot) rest t behind_it = absurd t
in_front k s ss a more (Some (NotAdmitted n)) rest t behind_it = absurd t
in_front k s ss a more (Some NotDestroyed) rest t behind_it = absurd t
in_front k s ss a more (Some NotTaken) rest t behind_it = absurd t
in_front k s ss a more (Some NotGiven) rest t behind_it = absurd t
in_front k s ss a more (Some (NotSent n)) rest t behind_it = absurd t
in_front k s ss a more (Some NotForReply) rest t behind_it = absurd t

pub told : (k : ℕ) (ss : List Shape) (args : List Arg) → Told k ss args (first_difference k ss args)
told k [] [] = tt
told k [] (a ∷ more) = (0, omega arith, record { before = tt; here = tt })
told k (s ∷ ss) [] = (0, omega arith, record { before = tt; here = tt })
told k (s ∷ ss) (a ∷ more) =
    in_front k s ss a more (difference k s.types s a) (first_difference (k + 1) ss more)
    (tells k s a) (told (k + 1) ss more)

-- ---- and where it is told

met_goes_on : (k : ℕ) (s : Shape) (ss : List Shape) (a : Arg) (more : List Arg) → IsMet s a
    → first_difference k (s ∷ ss) (a ∷ more) ≡ first_difference (k + 1) ss more
met_goes_on k s ss a more met =
    ap (λ o. or_behind o (first_difference (k + 1) ss more)) (met_is_none k s a met)

pub met_none : (k : ℕ) (ss : List Shape) (args : List Arg) → AreMet ss args
    → first_difference k ss args ≡ None
met_none k [] [] met = refl
met_none k [] (a ∷ more) met = absurd met
met_none k (s ∷ ss) [] met = absurd met
met_none k (s ∷ ss) (a ∷ more) met =
    met_goes_on k s ss a more met.0 ∙ met_none (k + 1) ss more met.1

-- a difference at the first place
shape_here : (k : ℕ) (ss : List Shape) (args : List Arg)
    → DifferInShape (slice_get ss 0) (slice_get args 0)
    → first_difference k ss args ≡ Some (WrongShape k)
shape_here k [] [] differ = absurd differ
shape_here k [] (a ∷ more) differ = refl
shape_here k (s ∷ ss) [] differ = refl
shape_here k (s ∷ ss) (a ∷ more) differ =
    ap (λ o. or_behind o (first_difference (k + 1) ss more)) (shape_is_told k s a differ)

disposition_here : (k : ℕ) (ss : List Shape) (args : List Arg)
    → DifferInDisposition (slice_get ss 0) (slice_get args 0)
    → first_difference k ss args ≡ Some (WrongDisposition k)
disposition_here k [] args differ = absurd differ
disposition_here k (s ∷ ss) [] differ = absurd differ
disposition_here k (s ∷ ss) (a ∷ more) differ =
    ap (λ o. or_behind o (first_difference (k + 1) ss more)) (other_is_told k s a differ)

-- a difference at a later place
found : (Differ : Option Shape → Option Arg → Type 0) (denied : ℕ → Denied)
    → (Differ None None → ⊥)
    → ((k : ℕ) (ss : List Shape) (args : List Arg)
    → Differ (slice_get ss 0) (slice_get args 0)
    → first_difference k ss args ≡ Some (denied k))
    → (k i : ℕ) (ss : List Shape) (args : List Arg)
    → IsFirst Differ ss args i
    → first_difference k ss args ≡ Some (denied (k + i))
found Differ denied none at k zero ss args first =
    let same : k ≡ k + 0 = omega arith in
    at k ss args first.here ∙ ap (λ n. Some (denied n)) same
found Differ denied none at k (suc i) [] [] first = absurd (none first.here)
found Differ denied none at k (suc i) [] (a ∷ more) first = absurd first.before
found Differ denied none at k (suc i) (s ∷ ss) [] first = absurd first.before
found Differ denied none at k (suc i) (s ∷ ss) (a ∷ more) first =
    let same : k + 1 + i ≡ k + suc i = omega arith in
    met_goes_on k s ss a more first.before.0
    ∙ found Differ denied none at (k + 1) i ss more
    record { before = first.before.1; here = first.here }
    ∙ ap (λ n. Some (denied n)) same

pub shape_found : (i : ℕ) (ss : List Shape) (args : List Arg) → IsFirst DifferInShape ss args i
    → first_difference 0 ss args ≡ Some (WrongShape i)
shape_found i ss args first =
    let same : 0 + i ≡ i = omega arith in
    found DifferInShape WrongShape (λ differ. differ) shape_here 0 i ss args first
    ∙ ap (λ n. Some (WrongShape n)) same

pub disposition_found : (i : ℕ) (ss : List Shape) (args : List Arg)
    → IsFirst DifferInDisposition ss args i
    → first_difference 0 ss args ≡ Some (WrongDisposition i)
disposition_found i ss args first =
    let same : 0 + i ≡ i = omega arith in
    found DifferInDisposition WrongDisposition (λ differ. differ) disposition_here 0 i ss args
    first
    ∙ ap (λ n. Some (WrongDisposition n)) same
