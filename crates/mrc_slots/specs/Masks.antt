-- Step. Which bits of rows are what classes take. This profile's own choice.
use Rattle.std.specs.Prelude.{◌≡◌, ℕ, ◌+◌, ◌*◌, ◌/◌, ◌%◌, ◌==◌, ◌≤◌, Bool, true, false, ◌&&◌}
use Rattle.std.specs.Prelude.{nat_lt, if◌then◌else◌, []}
use Rattle.mrc_base.specs.declared.PortRight.{PortRight}
use Rattle.mrc_base.specs.declared.PortRight.TheVariants.{Send, Receive, SendOnce}
use Rattle.mrc_facts.specs.Order.{right_number}
use Rattle.std.specs.Prelude.{List, length, Vec}
use Rattle.std.specs.declared.alloc.Global.{Global}
use Rattle.mrc_bits.specs.Bits.{is_set}
use Rattle.mrc_rows.specs.Limits.{limit_of_words}
use Rattle.mrc_rows.specs.Rows.{words_of}
use Rattle.mrc_model.specs.Wiring.{Wiring, classes, accepts_destroyed, accepts_routine}
use Rattle.mrc_model.specs.Wiring.{accepts_replier}
use Rattle.mrc_slots.specs.Passing.{passes}
use Rattle.mrc_slots.specs.declared.repliers.Repliers.{Repliers}
use Rattle.mrc_slots.specs.declared.repliers.Repliers.TheVariants.{Any, Fitting}

-- the bits of the row are the places below n that pass the test
pub record IsMask (test : ℕ → Bool) (n : ℕ) (row : List ℕ) : Type 0 where
  pub few : length row ≤ limit_of_words
  pub bits : (p : ℕ) → is_set row p ≡ (nat_lt p n && test p)

-- so are the bits of each of m rows, whose test has the row's number
pub record AreMasks
    (test : ℕ → ℕ → Bool)
    (m n : ℕ)
    (rows : List (Vec ℕ Global))
    : Type 0 where
  pub few : (k : ℕ) → length (words_of rows k) ≤ limit_of_words
  pub bits : (k p : ℕ) → is_set (words_of rows k) p ≡ (nat_lt k m && (nat_lt p n && test k p))

-- the right of a number that is divided by three
abbrev pub right_at : ℕ → PortRight
right_at n = if n % 3 == 0 then Send else if n % 3 == 1 then Receive else SendOnce

-- the number of the row of a class, a right that is held and one as which it comes
abbrev pub row_number : ℕ → PortRight → PortRight → ℕ
row_number d held give = 9 * d + 3 * right_number held + right_number give

-- whether the class of row k takes the right of this row on class c
abbrev pub is_taken : Wiring → ℕ → ℕ → Bool
is_taken W k c = passes W (k / 9) c (right_at (k / 3)) (right_at k)

-- the first rows, this many
pub record AreFirst
    (test : ℕ → ℕ → Bool)
    (n count : ℕ)
    (rows : List (Vec ℕ Global))
    : Type 0 where
  pub masks : AreMasks test count n rows
  pub len : length rows ≡ count

-- of what each class takes of each right
abbrev pub AreFirstRows : Wiring → ℕ → List (Vec ℕ Global) → Type 0
AreFirstRows W count rows = AreFirst (is_taken W) (classes W) count rows

-- of which classes reply ports of requests to each class can have
abbrev pub AreFirstRepliers : Wiring → ℕ → List (Vec ℕ Global) → Type 0
AreFirstRepliers W count rows = AreFirst (accepts_replier W) (classes W) count rows

-- each place
abbrev pub is_any : ℕ → Bool
is_any p = true

-- the classes that reply ports of requests to class d can have, where `all` is the row of all
-- classes
abbrev pub replier_words : Repliers → List ℕ → ℕ → List ℕ
replier_words (Any routines) all d = if is_set routines.items d then all else []
replier_words (Fitting rows) all d = words_of rows.items d

-- If reply ports need not fit, the row has the classes that accept requests of routines. If they
-- have to fit, each class has a row of those that reply ports of its requests can have.
abbrev pub AreRepliers : Wiring → Repliers → Type 0
AreRepliers W (Any routines) =
    (W.replies_fit ≡ false) × IsMask (accepts_routine W) (classes W) routines.items
AreRepliers W (Fitting rows) = AreMasks (accepts_replier W) (classes W) (classes W) rows.items

-- what each class takes, all classes, those that accept port-destroyed notices, and those that
-- reply ports can have
pub record HasMasks
    (W : Wiring)
    (rows : List (Vec ℕ Global))
    (places accepting : List ℕ)
    (repliers : Repliers)
    : Type 0 where
  pub taken : AreMasks (is_taken W) (9 * classes W) (classes W) rows
  pub all : IsMask is_any (classes W) places
  pub notified : IsMask (accepts_destroyed W) (classes W) accepting
  pub repliers_are : AreRepliers W repliers
