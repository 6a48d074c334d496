-- Law. When each answer to a message comes, place by place. What it is for a message to meet a
-- form, place by place, after MIG (Server Writer's Guide), and the law that the filter answers by
-- it.
use Rattle.std.specs.Prelude.{◌≡◌, ◌≢◌, ◌↔◌, ℕ, ◌≤◌, Bool, true, false, List, [], ◌∷◌, take, Option}
use Rattle.std.specs.Prelude.{◌==◌, Some, None, Result, Ok, Err, find, slice_get}
use Rattle.std.specs.List.{list_any}
use Rattle.mrc_base.specs.Disposition.{is_port_number}
use Rattle.mrc_model.specs.declared.Denied.{Denied}
use Rattle.mrc_model.specs.declared.Denied.TheVariants.{NoSuchId, WrongShape, WrongDisposition}
use Rattle.mrc_model.specs.declared.Denied.TheVariants.{ReplySlot, NotAdmitted, NotDestroyed}
use Rattle.mrc_model.specs.declared.Denied.TheVariants.{NotTaken, NotGiven, NotSent, NotForReply}
use Rattle.mrc_model.specs.IsIn.{IsIn}
use Rattle.mrc_model.specs.Message.{Message, Arg, is_port_arg}
use Rattle.mrc_model.specs.Wiring.{ItemTypes, AnyData, OneOf, Wiring, Shape, Form, form_id, forms}
use Rattle.mrc_model.specs.Filter.{arg_name, arg_size, arg_number, expected, fits_reply, judge}
use Rattle.mrc_wiring.specs.Finding.{has_id}

-- so many items are as many as the form says, or at most as many where it says a bound
abbrev pub IsCount : Bool → ℕ → ℕ → Type 0
IsCount true most number = number ≤ most
IsCount false count number = number ≡ count

-- the items are as large and as many as the form says
abbrev pub FitsIn : Shape → Arg → Type 0
FitsIn s a = (s.size ≡ arg_size a) × IsCount s.is_bound s.number (arg_number a)

-- one of these numbers is that of port rights
abbrev pub HasPortNumber : List ℕ → Type 0
HasPortNumber numbers = list_any is_port_number numbers ≡ true

-- The argument is what the form says, if the form's items are of these types. Data of any kind are
-- met by what has no port rights; other items are as large and as many, and of one of the types.
abbrev pub IsMetBy : ItemTypes → Shape → Arg → Type 0
IsMetBy AnyData s a = is_port_arg a ≡ false
IsMetBy (OneOf numbers) s a =
    FitsIn s a × (list_any (λ n. n == arg_name a) numbers ≡ true)

-- the same except for the disposition: it has a port type that is none of those of the form
abbrev pub HasOtherNameBy : ItemTypes → Shape → Arg → Type 0
HasOtherNameBy AnyData s a = ⊥
HasOtherNameBy (OneOf numbers) s a =
    FitsIn s a × (list_any (λ n. n == arg_name a) numbers ≡ false) × HasPortNumber numbers
    × (is_port_number (arg_name a) ≡ true)

-- the argument is what the form says
abbrev pub IsMet : Shape → Arg → Type 0
IsMet s a = IsMetBy s.types s a

-- the argument is what the form says except for its disposition
abbrev pub HasOtherName : Shape → Arg → Type 0
HasOtherName s a = HasOtherNameBy s.types s a

-- each argument is what the form says, and there are no others
abbrev pub AreMet : List Shape → List Arg → Type 0
AreMet [] [] = Unit {0}
AreMet [] (a ∷ more) = ⊥
AreMet (s ∷ shapes) [] = ⊥
AreMet (s ∷ shapes) (a ∷ more) = IsMet s a × AreMet shapes more

-- what the form has in a place and what the message has there differ in the disposition alone
abbrev pub DifferInDisposition : Option Shape → Option Arg → Type 0
DifferInDisposition None a = ⊥
DifferInDisposition (Some s) None = ⊥
DifferInDisposition (Some s) (Some a) = HasOtherName s a

-- they differ in more; one that is missing does too
abbrev pub DifferInShape : Option Shape → Option Arg → Type 0
DifferInShape None None = ⊥
DifferInShape None (Some a) = Unit {0}
DifferInShape (Some s) None = Unit {0}
DifferInShape (Some s) (Some a) = ¬ IsMet s a × ¬ HasOtherName s a

-- place i is the first that is not what the form says: what stands there differs so
pub record IsFirst (Differ : Option Shape → Option Arg → Type 0) (shapes : List Shape)
    (args : List Arg) (i : ℕ) : Type 0 where
  pub before : AreMet (take i shapes) (take i args)
  pub here : Differ (slice_get shapes i) (slice_get args i)

-- of the forms that the class accepts, this one is the first that has the message's id
abbrev pub HasForm : Wiring → ℕ → Message → Form → Type 0
HasForm W c m f = find (has_id m.id) (forms W c) ≡ Some f

-- when this is the answer: the form; that there is none; the first argument that differs, and how;
-- the reply port, where all arguments are met
abbrev pub IsAnswer : Wiring → ℕ → Message → Result Form Denied → Type 0
IsAnswer W c m (Ok f) =
    HasForm W c m f × AreMet (expected f m.args) m.args × (fits_reply f m.local_disp ≡ true)
IsAnswer W c m (Err NoSuchId) = (f : Form) → IsIn f (forms W c) → form_id f ≢ m.id
IsAnswer W c m (Err (WrongShape i)) =
    (f : Form) × HasForm W c m f × IsFirst DifferInShape (expected f m.args) m.args i
IsAnswer W c m (Err (WrongDisposition i)) =
    (f : Form) × HasForm W c m f × IsFirst DifferInDisposition (expected f m.args) m.args i
IsAnswer W c m (Err ReplySlot) =
    (f : Form) × HasForm W c m f × AreMet (expected f m.args) m.args
    × (fits_reply f m.local_disp ≡ false)
IsAnswer W c m (Err (NotAdmitted i)) = ⊥
IsAnswer W c m (Err NotDestroyed) = ⊥
IsAnswer W c m (Err NotTaken) = ⊥
IsAnswer W c m (Err NotGiven) = ⊥
IsAnswer W c m (Err (NotSent i)) = ⊥
IsAnswer W c m (Err NotForReply) = ⊥

-- an answer is the filter's if and only if it is so
abbrev pub JudgingIsMeeting : Type 0
JudgingIsMeeting =
    (W : Wiring) (c : ℕ) (m : Message) (answer : Result Form Denied)
    → (judge W c m ≡ answer) ↔ IsAnswer W c m answer
