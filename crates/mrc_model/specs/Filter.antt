-- Believe. Which messages a class accepts. How a message meets a form is MIG's rule (Server
-- Writer's Guide); that a port takes only messages of its label's forms is this profile's own
-- choice.
use Rattle.mrc_base.specs.Disposition.{is_port_number, disp_number}
use Rattle.std.specs.Prelude.{ℕ, ◌+◌, Bool, true, ◌&&◌, ◌||◌, List, [], ◌∷◌, length, Option, Some}
use Rattle.std.specs.Prelude.{None, Result, Ok, Err, nat_le, ◌==◌, if◌then◌else◌, find}
use Rattle.std.specs.List.{list_all, list_any}
use Rattle.mrc_base.specs.declared.Disp.TheVariants.{MoveSendOnce, MakeSendOnce}
use Rattle.mrc_model.specs.declared.RequestKind.{RequestKind}
use Rattle.mrc_model.specs.declared.RequestKind.TheVariants.{Routine, Simple, Replied}
use Rattle.mrc_model.specs.declared.Denied.{Denied}
use Rattle.mrc_model.specs.declared.Denied.TheVariants.{NoSuchId, WrongShape, WrongDisposition}
use Rattle.mrc_model.specs.declared.Denied.TheVariants.{ReplySlot}
use Rattle.mrc_model.specs.Message.{Message, Arg, Data, Ports, is_port_arg}
use Rattle.mrc_model.specs.Wiring.{Wiring, ItemTypes, AnyData, OneOf, Shape, Form, OfRequest}
use Rattle.mrc_model.specs.Wiring.{OfReply, form_id, forms}

-- the type number of an argument
abbrev pub arg_name : Arg → ℕ
arg_name (Data name size number bytes) = name
arg_name (Ports disp names) = disp

-- the bits of an item; a port right has 32
abbrev pub arg_size : Arg → ℕ
arg_size (Data name size number bytes) = size
arg_size (Ports disp names) = 32

-- the number of items
abbrev pub arg_number : Arg → ℕ
arg_number (Data name size number bytes) = number
arg_number (Ports disp names) = length names

-- the size is that of the form, and so is the number, or it is at most the form's where that is a
-- bound
abbrev pub has_size : Shape → Arg → Bool
has_size s a =
    s.size == arg_size a
    && (if s.is_bound then nat_le (arg_number a) s.number else arg_number a == s.number)

-- how the argument of this number differs from a shape whose items are so
abbrev pub difference : ℕ → ItemTypes → Shape → Arg → Option Denied
difference i AnyData s a = if is_port_arg a then Some (WrongShape i) else None
difference i (OneOf numbers) s a =
    if has_size s a
    then (if list_any (λ n. n == arg_name a) numbers then None
    else if list_any is_port_number numbers && is_port_number (arg_name a)
    then Some (WrongDisposition i)
    else Some (WrongShape i))
    else Some (WrongShape i)

-- the difference, or else the one behind it
abbrev pub or_behind : Option Denied → Option Denied → Option Denied
or_behind (Some d) behind = Some d
or_behind None behind = behind

-- the first argument, counted from i, at which message and form differ
abbrev pub first_difference : ℕ → List Shape → List Arg → Option Denied
first_difference i [] [] = None
first_difference i [] (a ∷ more) = Some (WrongShape i)
first_difference i (s ∷ ss) [] = Some (WrongShape i)
first_difference i (s ∷ ss) (a ∷ more) =
    or_behind (difference i s.types s a) (first_difference (i + 1) ss more)

-- the return code of a reply is 0, as far as the first argument has one
abbrev pub is_zero_data : List Arg → Bool
is_zero_data [] = true
is_zero_data (Data name size number bytes ∷ more) = list_all (λ b. b == 0) bytes
is_zero_data (Ports disp names ∷ more) = true

-- the first shape alone
abbrev pub first_alone : List Shape → List Shape
first_alone [] = []
first_alone (s ∷ ss) = s ∷ []

-- what the form wants of these arguments: a reply whose code is not 0 has the code alone
abbrev pub expected : Form → List Arg → List Shape
expected (OfRequest f) args = f.shapes
expected (OfReply f) args = if is_zero_data args then f.shapes else first_alone f.shapes

-- no disposition, or one that gives a send-once right
abbrev pub fits_once : ℕ → Bool
fits_once x = x == 0 || (x == disp_number MoveSendOnce || x == disp_number MakeSendOnce)

-- A routine takes no disposition for the reply port or one that gives a send-once right, and so
-- does a simpleroutine with a reply port; another simpleroutine takes none.
abbrev pub fits_request : RequestKind → ℕ → Bool
fits_request Routine x = fits_once x
fits_request Simple x = x == 0
fits_request Replied x = fits_once x

-- the form goes with this disposition of the reply port; a reply has none
abbrev pub fits_reply : Form → ℕ → Bool
fits_reply (OfRequest f) x = fits_request f.kind x
fits_reply (OfReply f) x = x == 0

-- the form, unless an argument differs or the reply port's disposition does not fit
abbrev pub judge_form : Form → Message → Option Denied → Result Form Denied
judge_form f m (Some d) = Err d
judge_form f m None = if fits_reply f m.local_disp then Ok f else Err ReplySlot

-- the same for the form that has the message's id
abbrev pub judge_found : Message → Option Form → Result Form Denied
judge_found m None = Err NoSuchId
judge_found m (Some f) = judge_form f m (first_difference 0 (expected f m.args) m.args)

-- the form that the message meets, where the class accepts it but for what its slots admit
unfoldable pub judge : Wiring → ℕ → Message → Result Form Denied
judge W c m = judge_found m (find (λ (f : Form). form_id f == m.id) (forms W c))
