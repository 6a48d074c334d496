-- Worked. Routines by their arguments, worked out by hand: what is in their messages, for which
-- word they are left out, and what they carry then.
use Rattle.std.specs.Prelude.{◌≡◌, ℕ, List, [], ◌∷◌, Bool, true, false, Option, Some, None, codes}
use Rattle.std.specs.Prelude.{map, refl, option_map, ◌-◌}
use Rattle.std.specs.List.{filter, range_with_len}
use Rattle.mrc_mig_arguments.specs.declared.argument.Role.{Role}
use Rattle.mrc_mig_arguments.specs.declared.argument.Role.TheVariants as roles
use Rattle.mrc_mig_types.specs.declared.meaning.Meaning.{Meaning}
use Rattle.mrc_mig_types.specs.declared.meaning.Tag.TheVariants.{Picked, Fixed}
use Rattle.mrc_mig_types.specs.declared.shapes.By.TheVariants.{Sent, Received}
use Rattle.mrc_mig_types.specs.declared.shapes.By.TheVariants as by
use Rattle.mrc_model.specs.Wiring.{OneOf}
use Rattle.mrc_mig_types.specs.Meanings.{item, array, bounded, open_array, pointed, string}
use Rattle.mrc_mig_types.specs.Shapes.{Form, all_numbers, any_data, sends, sends_once, slot_of}
use Rattle.mrc_mig_bodies.specs.declared.kinds.RoutineKind.{RoutineKind}
use Rattle.mrc_mig_bodies.specs.declared.kinds.RoutineKind.TheVariants.{Routine, Simple}
use Rattle.mrc_mig_bodies.specs.declared.kinds.Request.TheVariants as requests
use Rattle.mrc_mig_bodies.specs.declared.objections.LeftOutWord.{LeftOutWord}
use Rattle.mrc_mig_bodies.specs.declared.objections.LeftOutWord.TheVariants as words
use Rattle.mrc_mig_bodies.specs.declared.objections.Objection.{Objection}
use Rattle.mrc_mig_bodies.specs.Bodies.{Item, Argument, CountOf, ReturnCode, form_of_item}
use Rattle.mrc_mig_bodies.specs.Bodies.{request_body, reply_body}
use Rattle.mrc_mig_bodies.specs.Carried.{carries}
use Rattle.mrc_mig_bodies.specs.Listed.{objections, first_of}
use Rattle.mrc_mig_bodies.specs.Parameters.{Parameter}
use Rattle.mrc_mig_bodies.specs.Roles.{request_port, request_of, settled}

-- An argument whose name stands at a place, with its type two tokens behind. Places fall: the first
-- argument of an example is at 90, the next at 80, and the end at 10.
abbrev with : Role → List ℕ → List ℕ → Option Meaning → ℕ → Parameter
with role name type_name meaning place = record {
  role = role;
  name = name;
  type_name = type_name;
  meaning = meaning;
  counts = false;
  at = place;
  name_at = place;
  type_at = place - 2;
}

-- the same, with `countinout`
abbrev counting : Parameter → Parameter
counting a = record a { counts = true }

-- types
abbrev port : Meaning
port = item (Fixed 19) (Fixed 17) 32

abbrev make_send : Meaning
make_send = item (Fixed 20) (Fixed 17) 32

abbrev make_once : Meaning
make_once = item (Fixed 21) (Fixed 18) 32

abbrev send : Meaning
send = item Picked (Fixed 17) 32

abbrev once : Meaning
once = item Picked (Fixed 18) 32

abbrev receive : Meaning
receive = item Picked (Fixed 16) 32

abbrev poly : Meaning
poly = item Picked Picked 32

abbrev int : Meaning
int = item (Fixed 2) (Fixed 2) 32

abbrev char : Meaning
char = item (Fixed 8) (Fixed 8) 8

-- `p : mach_port_t`, which comes first in most routines
abbrev p_at : ℕ → Parameter
p_at place = with roles.Unmarked (codes "p") (codes "mach_port_t") (Some port) place

abbrev p : Parameter
p = p_at 90

-- an argument that is one right, or one number
abbrev right : List ℕ → List ℕ → List ℕ → Item
right name type_name numbers = Argument name type_name (slot_of numbers (1, false))

abbrev plain : ℕ → ℕ → ℕ → Bool → Form
plain number size count is_bound =
    record { types = OneOf (number ∷ []); size = size; number = count; is_bound = is_bound }

abbrev number : List ℕ → Item
number name = Argument name (codes "int") (plain 2 32 1 false)

-- a word at a place
abbrev told : ℕ → LeftOutWord → Option Objection
told place word = Some (record { at = place; word = word })

-- the first word of a routine, judged by what is sent
abbrev word_of : RoutineKind → List Parameter → Option Objection
word_of kind arguments = first_of (objections kind Sent 10 arguments)

-- the names of the arguments that carry rights
abbrev carried : RoutineKind → List Parameter → List (List ℕ)
carried kind arguments =
    map (λ (a : Parameter). a.name) (filter (carries kind Sent Sent) (settled arguments))

-- `simpleroutine r(p : mach_port_t; a : mach_port_send_t; b : mach_port_send_once_t;
-- c : mach_port_receive_t);`
abbrev three : List Parameter
three =
    p ∷ with roles.Unmarked (codes "a") (codes "mach_port_send_t") (Some send) 80
    ∷ with roles.Unmarked (codes "b") (codes "mach_port_send_once_t") (Some once) 70
    ∷ with roles.Unmarked (codes "c") (codes "mach_port_receive_t") (Some receive) 60 ∷ []

pub picked : request_body Simple Sent three
    ≡ right (codes "a") (codes "mach_port_send_t") sends
    ∷ right (codes "b") (codes "mach_port_send_once_t") sends_once
    ∷ right (codes "c") (codes "mach_port_receive_t") (16 ∷ []) ∷ []
picked = refl

pub no_reply : reply_body Simple Sent three ≡ []
no_reply = refl

pub no_objection : objections Simple Sent 10 three ≡ []
no_objection = refl

pub all_carried : carried Simple three ≡ codes "a" ∷ codes "b" ∷ codes "c" ∷ []
all_carried = refl

-- `routine r(p : mach_port_t; a : t; out b : v = ^array[] of mach_port_send_t;
-- out c : w = array[9000] of mach_port_t);`, where t is `array[] of mach_port_t`
abbrev arrays : List Parameter
arrays =
    p ∷ with roles.Unmarked (codes "a") (codes "t") (Some (open_array port)) 80
    ∷ with roles.Out (codes "b") (codes "v") (Some (pointed (open_array send))) 70
    ∷ with roles.Out (codes "c") (codes "w") (Some (array (Some 9000) port)) 60 ∷ []

pub array_sent : request_body Routine Sent arrays
    ≡ Argument (codes "a") (codes "t") (slot_of (19 ∷ []) (8192, true)) ∷ []
array_sent = refl

pub arrays_replied : reply_body Routine Sent arrays
    ≡ ReturnCode
    ∷ Argument (codes "b") (codes "v") (slot_of sends (8192, true))
    ∷ Argument (codes "c") (codes "w") (slot_of (19 ∷ []) (8192, true)) ∷ []
arrays_replied = refl

-- `routine r(p : mach_port_t; out x : t, CountInOut; in y : int; out z : d, countinout;
-- out s : n = c_string[*:9], countinout; inout i : int, countinout);`, where t is
-- `array[*:4] of int` and d is `array[] of char`
abbrev counted : List Parameter
counted =
    p ∷ counting (with roles.Out (codes "x") (codes "t") (Some (bounded (Some 4) int)) 80)
    ∷ with roles.In (codes "y") (codes "int") (Some int) 70
    ∷ counting (with roles.Out (codes "z") (codes "d") (Some (open_array char)) 60)
    ∷ counting (with roles.Out (codes "s") (codes "n") (Some (string (Some 9) true)) 50)
    ∷ counting (with roles.InOut (codes "i") (codes "int") (Some int) 40) ∷ []

pub counts_are_sent : request_body Routine Sent counted
    ≡ CountOf (codes "x") ∷ number (codes "y") ∷ CountOf (codes "z") ∷ CountOf (codes "s")
    ∷ number (codes "i") ∷ []
counts_are_sent = refl

pub no_count_replied : reply_body Routine Sent counted
    ≡ ReturnCode
    ∷ Argument (codes "x") (codes "t") (plain 2 32 4 true)
    ∷ Argument (codes "z") (codes "d") any_data
    ∷ Argument (codes "s") (codes "n") (plain 12 8 9 true)
    ∷ number (codes "i") ∷ []
no_count_replied = refl

pub counts_are_numbers : map form_of_item (CountOf (codes "x") ∷ ReturnCode ∷ [])
    ≡ plain 2 32 1 false ∷ plain 2 32 1 false ∷ []
counts_are_numbers = refl

pub no_count_of_simple : request_body Simple Sent counted
    ≡ number (codes "y") ∷ number (codes "i") ∷ []
no_count_of_simple = refl

-- a count whose name an argument has, in either order
abbrev clash : List Parameter
clash =
    p ∷ with roles.In (codes "xCnt") (codes "int") (Some int) 80
    ∷ counting (with roles.Out (codes "x") (codes "t") (Some (bounded (Some 4) int)) 70) ∷ []

pub count_is_there : word_of Routine clash ≡ told 70 words.TwiceNamed
count_is_there = refl

abbrev clash_behind : List Parameter
clash_behind =
    p ∷ counting (with roles.Out (codes "x") (codes "t") (Some (bounded (Some 4) int)) 80)
    ∷ with roles.In (codes "xCnt") (codes "int") (Some int) 70 ∷ []

pub count_was_there : word_of Routine clash_behind ≡ told 70 words.TwiceNamed
count_was_there = refl

-- `simpleroutine a(p : mach_port_t; ureplyport r : mach_port_make_send_once_t; x : int);`
abbrev asks : List Parameter
asks =
    p
    ∷ with roles.UserReplyPort (codes "r") (codes "mach_port_make_send_once_t") (Some make_once) 80
    ∷ with roles.Unmarked (codes "x") (codes "int") (Some int) 70 ∷ []

pub replied : request_of Simple asks ≡ requests.Replied
replied = refl

pub reply_port_is_no_item : request_body Simple Sent asks ≡ number (codes "x") ∷ []
reply_port_is_no_item = refl

pub may_ask : objections Simple Sent 10 asks ≡ []
may_ask = refl

-- `simpleroutine b(p : mach_port_t; sreplyport r : mach_port_poly_t);`
abbrev serves : List Parameter
serves =
    p ∷ with roles.ServerReplyPort (codes "r") (codes "mach_port_poly_t") (Some poly) 80 ∷ []

pub serves_replied : request_of Simple serves ≡ requests.Replied
serves_replied = refl

pub server_port_is_not_judged : objections Simple Sent 10 serves ≡ []
server_port_is_not_judged = refl

pub simple_alone : request_of Simple three ≡ requests.Simple
simple_alone = refl

-- `routine a(p : mach_port_t; ureplyport r : mach_port_t; x : int);`
abbrev asks_more : List Parameter
asks_more =
    p ∷ with roles.UserReplyPort (codes "r") (codes "mach_port_t") (Some port) 80
    ∷ with roles.Unmarked (codes "x") (codes "int") (Some int) 70 ∷ []

pub port_is_no_reply_port : word_of Routine asks_more ≡ told 78 words.ReplyPort
port_is_no_reply_port = refl

pub reply_port_is_carried : carried Routine asks_more ≡ codes "r" ∷ []
reply_port_is_carried = refl

-- `routine b(p : mach_port_t; replyport r : mach_port_poly_t; out y : mach_port_t);`
abbrev asks_any : List Parameter
asks_any =
    p ∷ with roles.ReplyPort (codes "r") (codes "mach_port_poly_t") (Some poly) 80
    ∷ with roles.Out (codes "y") (codes "mach_port_t") (Some port) 70 ∷ []

pub poly_is_no_reply_port : word_of Routine asks_any ≡ told 78 words.ReplyPort
poly_is_no_reply_port = refl

pub both_are_carried : carried Routine asks_any ≡ codes "r" ∷ codes "y" ∷ []
both_are_carried = refl

-- `routine r(p : mach_port_t; waittime w : int; msgoption o : int; msgseqno n : mach_port_seqno_t;
-- x : int);`
abbrev waits : List Parameter
waits =
    p ∷ with roles.WaitTime (codes "w") (codes "int") (Some int) 80
    ∷ with roles.MessageOption (codes "o") (codes "int") (Some int) 70
    ∷ with roles.SequenceNumber (codes "n") (codes "mach_port_seqno_t") (Some int) 60
    ∷ with roles.Unmarked (codes "x") (codes "int") (Some int) 50 ∷ []

pub options_are_no_items : request_body Routine Sent waits ≡ number (codes "x") ∷ []
options_are_no_items = refl

pub return_code_alone : reply_body Routine Sent waits ≡ ReturnCode ∷ []
return_code_alone = refl

-- `simpleroutine a(in x : mach_port_t; p : mach_port_t; y : int);`
abbrev in_first : List Parameter
in_first =
    with roles.In (codes "x") (codes "mach_port_t") (Some port) 90
    ∷ with roles.Unmarked (codes "p") (codes "mach_port_t") (Some port) 80
    ∷ with roles.Unmarked (codes "y") (codes "int") (Some int) 70 ∷ []

abbrev port_name : List Parameter → Option (List ℕ)
port_name arguments = option_map (λ (a : Parameter). a.name) (request_port arguments)

pub in_is_no_request_port : port_name in_first ≡ Some (codes "p")
in_is_no_request_port = refl

pub in_is_sent : request_body Simple Sent in_first
    ≡ right (codes "x") (codes "mach_port_t") (19 ∷ []) ∷ number (codes "y") ∷ []
in_is_sent = refl

-- `simpleroutine b(x : int; requestport p : mach_port_t; y : int);`
abbrev marked_second : List Parameter
marked_second =
    with roles.Unmarked (codes "x") (codes "int") (Some int) 90
    ∷ with roles.RequestPort (codes "p") (codes "mach_port_t") (Some port) 80
    ∷ with roles.Unmarked (codes "y") (codes "int") (Some int) 70 ∷ []

pub marked_wins : port_name marked_second ≡ Some (codes "p")
marked_wins = refl

pub replaced_is_no_item : request_body Simple Sent marked_second ≡ number (codes "y") ∷ []
replaced_is_no_item = refl

pub replaced_is_not_judged : objections Simple Sent 10 marked_second ≡ []
replaced_is_not_judged = refl

-- `simpleroutine c(in p : mach_port_t);` and `simpleroutine d(p : int; x : mach_port_t);`
abbrev in_alone : List Parameter
in_alone = with roles.In (codes "p") (codes "mach_port_t") (Some port) 90 ∷ []

pub no_request_port : word_of Simple in_alone ≡ told 10 words.NoRequestPort
no_request_port = refl

pub in_is_carried : carried Simple in_alone ≡ codes "p" ∷ []
in_is_carried = refl

abbrev int_first : List Parameter
int_first =
    with roles.Unmarked (codes "p") (codes "int") (Some int) 90
    ∷ with roles.Unmarked (codes "x") (codes "mach_port_t") (Some port) 80 ∷ []

pub int_is_no_port : word_of Simple int_first ≡ told 88 words.NoRequestPort
int_is_no_port = refl

pub second_is_carried : carried Simple int_first ≡ codes "x" ∷ []
second_is_carried = refl

-- `simpleroutine a(p : mach_port_t; x : zork_t; y : mach_port_send_t; z : pointer_t);`, where
-- zork_t is unknown
abbrev with_unknown : List Parameter
with_unknown =
    p ∷ with roles.Unmarked (codes "x") (codes "zork_t") None 80
    ∷ with roles.Unmarked (codes "y") (codes "mach_port_send_t") (Some send) 70
    ∷ with roles.Unmarked (codes "z") (codes "pointer_t") (Some (pointed (open_array char))) 60
    ∷ []

pub unknown_is_told : word_of Simple with_unknown ≡ told 78 words.UnknownType
unknown_is_told = refl

pub unknown_is_carried : carried Simple with_unknown ≡ codes "x" ∷ codes "y" ∷ []
unknown_is_carried = refl

-- `simpleroutine c(zork : zork_t; x : mach_port_t);`
abbrev unknown_first : List Parameter
unknown_first =
    with roles.Unmarked (codes "zork") (codes "zork_t") None 90
    ∷ with roles.Unmarked (codes "x") (codes "mach_port_t") (Some port) 80 ∷ []

pub unknown_port_is_told : word_of Simple unknown_first ≡ told 88 words.UnknownType
unknown_port_is_told = refl

pub unknown_port_is_not_carried : carried Simple unknown_first ≡ codes "x" ∷ []
unknown_port_is_not_carried = refl

-- `simpleprocedure c(p : mach_port_t; out x : mach_port_t);` and `procedure a(p : mach_port_t;
-- in x : mach_port_t);`
pub simple_has_no_out : carried Simple
    (p ∷ with roles.Out (codes "x") (codes "mach_port_t") (Some port) 80 ∷ [])
    ≡ []
simple_has_no_out = refl

pub procedure_carries : carried Routine
    (p ∷ with roles.In (codes "x") (codes "mach_port_t") (Some port) 80 ∷ [])
    ≡ codes "x" ∷ []
procedure_carries = refl

-- `simpleroutine b(p : mach_port_t; x : int; x : int);`
pub twice : word_of Simple
    (p ∷ with roles.Unmarked (codes "x") (codes "int") (Some int) 80
    ∷ with roles.Unmarked (codes "x") (codes "int") (Some int) 70 ∷ [])
    ≡ told 70 words.TwiceNamed
twice = refl

-- `routine r(p : mach_port_t; in a : mach_port_t; out b : mach_port_make_send_t;
-- out c : mach_port_send_t; out d : t = MACH_MSG_TYPE_MAKE_SEND_ONCE | polymorphic);` of a server
-- of a kernel, whose replies are judged by what is received
abbrev of_kernel : List Parameter
of_kernel =
    p ∷ with roles.In (codes "a") (codes "mach_port_t") (Some port) 80
    ∷ with roles.Out (codes "b") (codes "mach_port_make_send_t") (Some make_send) 70
    ∷ with roles.Out (codes "c") (codes "mach_port_send_t") (Some send) 60
    ∷ with roles.Out (codes "d") (codes "t") (Some (item (Fixed 21) Picked 32)) 50 ∷ []

pub sent_to_kernel : request_body Routine Sent of_kernel
    ≡ right (codes "a") (codes "mach_port_t") (19 ∷ []) ∷ []
sent_to_kernel = refl

pub kernel_replies : reply_body Routine Received of_kernel
    ≡ ReturnCode
    ∷ right (codes "b") (codes "mach_port_make_send_t") (17 ∷ [])
    ∷ right (codes "c") (codes "mach_port_send_t") (17 ∷ [])
    ∷ right (codes "d") (codes "t") all_numbers ∷ []
kernel_replies = refl

-- the same request, as its receiver is shown it
pub as_received : request_body Routine by.Picked of_kernel
    ≡ right (codes "a") (codes "mach_port_t") sends ∷ []
as_received = refl

-- so many arguments behind the request port, each with a name of one byte
abbrev others : ℕ → List Parameter
others count =
    map (λ n. with roles.WaitTime (n ∷ []) (codes "int") (Some int) (190 - n))
    (range_with_len 0 count)

pub as_many_as_may_be : objections Simple Sent 10 (p_at 200 ∷ others 31) ≡ []
as_many_as_may_be = refl

pub too_many : word_of Simple (p_at 200 ∷ others 33) ≡ told 159 words.TooMany
too_many = refl

-- a name of so many letters
abbrev letters : ℕ → List ℕ
letters count = map (λ n. 97) (range_with_len 0 count)

pub long_names_may_be : objections Simple Sent 10
    (p ∷ with roles.In (letters 64) (letters 64) (Some int) 80 ∷ [])
    ≡ []
long_names_may_be = refl

pub name_is_too_long : word_of Simple
    (p ∷ with roles.WaitTime (letters 65) (letters 65) (Some int) 80 ∷ [])
    ≡ told 80 words.TooMany
name_is_too_long = refl

pub type_name_is_too_long : word_of Simple
    (p ∷ with roles.In (codes "x") (letters 65) (Some int) 80 ∷ [])
    ≡ told 78 words.TooMany
type_name_is_too_long = refl

pub other_type_name_may_be_long : objections Simple Sent 10
    (p ∷ with roles.WaitTime (codes "x") (letters 65) (Some int) 80 ∷ [])
    ≡ []
other_type_name_may_be_long = refl
