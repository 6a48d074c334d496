-- Believe. Which message it is that words say, apart from how they are written. The id of a reply is
-- 100 above that of its request, and a reply has no reply port of its own (Server Writer's Guide for
-- MIG). That interfaces and routines are found by their names is this profile's own choice.
use Rattle.std.specs.Prelude.{◌≡◌, ◌≢◌, ℕ, ◌+◌, ◌<◌, List, length, flat_map, take, Option, ◌⊎◌}
use Rattle.std.specs.Prelude.{Some, None, slice_get, bytes_eq, find, option_and_then}
use Rattle.mrc_base.specs.declared.Disp.TheVariants.{MoveReceive}
use Rattle.mrc_base.specs.Disposition.{disp_number}
use Rattle.mrc_base.specs.Limits.{limit_of_message}
use Rattle.mrc_model.specs.Message.{Arg, Message, arg_bytes}
use Rattle.mrc_desc.specs.Laws.{IsSent}
use Rattle.mrc_forms.specs.declared.form.MessageKind.{MessageKind}
use Rattle.mrc_forms.specs.declared.form.MessageKind.TheVariants.{Request, Reply}
use Rattle.mrc_forms.specs.Forms.{Argument, Form}
use Rattle.mrc_forms.specs.Tables.{Table, form_named}
use Rattle.mrc_message_words.specs.declared.fault.SpokenFault.{SpokenFault}
use Rattle.mrc_message_words.specs.declared.fault.SpokenFault.TheVariants.{UnknownMessage, BadPort}
use Rattle.mrc_message_words.specs.declared.fault.SpokenFault.TheVariants.{BadValue, TooLong}
use Rattle.mrc_message_words.specs.declared.port.NamedPort.{NamedPort}
use Rattle.mrc_message_words.specs.declared.value.Value.{Value}
use Rattle.mrc_message_words.specs.Values.{IsValue, AreValues}

-- What words say: which message of which routine of which interface, the destination, the reply
-- port, and a value for each argument in the form's order. The first value of a reply is its return
-- code.
pub record Said : Type 0 where
  pub kind : MessageKind
  pub interface : List ℕ
  pub routine : List ℕ
  pub to : NamedPort
  pub reply : Option NamedPort
  pub values : List Value

-- the interface of this name: the first one
abbrev pub table_named : List Table → List ℕ → Option Table
table_named tables name = find (λ (table : Table). bytes_eq name table.name) tables

-- the form of this message of the routine of this name, of the interface of that name
abbrev pub form_by : List Table → MessageKind → (interface routine : List ℕ) → Option Form
form_by tables kind interface routine =
    option_and_then (λ (table : Table). form_named kind table routine)
    (table_named tables interface)

-- the form that is spoken of
abbrev pub form_said : List Table → Said → Option Form
form_said tables said = form_by tables said.kind said.interface said.routine

-- a port of a header: its name, and the number of its disposition
pub record IsPort (port : NamedPort) (name disp : ℕ) : Type 0 where
  pub same_name : name ≡ port.name
  pub same_disp : disp ≡ disp_number port.disp

-- no reply port: neither a name nor a disposition
pub record IsNoPort (name disp : ℕ) : Type 0 where
  pub same_name : name ≡ 0
  pub same_disp : disp ≡ 0

-- the reply port of a header: a reply has none
abbrev pub IsReplyPort : MessageKind → Option NamedPort → (name disp : ℕ) → Type 0
IsReplyPort kind None name disp = IsNoPort name disp
IsReplyPort Request (Some port) name disp = IsPort port name disp
IsReplyPort Reply (Some port) name disp = ⊥

-- What is said over a form is this message: it has the form's id, the ports as they are named, and
-- an argument for each value. It can be sent: it is within the format's limits, and reading admits
-- its dispositions.
pub record IsSaidOver (form : Form) (said : Said) (m : Message) : Type 0 where
  pub id : m.id ≡ form.id
  pub to : IsPort said.to m.remote m.remote_disp
  pub reply : IsReplyPort said.kind said.reply m.local m.local_disp
  pub args : AreValues form.arguments said.values m.args
  pub sent : IsSent m

-- what is said over the forms of these interfaces is this message
pub record IsSpoken (tables : List Table) (said : Said) (m : Message) : Type 0 where
  pub form : Form
  pub named : form_said tables said ≡ Some form
  pub over : IsSaidOver form said m

-- nothing says the message by the name of an interface before this place
unfoldable pub NoneBefore : List Table → Message → ℕ → Type 0
NoneBefore tables m place =
    (earlier : ℕ) → earlier < place → (table : Table) → slice_get tables earlier ≡ Some table
    → (said : Said) → table_named tables said.interface ≡ Some table → ¬ IsSpoken tables said m

-- of what says the message, this names the interface that comes first
pub record IsFirstSpoken (tables : List Table) (said : Said) (m : Message) : Type 0 where
  pub place : ℕ
  pub here : slice_get tables place ≡ table_named tables said.interface
  pub none_before : NoneBefore tables m place

-- a header carries a right to a port by any disposition but that of a receive right
abbrev pub IsCarried : NamedPort → Type 0
IsCarried port = port.disp ≢ MoveReceive

-- the ports that a header can name: a reply has no reply port
abbrev pub ArePorts : MessageKind → NamedPort → Option NamedPort → Type 0
ArePorts kind to None = IsCarried to
ArePorts Request to (Some reply) = IsCarried to × IsCarried reply
ArePorts Reply to (Some reply) = ⊥

-- there is an argument and a value for it, which fits it; or there is neither
abbrev pub IsFit : Option Argument → Option Value → Type 0
IsFit None None = Unit {0}
IsFit (Some argument) (Some value) = (arg : Arg) × IsValue argument.items value arg
IsFit argument value = ⊥

-- place i is the first in which the value does not fit the argument, or one of the two is missing
pub record IsFirstUnfit (arguments : List Argument) (values : List Value) (i : ℕ) : Type 0 where
  pub args : List Arg
  pub before : AreValues (take i arguments) (take i values) args
  pub here : ¬ IsFit (slice_get arguments i) (slice_get values i)

-- the arguments that are said pass the limit of a message
pub record AreTooLong (arguments : List Argument) (values : List Value) : Type 0 where
  pub args : List Arg
  pub said : AreValues arguments values args
  pub above : limit_of_message < 24 + length (flat_map arg_bytes args)

-- what is said over a form is no message: its ports, then its values, then its size
abbrev pub IsUnsaid : Form → Said → SpokenFault → Type 0
IsUnsaid form said UnknownMessage = ⊥
IsUnsaid form said BadPort = ¬ ArePorts said.kind said.to said.reply
IsUnsaid form said (BadValue i) =
    ArePorts said.kind said.to said.reply × IsFirstUnfit form.arguments said.values i
IsUnsaid form said TooLong =
    ArePorts said.kind said.to said.reply × AreTooLong form.arguments said.values

-- why what is said is no message: there is no such form, or what is said over it is none
abbrev pub IsRefused : List Table → Said → SpokenFault → Type 0
IsRefused tables said fault =
    ((form_said tables said ≡ None) × (fault ≡ UnknownMessage))
    ⊎ ((form : Form) × (form_said tables said ≡ Some form) × IsUnsaid form said fault)
