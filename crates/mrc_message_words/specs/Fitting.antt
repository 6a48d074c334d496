-- Step. What code asks of items before it makes an argument or a value.
use Rattle.std.specs.Prelude.{◌≡◌, ℕ, ◌*◌, ◌/◌, ◌%◌, ◌^◌, ◌<◌, ◌≤◌, List, length, Option, MatchOption, IsTrue}
use Rattle.mrc_model.specs.Message.{Arg}
use Rattle.mrc_desc.specs.declared.argument.Argument.{Argument}
use Rattle.mrc_desc.specs.declared.message.Header.{Header}
use Rattle.mrc_desc.specs.Lawful.{IsLawfulArg, is_admitted}
use Rattle.mrc_desc.specs.View.{argument_of}
use Rattle.mrc_forms.specs.declared.form.MessageKind.{MessageKind}
use Rattle.mrc_forms.specs.declared.shape.Items.{Items}
use Rattle.mrc_forms.specs.Forms.{Form}
use Rattle.mrc_message_words.specs.declared.value.Value.{Value}
use Rattle.mrc_message_words.specs.Spoken.{Said, IsPort, IsReplyPort}
use Rattle.mrc_message_words.specs.Values.{HasType, IsCount, IsValue}

-- the bytes are so many items of so many bits
pub record AreItems (size : ℕ) (bytes : List ℕ) (number : ℕ) : Type 0 where
  pub some_bits : 0 < size
  pub whole_bytes : size % 8 ≡ 0
  pub number_fits : number < 2 ^ 32
  pub all_items : length bytes ≡ number * size / 8

-- items of at most 64 bits: of a type that the form has, as large and as many as it says
pub record AreNarrow (items : Items) (name size number : ℕ) : Type 0 where
  pub typed : HasType items.types name
  pub same_size : size ≡ items.size
  pub bits : size ≤ 64
  pub count : IsCount items number

-- the argument that a value is, or that it is none
abbrev pub Makes : Items → Value → Option Argument → Type 0
Makes items value made =
    MatchOption made ((arg : Arg) → ¬ IsValue items value arg)
    (λ argument. IsValue items value (argument_of argument) × IsLawfulArg (argument_of argument))

-- the value that an argument is, or that it is none
abbrev pub Says : Items → Arg → Option Value → Type 0
Says items arg said =
    MatchOption said ((value : Value) → ¬ IsValue items value arg) (λ value. IsValue items value arg)

-- the header names what is said, and has the form's id
pub record HasPorts (form : Form) (said : Said) (header : Header) : Type 0 where
  pub to : IsPort said.to header.remote_port header.remote_disp
  pub reply : IsReplyPort said.kind said.reply header.local_port header.local_disp
  pub seqno : header.seqno ≡ 0
  pub id : header.id ≡ form.id
  pub admitted :
      IsTrue (is_admitted header.remote_disp header.local_disp header.local_port)

-- it is said of this message of the routine, of the interface of the name
pub record IsHeard (kind : MessageKind) (interface routine : List ℕ) (said : Said) : Type 0 where
  pub same_kind : said.kind ≡ kind
  pub same_interface : said.interface ≡ interface
  pub same_routine : said.routine ≡ routine
