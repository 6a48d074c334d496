-- Believe. Which message a value of the code is. The message that the values of the program stand
-- for.
use Rattle.std.specs.Prelude.{◌≡◌, List, map, length}
use Rattle.mrc_base.specs.Disposition.{disp_number}
use Rattle.mrc_desc.specs.declared.argument.Argument.{Argument}
use Rattle.mrc_desc.specs.declared.argument.Argument.TheVariants as arguments
use Rattle.mrc_desc.specs.declared.argument.Desc.{Desc}
use Rattle.mrc_desc.specs.declared.message.Header.{Header}
use Rattle.mrc_model.specs.Message.{Arg, Data, Ports, Message}

-- an argument as the definitions of messages see it
abbrev pub argument_of : Argument → Arg
argument_of (arguments.Data desc bytes) = Data desc.name desc.size desc.number bytes
argument_of (arguments.Ports disp names) = Ports (disp_number disp) names

-- what the descriptor before an argument says
abbrev pub desc_of : Arg → Desc
desc_of (Data name size number bytes) = record { name = name; size = size; number = number }
desc_of (Ports name names) = record { name = name; size = 32; number = length names }

-- all of them
abbrev pub arguments_of : List Argument → List Arg
arguments_of args = map argument_of args

-- the header is that of the message
pub record HasHeader (m : Message) (header : Header) : Type 0 where
  pub remote_disp : header.remote_disp ≡ m.remote_disp
  pub local_disp : header.local_disp ≡ m.local_disp
  pub remote_port : header.remote_port ≡ m.remote
  pub local_port : header.local_port ≡ m.local
  pub seqno : header.seqno ≡ m.seqno
  pub id : header.id ≡ m.id

-- the message of a header and arguments
abbrev pub with_args : Header → List Arg → Message
with_args header args = record {
  remote_disp = header.remote_disp;
  local_disp = header.local_disp;
  remote = header.remote_port;
  local = header.local_port;
  seqno = header.seqno;
  id = header.id;
  args = args;
}

-- a header and arguments of the program
abbrev pub message_of : Header → List Argument → Message
message_of header args = with_args header (arguments_of args)
