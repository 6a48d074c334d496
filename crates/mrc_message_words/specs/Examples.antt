-- Worked. Messages that are said. A request of two arguments, a flag and ports, and its reply.
use Rattle.std.specs.Prelude.{◌≡◌, ℕ, true, false, List, [], ◌∷◌, ◌++◌, Option, Some, None, codes, refl}
use Rattle.std.proofs.Common.{lit<, lit≤}
use Rattle.mrc_base.specs.declared.Disp.TheVariants.{CopySend, MakeSendOnce, MoveSendOnce}
use Rattle.mrc_model.specs.declared.RequestKind.TheVariants.{Routine}
use Rattle.mrc_model.specs.Message.{Message, Data, Ports, written}
use Rattle.mrc_forms.specs.declared.form.FormKind.TheVariants as kinds
use Rattle.mrc_forms.specs.declared.form.MessageKind.TheVariants.{Request, Reply}
use Rattle.mrc_forms.specs.declared.shape.Items.{Items}
use Rattle.mrc_forms.specs.declared.types.ItemTypes.TheVariants.{One}
use Rattle.mrc_forms.specs.Forms.{Argument, Form, return_code}
use Rattle.mrc_forms.specs.Tables.{Table}
use Rattle.mrc_message_words.specs.declared.value.Value.TheVariants as said
use Rattle.mrc_message_words.specs.Spoken.{Said, IsSaidOver, form_said}
use Rattle.mrc_message_words.specs.Values.{number_bytes, numbers_arg}

-- 300 in four bytes
three_hundred : number_bytes 4 300 ≡ 44 ∷ 1 ∷ 0 ∷ 0 ∷ []
three_hundred = refl

-- one int
abbrev flags : Argument
flags = record {
  name = codes "flags";
  items = record { types = One 2; size = 32; number = 1; is_bound = false };
}

-- at most three ports, each by its send right
abbrev ports : Argument
ports = record {
  name = codes "ports";
  items = record { types = One 19; size = 32; number = 3; is_bound = true };
}

abbrev request : Form
request = record {
  name = codes "open";
  id = 3000;
  kind = kinds.Request Routine;
  arguments = flags ∷ ports ∷ [];
  slots = record { argument = 1; types = One 19; type_name = codes "port_t" } ∷ [];
}

abbrev reply : Form
reply = record {
  name = codes "open";
  id = 3100;
  kind = kinds.Reply;
  arguments = return_code ∷ [];
  slots = [];
}

abbrev files : Table
files = record {
  name = codes "files";
  base = 3000;
  rows = record { request = Some request; reply = Some reply } ∷ [];
}

-- { files.open to 3 reply 9 flags=300 ports=[4 null] }
abbrev asked : Said
asked = record {
  kind = Request;
  interface = codes "files";
  routine = codes "open";
  to = record { name = 3; disp = CopySend };
  reply = Some (record { name = 9; disp = MakeSendOnce });
  values = said.Numbers 2 (300 ∷ []) ∷ said.Ports CopySend (4 ∷ 0 ∷ []) ∷ [];
}

-- { reply files.open to 5 code=1 }
abbrev answered : Said
answered = record {
  kind = Reply;
  interface = codes "files";
  routine = codes "open";
  to = record { name = 5; disp = MoveSendOnce };
  reply = None;
  values = said.Numbers 2 (1 ∷ []) ∷ [];
}

-- each is of its form
of_request : form_said (files ∷ []) asked ≡ Some request
of_request = refl

of_reply : form_said (files ∷ []) answered ≡ Some reply
of_reply = refl

-- the message that asks, with two ports and not three
abbrev asking : Message
asking = record {
  remote_disp = 19;
  local_disp = 21;
  remote = 3;
  local = 9;
  seqno = 0;
  id = 3000;
  args = Data 2 32 1 (44 ∷ 1 ∷ 0 ∷ 0 ∷ []) ∷ Ports 19 (4 ∷ 0 ∷ []) ∷ [];
}

asked_is_said : IsSaidOver request asked asking
asked_is_said = record {
  id = refl;
  to = record { same_name = refl; same_disp = refl };
  reply = record { same_name = refl; same_disp = refl };
  args = (
    (
      record {
        typed = refl;
        of_data = lit< tt;
        bits = lit≤ tt;
        count = refl;
        each = (lit< tt, tt);
      },
      refl,
    ),
    ((record { typed = refl; count = lit≤ tt }, refl), tt),
  );
  sent = record {
    lawful = record {
      header = record {
        remote_disp = lit< tt;
        local_disp = lit< tt;
        remote = lit< tt;
        local = lit< tt;
        seqno = lit< tt;
        id = lit< tt;
      };
      args = (
        (
          record {
            data_name = lit< tt;
            some_bits = lit< tt;
            whole_bytes = refl;
            size_fits = lit< tt;
            number_fits = lit< tt;
            all_items = refl;
          },
          (
            record {
              least = lit≤ tt;
              most = lit≤ tt;
              number_fits = lit< tt;
              names_fit = (lit< tt, (lit< tt, tt));
            },
            tt,
          ),
        ),
        lit≤ tt,
      );
    };
    no_seqno = refl;
    admitted = refl;
  };
}

-- and its bytes: the complex bit is set, the second descriptor has number 2
asking_is_written : written asking
    ≡ (19 ∷ 21 ∷ 0 ∷ 128 ∷ 44 ∷ 0 ∷ 0 ∷ 0 ∷ 3 ∷ 0 ∷ 0 ∷ 0 ∷ 9 ∷ 0 ∷ 0 ∷ 0 ∷ 0 ∷ 0 ∷ 0 ∷ 0 ∷ [])
    ++ (184 ∷ 11 ∷ 0 ∷ 0 ∷ 2 ∷ 32 ∷ 1 ∷ 16 ∷ 44 ∷ 1 ∷ 0 ∷ 0 ∷ 19 ∷ 32 ∷ 2 ∷ 16 ∷ [])
    ++ (4 ∷ 0 ∷ 0 ∷ 0 ∷ 0 ∷ 0 ∷ 0 ∷ 0 ∷ [])
asking_is_written = refl

-- numbers that are said are as many in the message
two_of_three : numbers_arg (record ports.items { types = One 2 }) 2 (1 ∷ 2 ∷ [])
    ≡ Data 2 32 2 (1 ∷ 0 ∷ 0 ∷ 0 ∷ 2 ∷ 0 ∷ 0 ∷ 0 ∷ [])
two_of_three = refl
