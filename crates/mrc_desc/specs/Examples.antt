-- Worked. Messages. Worked messages: what their bytes are read as, and what is refused.
use Rattle.std.specs.Prelude.{ℕ, ◌≡◌, refl, List, [], ◌∷◌, ◌++◌, Ok, Err}
use Rattle.mrc_desc.specs.declared.fault.ReadFault.TheVariants.{BadHeaderDisp, BadDesc, OutOfLine}
use Rattle.mrc_desc.specs.declared.fault.ReadFault.TheVariants.{Truncated, ComplexDiffers}
use Rattle.mrc_model.specs.Message.{Arg, Data, Ports, Message, written}
use Rattle.mrc_desc.specs.Reading.{message_at, args_at, arg_at, desc_at, said_at, judged, data_at}

-- to port 3 by its send right, with the id 2000: the remote disposition, the complex bit, the size
-- and the reply port vary
abbrev header : (remote_disp complex size local : ℕ) → List ℕ
header remote_disp complex size local =
    remote_disp ∷ 0 ∷ 0 ∷ complex ∷ size ∷ 0 ∷ 0 ∷ 0 ∷ 3 ∷ 0 ∷ 0 ∷ 0 ∷ local ∷ 0 ∷ 0 ∷ 0 ∷ 0 ∷ 0 ∷ 0
    ∷ 0 ∷ 208 ∷ 7 ∷ 0 ∷ 0 ∷ []

-- the message with these arguments
abbrev to_port_3 : List Arg → Message
to_port_3 args =
    record {
      remote_disp = 19;
      local_disp = 0;
      remote = 3;
      local = 0;
      seqno = 0;
      id = 2000;
      args = args;
    }

-- the receive right of port 4
abbrev handing : Message
handing = to_port_3 (Ports 16 (4 ∷ []) ∷ [])

-- its descriptor's four bytes vary
abbrev handed : (a b c d : ℕ) → List ℕ
handed a b c d = header 19 128 32 0 ++ (a ∷ b ∷ c ∷ d ∷ 4 ∷ 0 ∷ 0 ∷ 0 ∷ [])

-- it is written as these bytes
handing_is_written : written handing ≡ handed 16 32 1 16
handing_is_written = refl

-- and read from them
handing_is_read : message_at (handed 16 32 1 16) ≡ Ok handing
unfolding message_at args_at arg_at desc_at said_at judged data_at
handing_is_read = refl

-- the size that a header tells is ignored
size_is_ignored : message_at (header 19 128 33 0 ++ (16 ∷ 32 ∷ 1 ∷ 16 ∷ 4 ∷ 0 ∷ 0 ∷ 0 ∷ []))
    ≡ Ok handing
unfolding message_at args_at arg_at desc_at said_at judged data_at
size_is_ignored = refl

-- the long form of a descriptor, whose first word may say anything else
long_is_read : message_at
    (header 19 128 40 0
    ++ (22 ∷ 7 ∷ 255 ∷ 63 ∷ 19 ∷ 0 ∷ 32 ∷ 0 ∷ 1 ∷ 0 ∷ 0 ∷ 0 ∷ 4 ∷ 0 ∷ 0 ∷ 0 ∷ []))
    ≡ Ok (to_port_3 (Ports 19 (4 ∷ []) ∷ []))
unfolding message_at args_at arg_at desc_at said_at judged data_at
long_is_read = refl

-- padding is skipped, whatever it is
padding_is_skipped : message_at (header 19 0 32 0 ++ (9 ∷ 8 ∷ 3 ∷ 16 ∷ 170 ∷ 187 ∷ 204 ∷ 1 ∷ []))
    ≡ Ok (to_port_3 (Data 9 8 3 (170 ∷ 187 ∷ 204 ∷ []) ∷ []))
unfolding message_at args_at arg_at desc_at said_at judged data_at
padding_is_skipped = refl

-- a descriptor that is cut off
half_a_descriptor : message_at (header 19 128 26 0 ++ (16 ∷ 32 ∷ [])) ≡ Err (Truncated 24)
unfolding message_at args_at arg_at desc_at said_at judged data_at
half_a_descriptor = refl

-- more data than any message has
endless_data : message_at
    (header 19 128 36 0 ++ (0 ∷ 0 ∷ 0 ∷ 48 ∷ 9 ∷ 0 ∷ 248 ∷ 255 ∷ 255 ∷ 255 ∷ 255 ∷ 255 ∷ []))
    ≡ Err (Truncated 24)
unfolding message_at args_at arg_at desc_at said_at judged data_at
endless_data = refl

-- the receive right of the destination
bad_header : message_at (header 16 0 24 0) ≡ Err BadHeaderDisp
unfolding message_at
bad_header = refl

-- a reply port without a disposition
bad_reply : message_at (header 19 0 24 5) ≡ Err BadHeaderDisp
unfolding message_at
bad_reply = refl

-- the complex bit without port rights
complex_alone : message_at (header 19 128 24 0) ≡ Err ComplexDiffers
unfolding message_at args_at
complex_alone = refl

-- port rights without the complex bit
not_complex : message_at (header 19 0 32 0 ++ (16 ∷ 32 ∷ 1 ∷ 16 ∷ 4 ∷ 0 ∷ 0 ∷ 0 ∷ []))
    ≡ Err ComplexDiffers
unfolding message_at args_at arg_at desc_at said_at judged data_at
not_complex = refl

-- the data stand elsewhere
elsewhere : message_at (handed 19 32 1 0) ≡ Err (OutOfLine 24)
unfolding message_at args_at arg_at desc_at said_at judged data_at
elsewhere = refl

-- the deallocate bit
deallocated : message_at (handed 19 32 1 80) ≡ Err (BadDesc 24)
unfolding message_at args_at arg_at desc_at said_at judged data_at
deallocated = refl

-- the size of a name
half_a_name : message_at (handed 19 16 1 17) ≡ Err (BadDesc 24)
unfolding message_at args_at arg_at desc_at said_at judged data_at
half_a_name = refl

-- a name above the dispositions
unknown_name : message_at (handed 22 32 1 16) ≡ Err (BadDesc 24)
unfolding message_at args_at arg_at desc_at said_at judged data_at
unknown_name = refl

-- a size of 0
no_size : message_at (handed 2 0 1 16) ≡ Err (BadDesc 24)
unfolding message_at args_at arg_at desc_at said_at judged data_at
no_size = refl
