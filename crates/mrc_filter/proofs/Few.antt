-- A message has few arguments.
use Rattle.std.proofs.Common.{◌≡◌, ℕ, ◌^◌, ◌<◌, ◌≤◌, Bool, true, false, cond}
use Rattle.std.proofs.Common.{List, [], ◌∷◌, length, arith, length-append, ap}
use Rattle.std.specs.List.{flat_map}
use Rattle.std.proofs.lemmas.List.{length-map}
use Rattle.mrc_model.specs.Message.{Arg, Data, Ports, Message, arg_bytes, descriptor, padded, word}
use Rattle.mrc_desc.specs.declared.argument.Argument.{Argument}
use Rattle.mrc_desc.specs.declared.argument.Desc.{Desc}
use Rattle.mrc_desc.specs.Descriptor.{is_short}
use Rattle.mrc_desc.specs.Lawful.{IsLawful}
use Rattle.mrc_desc.specs.View.{argument_of, arguments_of}
use Rattle.mrc_desc.proofs.Descriptors.{length-descriptor}

enough : (b : Bool) → 4 ≤ cond b 4 12
enough true = omega arith
enough false = omega arith

abbrev as_desc : (name size number : ℕ) → Desc
as_desc name size number = record { name = name; size = size; number = number }

some_bytes : (a : Arg) → 1 ≤ length (arg_bytes a)
some_bytes (Data name size number bytes) =
    omega (
      arith,
      length-append (descriptor name size number) (padded bytes),
      length-descriptor name size number,
      enough (is_short (as_desc name size number)),
    )
some_bytes (Ports disp names) =
    omega (
      arith,
      length-append (descriptor disp 32 (length names)) (flat_map word names),
      length-descriptor disp 32 (length names),
      enough (is_short (as_desc disp 32 (length names))),
    )

-- no more than bytes
fewer : (args : List Arg) → length args ≤ length (flat_map arg_bytes args)
fewer [] = omega arith
fewer (a ∷ more) =
    omega (
      arith,
      length-append (arg_bytes a) (flat_map arg_bytes more),
      some_bytes a,
      fewer more,
    )

-- the number of an argument is one of 32 bits
pub few : (m : Message) (args : List Argument) → IsLawful m → arguments_of args ≡ m.args
    → length args < 2 ^ 32
few m args is e =
    omega (arith, is.args.1, fewer m.args, ap length e, length-map args argument_of)
