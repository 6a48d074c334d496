-- Messages that differ in their headers and their port rights alone are equally large.
use Rattle.std.proofs.Common.{◌≡◌, ℕ, ◌≤◌, List, [], ◌∷◌, length}
use Rattle.std.proofs.Common.{Bool, true, cond, ◌&&◌, leb, refl, sym, ap, subst, ◌∙◌, arith}
use Rattle.std.proofs.Common.{length-append}
use Rattle.std.specs.List.{flat_map, AllByRecursion}
use Rattle.std.proofs.lemmas.Bool.{le-leb}
use Rattle.mrc_model.specs.Message.{Arg, Data, Ports, Message, word, descriptor, arg_bytes}
use Rattle.mrc_desc.specs.Lawful.{IsLawfulArg, HeaderFits, IsLawful}
use Rattle.mrc_desc.specs.Laws.{OtherArg, OtherArgs}
use Rattle.mrc_desc.proofs.Words.{length-words}
use Rattle.mrc_desc.proofs.Descriptors.{length-descriptor}

-- other port rights are lawful too
other_lawful : (a other : Arg) → IsLawfulArg a → OtherArg a other → IsLawfulArg other
other_lawful (Data name size number bytes) other h is = subst IsLawfulArg (sym is) h
other_lawful (Ports name names) (Data other size number bytes) h is = absurd is
other_lawful (Ports name names) (Ports other others) h is = record {
  least = is.least;
  most = is.most;
  number_fits = omega (arith, h.number_fits, is.as_many);
  names_fit = is.names_fit;
}

-- the descriptor of port rights is as long for each disposition
ports_len : (name other number : ℕ) → name ≤ 21 → other ≤ 21
    → length (descriptor other 32 number) ≡ length (descriptor name 32 number)
ports_len name other number h o =
    let a : leb name 255 ≡ true = le-leb name 255 (omega arith) in
    let b : leb other 255 ≡ true = le-leb other 255 (omega arith) in
    length-descriptor other 32 number
    ∙ ap (λ (fits : Bool). cond (fits && (leb 32 255 && leb number 4095)) 4 12) (b ∙ sym a)
    ∙ sym (length-descriptor name 32 number)

-- and they are as large
other_size : (a other : Arg)
    → IsLawfulArg a
    → OtherArg a other
    → length (arg_bytes other) ≡ length (arg_bytes a)
other_size (Data name size number bytes) other h is = ap (λ (a : Arg). length (arg_bytes a)) is
other_size (Ports name names) (Data other size number bytes) h is = absurd is
other_size (Ports name names) (Ports other others) h is =
    omega (
      arith,
      length-append (descriptor other 32 (length others)) (flat_map word others),
      length-append (descriptor name 32 (length names)) (flat_map word names),
      length-words others,
      length-words names,
      ports_len name other (length names) h.most is.most,
      ap (λ (n : ℕ). length (descriptor other 32 n)) is.as_many,
      is.as_many,
    )

-- all of them
pub others_size : (args others : List Arg)
    → AllByRecursion IsLawfulArg args
    → OtherArgs args others
    → length (flat_map arg_bytes others) ≡ length (flat_map arg_bytes args)
others_size [] [] h is = refl
others_size [] (other ∷ others) h is = absurd is
others_size (a ∷ args) [] h is = absurd is
others_size (a ∷ args) (other ∷ others) h is =
    omega (
      arith,
      length-append (arg_bytes other) (flat_map arg_bytes others),
      length-append (arg_bytes a) (flat_map arg_bytes args),
      other_size a other h.0 is.0,
      others_size args others h.1 is.1,
    )

others_lawful : (args others : List Arg)
    → AllByRecursion IsLawfulArg args
    → OtherArgs args others
    → AllByRecursion IsLawfulArg others
others_lawful [] [] h is = tt
others_lawful [] (other ∷ others) h is = absurd is
others_lawful (a ∷ args) [] h is = absurd is
others_lawful (a ∷ args) (other ∷ others) h is =
    (other_lawful a other h.0 is.0, others_lawful args others h.1 is.1)

-- so the message is lawful
pub other_message_lawful : (m other : Message)
    → IsLawful m
    → HeaderFits other
    → OtherArgs m.args other.args
    → IsLawful other
other_message_lawful m other lawful fits is = record {
  header = fits;
  args = (
    others_lawful m.args other.args lawful.args.0 is,
    omega (arith, lawful.args.1, others_size m.args other.args lawful.args.0 is),
  );
}
