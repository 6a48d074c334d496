use Rattle.std.proofs.Common.{◌≡◌, ◌/◌, ◌∙◌, ℕ, List, length, ap, sym, subst}
use Rattle.std.specs.List.{flat_map}
use Rattle.mrc_model.specs.Message.{Data}
use Rattle.mrc_desc.specs.Lawful.{IsLawfulData}
use Rattle.mrc_message_words.specs.Values.{number_bytes}
use Rattle.mrc_message_words.proofs.Making.{numbers_lawful}
use Rattle.mrc_message_words.proofs.arguments.of_numbers.Goals as goal

pub returns : goal.returns
returns c =
    let are = c.are_numbers.ensures.0 c.if-not-are_numbers.false in
    let lawful = numbers_lawful c.args.items c.args.name c.args.numbers.now c.requires are in
    let is : c.from-2.result
    ≡ flat_map (number_bytes (c.args.items.size / 8)) c.args.numbers.now =
    c.from-2.ensures ∙ c.in_ok-bytes.ensures
    ∙ ap (λ (w : ℕ). flat_map (number_bytes w) c.args.numbers.now) c.from.ensures in (
      (
        are,
        ap (λ (bytes : List ℕ). Data c.args.name c.args.items.size (length c.args.numbers.now) bytes)
            is,
      ),
      subst
          (λ (bytes : List ℕ).
          IsLawfulData c.args.name c.args.items.size (length c.args.numbers.now) bytes)
          (sym is) lawful,
    )
