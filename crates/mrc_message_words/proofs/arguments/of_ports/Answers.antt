use Rattle.std.proofs.Common.{◌≡◌, ◌∙◌, ℕ, List, length, arith, ap, sym, subst}
use Rattle.mrc_base.specs.Disposition.{disp_number}
use Rattle.mrc_model.specs.Message.{Ports}
use Rattle.mrc_desc.specs.Lawful.{IsLawfulPorts}
use Rattle.mrc_message_words.proofs.Making.{disp_least, disp_most, few_items, names_below}
use Rattle.mrc_message_words.proofs.arguments.of_ports.Goals as goal

pub returns : goal.returns
returns c =
    let are = c.are_ports.ensures.0 c.if-not-are_ports.false in
    let few = few_items c.args.items _ (length c.args.names.now) c.requires are.typed are.count in
    let is : c.from-names.result ≡ c.args.names.now = c.from-names.ensures ∙ c.in_ok-from_slice.ensures.items in
    let lawful : IsLawfulPorts (disp_number c.args.disp) c.args.names.now = record {
      least = disp_least c.args.disp;
      most = disp_most c.args.disp;
      number_fits = omega arith;
      names_fit = names_below c.args.names.now (λ i. omega (arith, c.type_inv.names i));
    } in (
      (are, ap (λ (names : List ℕ). Ports (disp_number c.args.disp) names) is),
      subst (λ (names : List ℕ). IsLawfulPorts (disp_number c.args.disp) names) (sym is) lawful,
    )
