use Rattle.std.proofs.Common.{false, refl, sym}
use Rattle.mrc_mig_types.specs.declared.layout.Laid.{Laid}
use Rattle.mrc_mig_types.proofs.LayoutLemmas.{with_more, refuses, goes_on}
use Rattle.mrc_mig_types.proofs.layout.Laid.with.Goals as goal

pub returns-in-Some : goal.returns-in-Some
returns-in-Some c =
    with_more c.args.self c.with_field.result c.args.meaning
    (goes_on c.args.self c.with_field.result c.in-Some.field c.with_field.ensures.laid
    c.with_field.ensures.none _ (sym c.in-Some.ensures))

pub returns-in-None : goal.returns-in-None
returns-in-None c =
    let result : Laid = record {
      size = c.args.self.size;
      alignment = c.args.self.alignment;
      has_length = false;
    } in
    with_more c.args.self result c.args.meaning
    (refuses c.args.self result refl _ (sym c.in-None.ensures))
