use Rattle.std.proofs.lemmas.List.Elements.{All-same, All-push}
use Rattle.mrc_mend.specs.declared.answers.Mend.{Mend}
use Rattle.mrc_mend.specs.Judging.{MendOver}
use Rattle.mrc_mend.proofs.Lists.{all_kept}
use Rattle.mrc_mend.proofs.searching.add_mend.Goals as goal

-- those that stay are mends, and the new one is
pub returns : goal.returns
returns c =
    let P : Mend → Type 0 = λ m. MendOver c.args.interfaces.now c.args.texts.now m.changes.items in
    All-same P _ _ c.in_ok-push.ensures.items
    (All-push P _ c.args.mend (all_kept _ P _ _ _ c.retain.ensures.filtered c.requires.all)
    c.requires.one)
