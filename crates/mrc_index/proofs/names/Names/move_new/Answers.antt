use Rattle.std.proofs.Common.{◌∙◌, sym, ap, subst}
use Rattle.mrc_model.specs.Space.{put_entry}
use Rattle.mrc_index.specs.Undo.{CanPut}
use Rattle.mrc_index.proofs.UndoLaws.{commutes, still_can}
use Rattle.mrc_index.proofs.names.Names.move_new.Goals as goal

pub put_back-requires : goal.put_back-requires
put_back-requires c =
    subst (λ z. CanPut z c.args.from c.args.rest) (sym c.in_ok-put.ensures.ok)
    (still_can c.args.self.now c.args.from c.args.to c.args.rest c.args.entry c.requires.there
    c.requires.unused c.requires.left)

pub returns-clause-ok : goal.returns-clause-ok
returns-clause-ok c =
    c.put_back.ensures
    ∙ ap (λ z. put_entry z c.args.from c.args.rest) c.in_ok-put.ensures.ok
    ∙ commutes c.args.self.now c.args.from c.args.to c.args.rest c.args.entry c.requires.there
    c.requires.unused
