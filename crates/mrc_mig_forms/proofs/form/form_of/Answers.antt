use Rattle.std.proofs.Common.{sym, ◌∙◌, map}
use Rattle.std.proofs.lemmas.List.Folds.{list_all-map}
use Rattle.std.proofs.lemmas.List.Sums.{AllPass-from_list_all}
use Rattle.mrc_mig_bodies.specs.declared.bodies.Entry.{Entry}
use Rattle.mrc_mig_bodies.specs.Bodies.{item_of}
use Rattle.mrc_mig_forms.specs.Bodies.{form_of}
use Rattle.mrc_mig_forms.specs.Bounds.{item_fits}
use Rattle.mrc_mig_forms.proofs.FormLemmas.{entry_more}
use Rattle.mrc_mig_forms.proofs.form.form_of.Goals as goal

-- each item fits
pub put_item-requires-clause-fits : goal.put_item-requires-clause-fits
put_item-requires-clause-fits c =
    let entries = c.args.entries.now in
    AllPass-from_list_all (λ (e : Entry). item_fits (item_of e)) entries
    (sym (list_all-map item_fits item_of entries) ∙ c.requires.fit) c.loop-entry.entry-index _
    c.loop-entry-test.true

pub loop-entry-preserved : goal.loop-entry-preserved
loop-entry-preserved c =
    entry_more c.loop-entry.form c.put_item.new.form
    (form_of c.args.name.now c.args.id c.args.kind (map item_of c.args.entries.now))
    c.args.entries.now c.loop-entry.entry-index _ c.loop-entry-test.true
    c.in_ok-put_item.ensures c.loop-entry.invariant
