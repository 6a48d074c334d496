use Rattle.std.proofs.Common.{◌∙◌}
use Rattle.mrc_facts.proofs.Members.{after_answers, after_lacks}
use Rattle.mrc_rows.proofs.Wholes.{whole_as, after_of_both, both_answers}
use Rattle.mrc_rows.proofs.facts.Facts.after.Goals as goal

pub returns-clause-exact : goal.returns-clause-exact
returns-clause-exact c =
    let old = whole_as c.self.inside.rows c.self.inside.others c.self.inside.whole c.args.self.now c.self.view_is in
    c.earlier.ensures ∙ (both_answers c.after.result c.listed_after.result _ _ c.after.ensures c.listed_after.ensures ∙ after_of_both c.self.inside.rows c.self.inside.others c.args.self.now c.args.fact old)

pub returns-clause-least : goal.returns-clause-least
returns-clause-least c =
    let old = whole_as c.self.inside.rows c.self.inside.others c.self.inside.whole c.args.self.now c.self.view_is in
    after_answers c.args.self.now c.args.fact c.earlier.result (returns-clause-exact c) old.ascending

pub returns-clause-none : goal.returns-clause-none
returns-clause-none c = after_lacks c.args.self.now c.args.fact c.earlier.result (returns-clause-exact c)
