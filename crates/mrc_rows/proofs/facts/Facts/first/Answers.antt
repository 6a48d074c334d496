use Rattle.std.proofs.Common.{◌∙◌}
use Rattle.mrc_rows.proofs.Wholes.{whole_as, first_of_both, least_answer, none_answer, both_answers}
use Rattle.mrc_rows.proofs.facts.Facts.first.Goals as goal

pub returns-clause-exact : goal.returns-clause-exact
returns-clause-exact c =
    let old = whole_as c.self.inside.rows c.self.inside.others c.self.inside.whole c.args.self.now c.self.view_is in
    c.earlier.ensures ∙ (both_answers c.first.result c.first-2.result _ _ c.first.ensures c.first-2.ensures ∙ first_of_both c.self.inside.rows c.self.inside.others c.args.self.now old)

pub returns-clause-least : goal.returns-clause-least
returns-clause-least c =
    let old = whole_as c.self.inside.rows c.self.inside.others c.self.inside.whole c.args.self.now c.self.view_is in
    least_answer c.args.self.now c.earlier.result old.ascending (returns-clause-exact c)

pub returns-clause-none : goal.returns-clause-none
returns-clause-none c = none_answer c.args.self.now c.earlier.result (returns-clause-exact c)

pub returns-clause-kept : goal.returns-clause-kept
returns-clause-kept c =
    (whole_as c.self.inside.rows c.self.inside.others c.self.inside.whole c.args.self.now c.self.view_is).ascending
