use Rattle.std.proofs.Common.{ap, ◌∙◌}
use Rattle.std.specs.Prelude.{find}
use Rattle.mrc_facts.specs.Sets.{has}
use Rattle.mrc_why.specs.Broken.{is_broken}
use Rattle.mrc_mend.specs.Judging.{asked_lines, of_line}
use Rattle.mrc_mend.proofs.Verdicts.{yes_of, no_of}
use Rattle.mrc_mend.proofs.judging.first_broken.Goals as goal

pub returns-clause-yes : goal.returns-clause-yes
returns-clause-yes c =
    yes_of (of_line c.args.only c.args.claim.now) c.args.facts.now c.broken_of.result
    c.requires.least c.requires.secure
    (c.broken_of.ensures ∙ ap (find (is_broken (has c.args.facts.now)))
    (c.deref.ensures.value ∙ c.in_ok-asked.ensures ∙ ap (asked_lines c.args.only) c.lines.ensures))

pub returns-clause-no : goal.returns-clause-no
returns-clause-no c =
    no_of (of_line c.args.only c.args.claim.now) c.args.facts.now c.broken_of.result
    c.requires.least
    (c.broken_of.ensures ∙ ap (find (is_broken (has c.args.facts.now)))
    (c.deref.ensures.value ∙ c.in_ok-asked.ensures ∙ ap (asked_lines c.args.only) c.lines.ensures))
