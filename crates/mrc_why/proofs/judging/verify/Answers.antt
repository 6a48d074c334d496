use Rattle.mrc_why.proofs.Verdicts.{told_of_each, exposed_of_each, yes_found, no_found}
use Rattle.mrc_why.proofs.judging.verify.Goals as goal

pub returns-clause-exposed : goal.returns-clause-exposed
returns-clause-exposed c =
    let v = c.in_ok-verdict.verdict in
    let found = c.in_ok-verdict.ensures in
    exposed_of_each c.args.claim.now v.facts v.exposed found.least found.first

pub returns-clause-lines : goal.returns-clause-lines
returns-clause-lines c =
    let v = c.in_ok-verdict.verdict in
    let found = c.in_ok-verdict.ensures in
    told_of_each c.args.claim.now v.facts v.broken.items found.least found.lines

pub returns-clause-yes : goal.returns-clause-yes
returns-clause-yes c = λ is.
    let v = c.in_ok-verdict.verdict in
    let found = c.in_ok-verdict.ensures in
    yes_found c.args.claim.now v.facts v.exposed v.broken.items found.least found.first
    found.lines is

pub returns-clause-no : goal.returns-clause-no
returns-clause-no c = λ is.
    let v = c.in_ok-verdict.verdict in
    let found = c.in_ok-verdict.ensures in
    no_found c.args.claim.now v.facts v.exposed v.broken.items found.least found.first
    found.lines is
