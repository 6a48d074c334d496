use Rattle.std.proofs.Common.{refl, ◌∙◌}
use Rattle.mrc_why.proofs.Verdicts.{found_by}
use Rattle.mrc_why.proofs.judging.found_by.Goals as goal

pub returns : goal.returns
returns c =
    found_by c.args.claim.now c.args.claim.now.table c.lines.result.now
    c.args.derivations.now c.exposed_task.new.derivations
    c.broken_lines.new.derivations c.in_ok-facts.facts c.in_ok-exposed.exposed
    c.in_ok-broken.broken.items refl c.lines.ensures
    c.requires.table c.requires.least
    c.in_ok-exposed.ensures.kept c.in_ok-broken.ensures.kept
    (c.in_ok-facts.ensures ∙ c.facts.ensures.exact)
    c.in_ok-exposed.ensures.exposed c.in_ok-exposed.ensures.chain c.in_ok-broken.ensures.lines
    c.in_ok-broken.ensures.chains
