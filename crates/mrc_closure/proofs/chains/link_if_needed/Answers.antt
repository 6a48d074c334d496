use Rattle.mrc_closure.proofs.chains.link_if_needed.Goals as goal

-- the fact follows, so there is an instance
pub returns-in_default : goal.returns-in_default
returns-in_default c =
    absurd (c.in_default.ensures.none c.requires.rule c.requires.follows)
