use Rattle.mrc_certificate.specs.Spelling.{content}
use Rattle.mrc_check.proofs.Accepted.{only_memory}
use Rattle.mrc_check.proofs.confined.check.Goals as goal

-- what is accepted has no reason to be refused
pub returns-in-Err-clause-only : goal.returns-in-Err-clause-only
returns-in-Err-clause-only g c =
    λ accepted. only_memory c.args.claim (content c.args.draft) c.in-Err.why accepted
    c.in-Err.ensures.fault
