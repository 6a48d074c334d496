use Rattle.std.proofs.Common.{arith}
use Rattle.mrc_certificate.proofs.Whole.{is_found, is_only}
use Rattle.mrc_certificate.proofs.reading.read_draft.Goals as goal

pub returns-clause-found : goal.returns-clause-found
returns-clause-found c =
    is_found c.args.bytes.now c.draft_from.result (λ i. omega (arith, c.type_inv.bytes i))
    c.draft_from.ensures

pub returns-clause-only : goal.returns-clause-only
returns-clause-only c = is_only c.args.bytes.now c.draft_from.result c.draft_from.ensures
