use Rattle.mrc_confine.proofs.Meaning.{broken_has_none, no_has_no_yes, rewriter_has_none}
use Rattle.mrc_confine.proofs.laws.broken_has_no_yes.Goals as goal

pub returns : goal.returns
returns c = record {
  no = no_has_no_yes;
  broken = broken_has_none;
  rewritten = rewriter_has_none;
}
