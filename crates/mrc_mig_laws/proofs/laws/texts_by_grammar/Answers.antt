use Rattle.mrc_mig_laws.proofs.TextLemmas.{texts_found, texts_read}
use Rattle.mrc_mig_laws.proofs.laws.texts_by_grammar.Goals as goal

pub returns : goal.returns
returns c = record { found = texts_found; only = texts_read }
