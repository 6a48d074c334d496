use Rattle.mrc_mig_types.proofs.SpecPhrases.{read_is_spec, spec_is_read}
use Rattle.mrc_mig_types.proofs.laws.specs_by_grammar.Goals as goal

pub returns : goal.returns
returns c = record {
  found = read_is_spec;
  only = spec_is_read;
}
