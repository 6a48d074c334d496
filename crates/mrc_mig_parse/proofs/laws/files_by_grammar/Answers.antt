use Rattle.mrc_mig_parse.proofs.laws.files_by_grammar.Goals as goal
use Rattle.mrc_mig_parse.proofs.FilePhrases.{read_is_file, file_is_read}

pub returns : goal.returns
returns c = record { is = read_is_file; read = file_is_read }
