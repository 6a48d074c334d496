-- What a text of edition 2 says is the forms of the file that its tokens are.
use Rattle.std.proofs.Common.{ℕ, List, Bool, Ok, ap, sym}
use Rattle.mrc_base.specs.Reading.{◌>>=◌}
use Rattle.mrc_base.proofs.Steps.{bind_ok, ok_is}
use Rattle.mrc_mig_rows.specs.Files.{file_at}
use Rattle.mrc_mig_forms.specs.Files.{forms_of}
use Rattle.mrc_mig_laws.specs.Laws.{TextsAreFound, TextsAreRead}
use Rattle.mrc_mig_laws.proofs.FileLemmas.{files_are_found, files_are_read}

pub texts_found : TextsAreFound
texts_found received text said says =
    let tokens = says.lexed.tokens in
    let file = bind_ok (file_at received tokens) (λ f. Ok (forms_of f)) said says.are in (
      file.0,
      record { lexed = says.lexed; has = says.has; is = files_are_found received tokens file.0 file.1 },
      sym (ok_is (forms_of file.0) said file.2),
    )

pub texts_read : TextsAreRead
texts_read received text file is =
    record {
      lexed = is.lexed;
      has = is.has;
      are = ap (λ r. r >>= λ f. Ok (forms_of f)) (files_are_read received is.lexed.tokens file is.is);
    }
