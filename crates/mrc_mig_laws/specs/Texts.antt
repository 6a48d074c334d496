-- Believe. Which texts are a file of edition 2, by the grammar of its tokens.
use Rattle.std.specs.Prelude.{◌≡◌, ℕ, List, Bool, Ok}
use Rattle.mrc_mig_tokens.specs.Tokens.{Lexed, lex}
use Rattle.mrc_mig_rows.specs.Files.{FileSays}
use Rattle.mrc_mig_laws.specs.FileGrammar.{IsFile}

-- the text has tokens, and they are a file that says this, as received or not
pub record IsSecondText (received : Bool) (text : List ℕ) (file : FileSays) : Type 0 where
  pub lexed : Lexed
  pub has : lex text ≡ Ok lexed
  pub is : IsFile received lexed.tokens file
