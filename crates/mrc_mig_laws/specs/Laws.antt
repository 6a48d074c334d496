-- Law. That rows and files are read by their grammars.
use Rattle.std.specs.Prelude.{◌≡◌, ℕ, List, Bool, Some, Ok}
use Rattle.mrc_mig_bodies.specs.declared.kinds.Request.{Request}
use Rattle.mrc_mig_bodies.specs.Bodies.{Item}
use Rattle.mrc_mig_bodies.specs.Parameters.{Parameter}
use Rattle.mrc_mig_tokens.specs.Tokens.{Token}
use Rattle.mrc_mig_types.specs.Table.{Known}
use Rattle.mrc_mig_rows.specs.declared.kinds.RowKind.{RowKind}
use Rattle.mrc_mig_rows.specs.declared.kinds.StatementKind.TheVariants as kinds
use Rattle.mrc_mig_rows.specs.Files.{FileSays, file_at}
use Rattle.mrc_mig_rows.specs.Kinds.{statement_kind}
use Rattle.mrc_mig_rows.specs.Rows.{IsRead, RowSays, Where, row_at}
use Rattle.mrc_mig_rows.specs.Statements.{IsStatement}
use Rattle.mrc_mig_forms.specs.Files.{FormsSay, forms_of}
use Rattle.mrc_interface.specs.Reading.{SaysSecond}
use Rattle.mrc_mig_laws.specs.FileGrammar.{IsFile}
use Rattle.mrc_mig_laws.specs.Texts.{IsSecondText}
use Rattle.mrc_mig_laws.specs.RowGrammar.{IsReadRow, IsNoReadRow, IsLeftOutRow}
use Rattle.mrc_mig_laws.specs.Routines.{IsRoutine}

-- a row that is read is a routine by the grammar
abbrev pub ReadRowsAreRoutines : Type 0
ReadRowsAreRoutines =
    (known : Where) (kind : RowKind) (tokens : List Token) (request : Request)
    (request_items reply_items : List Item)
    → (row_at known kind tokens).outcome ≡ IsRead request request_items reply_items
    → IsReadRow known kind tokens (row_at known kind tokens)

-- a routine by the grammar is read, as what it is
abbrev pub RoutinesAreRead : Type 0
RoutinesAreRead =
    (known : Where) (kind : RowKind) (tokens : List Token) (row : RowSays)
    → IsReadRow known kind tokens row
    → row_at known kind tokens ≡ row

-- a row that is left out is no routine by the grammar
abbrev pub LeftOutRowsAreNone : Type 0
LeftOutRowsAreNone =
    (known : Where) (kind : RowKind) (tokens : List Token)
    → IsLeftOutRow (row_at known kind tokens)
    → IsNoReadRow known kind tokens

-- a row that is no routine by the grammar is left out
abbrev pub OthersAreLeftOut : Type 0
OthersAreLeftOut =
    (known : Where) (kind : RowKind) (tokens : List Token)
    → IsNoReadRow known kind tokens
    → IsLeftOutRow (row_at known kind tokens)

-- a routine is the whole of its statement
abbrev pub RoutinesAreStatements : Type 0
RoutinesAreStatements =
    (types : Known) (kind : RowKind) (tokens : List Token) (name : List ℕ)
    (arguments : List Parameter) (behind : List Token)
    → statement_kind tokens ≡ Some (kinds.Row kind)
    → IsRoutine types tokens name arguments behind
    → IsStatement tokens behind

-- a file that is read has these statements, and is what they say
abbrev pub FilesAreFound : Type 0
FilesAreFound =
    (received : Bool) (tokens : List Token) (file : FileSays)
    → file_at received tokens ≡ Ok file
    → IsFile received tokens file

-- and a file that has these statements is read
abbrev pub FilesAreRead : Type 0
FilesAreRead =
    (received : Bool) (tokens : List Token) (file : FileSays)
    → IsFile received tokens file
    → file_at received tokens ≡ Ok file

-- what is read of a text of edition 2 is the forms of the file that its tokens are
abbrev pub TextsAreFound : Type 0
TextsAreFound =
    (received : Bool) (text : List ℕ) (said : FormsSay)
    → SaysSecond received text said
    → (file : FileSays) × IsSecondText received text file × (said ≡ forms_of file)

-- and the forms of what its tokens are is read
abbrev pub TextsAreRead : Type 0
TextsAreRead =
    (received : Bool) (text : List ℕ) (file : FileSays)
    → IsSecondText received text file
    → SaysSecond received text (forms_of file)
