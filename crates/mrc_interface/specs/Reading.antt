-- Believe. Only `IsDefs`, `IsInterface`, `AreInterfaces`, `IsReason`, `IsFirstRefused`,
-- `reason_of`, `refused_of`: which bytes are a MIG file, why others are none. What a file is stands
-- in the crates that read it, after the Server Writer's Guide for MIG; the editions and the order
-- of the steps are this profile's own choice.
use Rattle.std.specs.Prelude.{◌≡◌, ℕ, ◌+◌, List, [], ◌∷◌, ◌++◌, length, Result, Ok, Err}
use Rattle.std.specs.Prelude.{Bool, true, false, if◌then◌else◌}
use Rattle.std.specs.Option.{ok_or}
use Rattle.std.specs.List.{AllZip}
use Rattle.std.specs.Str.{IsUtf8, is_utf8}
use Rattle.mrc_base.specs.declared.memory.OrMemory.{OrMemory}
use Rattle.mrc_base.specs.Reading.{◌>>=◌, UnlessMemory}
use Rattle.mrc_mig_lex.specs.declared.fault.LexFault.{LexFault}
use Rattle.mrc_mig_lex.specs.Tokens.{Lexeme}
use Rattle.mrc_mig_lex.specs.Parts.{HasTokens}
use Rattle.mrc_mig_lex.specs.Lexing.{tokens_of}
use Rattle.mrc_mig_symbols.specs.declared.fault.Stop.{Stop}
use Rattle.mrc_mig_parse.specs.Files.{Meaning, meaning_of}
use Rattle.mrc_mig_parse.specs.Grammar.{IsFile}
use Rattle.mrc_mig_tokens.specs.Editions.{edition_of}
use Rattle.mrc_mig_tokens.specs.declared.edition.Edition.{Edition}
use Rattle.mrc_mig_tokens.specs.declared.edition.Edition.TheVariants.{First, Second, Received}
use Rattle.mrc_mig_tokens.specs.Tokens.{Lexed, lex}
use Rattle.mrc_mig_forms.specs.Files.{FormsSay, forms_in}
use Rattle.mrc_interface.specs.declared.fault.InterfaceFault.{InterfaceFault}
use Rattle.mrc_interface.specs.declared.fault.DefsFault.{DefsFault}
use Rattle.mrc_interface.specs.declared.fault.DefsFault.TheVariants.{NotUtf8, Lex, Parse, Interface}
use Rattle.mrc_interface.specs.declared.fault.FileFault.{FileFault}
use Rattle.mrc_interface.specs.Subsystems.{table_of}
use Rattle.mrc_forms.specs.Tables.{Table}

-- what a file with this table says that leaves nothing out
abbrev pub whole : Table → FormsSay
whole table = record { table = table; left_out = []; unread = [] }

-- A text of edition 1 says this: it is made of tokens that by the grammar are a subsystem, whose
-- ids are not too great.
pub record SaysFirst (text : List ℕ) (said : FormsSay) : Type 0 where
  pub tokens : List Lexeme
  pub has : HasTokens text tokens
  pub subsystem : Meaning
  pub is_file : IsFile tokens subsystem
  pub table : Table
  pub is_table : table_of subsystem ≡ Ok table
  pub all : said ≡ whole table

-- A text of edition 2 says this, as received or not.
pub record SaysSecond (received : Bool) (text : List ℕ) (said : FormsSay) : Type 0 where
  pub lexed : Lexed
  pub has : lex text ≡ Ok lexed
  pub are : forms_in received lexed.tokens ≡ Ok said

-- a text of this edition says this
abbrev pub Says : Edition → List ℕ → FormsSay → Type 0
Says First text said = SaysFirst text said
Says Second text said = SaysSecond false text said
Says Received text said = SaysSecond true text said

-- The bytes are a MIG file, and this is what it says: they are a text, and it says this by its
-- edition.
pub record IsDefs (bytes : List ℕ) (said : FormsSay) : Type 0 where
  pub utf8 : IsUtf8 bytes
  pub says : Says (edition_of bytes) bytes said

-- the bytes are a MIG file, and this is the table of its forms
pub record IsInterface (bytes : List ℕ) (table : Table) : Type 0 where
  pub said : FormsSay
  pub is_defs : IsDefs bytes said
  pub is_table : said.table ≡ table

-- each of the files is a MIG file, and these are their tables, in the same order
abbrev pub AreInterfaces : List (List ℕ) → List Table → Type 0
AreInterfaces files tables = AllZip IsInterface files tables

-- Why bytes have no table: they are no text, or have no tokens, or the tokens are no file, or an id
-- would be too great. Which token it is that cannot stand there is not said.
pub data Reason : Type 0 where
  NoText : Reason
  NoTokens : LexFault → Reason
  NoFile : Reason
  NoTable : InterfaceFault → Reason

-- a text of this edition has no tokens, with this fault
abbrev pub HasNoTokens : Edition → List ℕ → LexFault → Type 0
HasNoTokens First text fault = tokens_of text ≡ Err fault
HasNoTokens Second text fault = lex text ≡ Err fault
HasNoTokens Received text fault = lex text ≡ Err fault

-- the tokens of a text of edition 1 are no file by the grammar
abbrev pub IsNoFirst : List ℕ → Type 0
IsNoFirst text = (tokens : List Lexeme) × HasTokens text tokens
    × ((subsystem : Meaning) → ¬ (IsFile tokens subsystem))

-- the tokens of a text of edition 2 have a fault
abbrev pub IsNoSecond : Bool → List ℕ → Type 0
IsNoSecond received text = (lexed : Lexed) × (stop : Stop) × (lex text ≡ Ok lexed)
    × (forms_in received lexed.tokens ≡ Err stop)

-- the tokens of a text of this edition are no file
abbrev pub IsNoFile : Edition → List ℕ → Type 0
IsNoFile First text = IsNoFirst text
IsNoFile Second text = IsNoSecond false text
IsNoFile Received text = IsNoSecond true text

-- the subsystem of a text of edition 1 has no table
abbrev pub HasNoFirstTable : List ℕ → InterfaceFault → Type 0
HasNoFirstTable text fault = (tokens : List Lexeme) × (subsystem : Meaning)
    × HasTokens text tokens × IsFile tokens subsystem × (table_of subsystem ≡ Err fault)

-- the same of a text of this edition; in edition 2 a row whose ids are too great is left out
abbrev pub HasNoTable : Edition → List ℕ → InterfaceFault → Type 0
HasNoTable First text fault = HasNoFirstTable text fault
HasNoTable Second text fault = ⊥
HasNoTable Received text fault = ⊥

-- the bytes have no table for this reason, and for none that comes before it
abbrev pub IsReason : List ℕ → Reason → Type 0
IsReason bytes NoText = ¬ (IsUtf8 bytes)
IsReason bytes (NoTokens fault) = IsUtf8 bytes × HasNoTokens (edition_of bytes) bytes fault
IsReason bytes NoFile = IsUtf8 bytes × IsNoFile (edition_of bytes) bytes
IsReason bytes (NoTable fault) = IsUtf8 bytes × HasNoTable (edition_of bytes) bytes fault

-- the reason that a fault tells
abbrev pub reason_of : DefsFault → Reason
reason_of NotUtf8 = NoText
reason_of (Lex fault) = NoTokens fault
reason_of (Parse fault) = NoFile
reason_of (Interface fault) = NoTable fault

-- A file of a list that is refused: how many stand before it, and its reason.
pub record Refused : Type 0 where
  pub file : ℕ
  pub reason : Reason

-- the first of the files that is refused, with the reason: all that stand before it are MIG files
pub record IsFirstRefused (files : List (List ℕ)) (refused : Refused) : Type 0 where
  pub before : List (List ℕ)
  pub bytes : List ℕ
  pub after : List (List ℕ)
  pub parts : files ≡ before ++ bytes ∷ after
  pub place : length before ≡ refused.file
  pub tables : List Table
  pub sound : AreInterfaces before tables
  pub reason : IsReason bytes refused.reason

-- the file that a fault tells, and the reason
abbrev pub refused_of : FileFault → Refused
refused_of told = record { file = told.file; reason = reason_of told.fault }

-- a step of the reading, whose fault is the reason
abbrev pub step : {A E F : Type 0} → (E → F) → Result A E → Result A F
step place (Ok x) = Ok x
step place (Err fault) = Err (place fault)

-- bytes that are a text
abbrev pub text_of : List ℕ → Result (List ℕ) Reason
text_of bytes = if is_utf8 bytes then Ok bytes else Err NoText

-- what a text of edition 1 says, or the first reason why it says nothing
abbrev pub said_first : List ℕ → Result FormsSay Reason
said_first text = do
  tokens ← step NoTokens (tokens_of text)
  subsystem ← ok_or (meaning_of tokens) NoFile
  table ← step NoTable (table_of subsystem)
  Ok (whole table)

-- the same of a text of edition 2, as received or not
abbrev pub said_second : Bool → List ℕ → Result FormsSay Reason
said_second received text = do
  lexed ← step NoTokens (lex text)
  step (λ _. NoFile) (forms_in received lexed.tokens)

-- the same of a text of this edition
abbrev pub said_by : Edition → List ℕ → Result FormsSay Reason
said_by First text = said_first text
said_by Second text = said_second false text
said_by Received text = said_second true text

-- what a file's bytes say, or the first reason why they say nothing
abbrev pub defs_of : List ℕ → Result FormsSay Reason
defs_of bytes = text_of bytes >>= λ text. said_by (edition_of text) text

-- the table of the forms of a file's bytes, or the first reason
abbrev pub interface_of : List ℕ → Result Table Reason
interface_of bytes = defs_of bytes >>= λ said. Ok said.table

-- the tables of files, behind this many others, or the first that is refused
abbrev pub interfaces_from : ℕ → List (List ℕ) → Result (List Table) Refused
interfaces_from n [] = Ok []
interfaces_from n (bytes ∷ files) = do
  table ← step (λ reason. record { file = n; reason = reason }) (interface_of bytes)
  tables ← interfaces_from (n + 1) files
  Ok (table ∷ tables)

-- the tables of a list of files, or the first that is refused
abbrev pub interfaces_of : List (List ℕ) → Result (List Table) Refused
interfaces_of files = interfaces_from 0 files

-- what was answered, seen by view, is what the definition gives; a fault tells what it gives
-- instead, unless memory ran out
abbrev pub GivesAs : {A B E F : Type 0} → (A → B) → (F → E) → Result A (OrMemory F) → Result B E
    → Type 0
GivesAs view told (Ok x) given = given ≡ Ok (view x)
GivesAs view told (Err refusal) given = UnlessMemory (λ fault. given ≡ Err (told fault)) refusal
