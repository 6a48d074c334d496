-- Reading agrees with what a MIG file is, and with why bytes are none; and so for lists of files.
use Rattle.std.proofs.Common.{◌≡◌, ℕ, suc, ◌+◌, Bool, true, false, inl, inr, List, [], ◌∷◌}
use Rattle.std.proofs.Common.{◌++◌, length, Option, Some, None, Result, Ok, Err}
use Rattle.std.proofs.Common.{refl, sym, ap, subst, ◌∙◌, arith}
use Rattle.std.specs.Prelude.{IfOk, IfErr}
use Rattle.std.specs.Option.{ok_or}
use Rattle.std.specs.Str.{IsUtf8, is_utf8}
use Rattle.std.proofs.lemmas.Bool.{cases_Bool, false_from_ne_true}
use Rattle.std.proofs.lemmas.Str.{IsUtf8-from_is_utf8, is_utf8-from_IsUtf8}
use Rattle.mrc_base.specs.declared.memory.OrMemory.{OrMemory}
use Rattle.mrc_base.specs.declared.memory.OrMemory.TheVariants.{Fault, Memory}
use Rattle.mrc_base.specs.Reading.{◌>>=◌, UnlessMemory}
use Rattle.mrc_mig_lex.specs.declared.fault.LexFault.{LexFault}
use Rattle.mrc_mig_lex.specs.Tokens.{Lexeme}
use Rattle.mrc_mig_lex.specs.Parts.{HasTokens}
use Rattle.mrc_mig_lex.specs.Lexing.{tokens_of}
use Rattle.mrc_mig_lex.proofs.PartLaws.{has_tokens, only_tokens}
use Rattle.mrc_model.proofs.Maps.{not_None}
use Rattle.mrc_mig_parse.specs.Files.{Meaning, meaning_of}
use Rattle.mrc_mig_parse.specs.Grammar.{IsFile}
use Rattle.mrc_mig_parse.proofs.FilePhrases.{read_is_file, file_is_read}
use Rattle.mrc_interface.specs.declared.fault.InterfaceFault.{InterfaceFault}
use Rattle.mrc_interface.specs.Subsystems.{table_of}
use Rattle.mrc_forms.specs.Tables.{Table}
use Rattle.mrc_mig_symbols.specs.declared.fault.Stop.{Stop}
use Rattle.mrc_mig_tokens.specs.Editions.{edition_of}
use Rattle.mrc_mig_tokens.specs.declared.edition.Edition.{Edition}
use Rattle.mrc_mig_tokens.specs.declared.edition.Edition.TheVariants.{First, Second, Received}
use Rattle.mrc_mig_tokens.specs.Tokens.{Lexed, lex}
use Rattle.mrc_mig_forms.specs.Files.{FormsSay, forms_in}
use Rattle.mrc_interface.specs.Reading.{IsDefs, IsInterface, AreInterfaces, Reason, NoText}
use Rattle.mrc_interface.specs.Reading.{NoTokens, NoFile, NoTable, IsReason, Refused}
use Rattle.mrc_interface.specs.Reading.{IsFirstRefused, SaysFirst, SaysSecond, Says, whole}
use Rattle.mrc_interface.specs.Reading.{HasNoTokens, IsNoFirst, IsNoSecond, IsNoFile, HasNoTable}
use Rattle.mrc_interface.specs.Reading.{HasNoFirstTable, said_by, defs_of}
use Rattle.mrc_interface.specs.Reading.{step, interface_of, interfaces_from, interfaces_of, GivesAs}

-- what an answer tells: this of a value, and that of a fault
abbrev pub Tells : {A F : Type 0} → (A → Type 0) → (F → Type 0) → Result A F → Type 0
Tells P Q (Ok x) = P x
Tells P Q (Err fault) = Q fault

-- bytes that are no text
pub no_text : (bytes : List ℕ) → (IsUtf8 bytes → ⊥) → is_utf8 bytes ≡ false
no_text bytes not_text =
    false_from_ne_true (is_utf8 bytes) (λ e. not_text (IsUtf8-from_is_utf8 bytes e))

-- tokens that are no file
no_file : (tokens : List Lexeme) → ((m : Meaning) → IsFile tokens m → ⊥)
    → meaning_of tokens ≡ None
no_file tokens none =
    let by : (o : Option Meaning) → meaning_of tokens ≡ o → meaning_of tokens ≡ None = elim [
      | None ↦ λ e. e
      | Some m ↦ λ e. absurd (none m (read_is_file tokens m e))
    ] in
    by (meaning_of tokens) refl

-- what a text of an edition says is read
says_read : (edition : Edition) (text : List ℕ) (said : FormsSay) → Says edition text said
    → said_by edition text ≡ Ok said
says_read First text said is =
    rw (
      only_tokens text is.tokens is.has,
      file_is_read is.tokens is.subsystem is.is_file,
      is.is_table,
    )
    (ap (λ (s : FormsSay). Ok s) (sym is.all))
says_read Second text said is = rw (is.has, is.are) refl
says_read Received text said is = rw (is.has, is.are) refl

-- what the bytes of a file say is read
pub defs_read : (bytes : List ℕ) (said : FormsSay) → IsDefs bytes said → defs_of bytes ≡ Ok said
defs_read bytes said is =
    rw (is_utf8-from_IsUtf8 bytes is.utf8) (says_read (edition_of bytes) bytes said is.says)

-- the table that bytes have is read
pub interface_read : (bytes : List ℕ) (table : Table) → IsInterface bytes table
    → interface_of bytes ≡ Ok table
interface_read bytes table is =
    rw (defs_read bytes is.said is.is_defs) (ap (λ (t : Table). Ok t) is.is_table)

-- why a text of an edition says nothing is read
no_tokens_read : (edition : Edition) (text : List ℕ) (fault : LexFault)
    → HasNoTokens edition text fault
    → said_by edition text ≡ Err (NoTokens fault)
no_tokens_read First text fault is = rw is refl
no_tokens_read Second text fault is = rw is refl
no_tokens_read Received text fault is = rw is refl

no_file_read : (edition : Edition) (text : List ℕ) → IsNoFile edition text
    → said_by edition text ≡ Err NoFile
no_file_read First text is = rw (only_tokens text is.0 is.1, no_file is.0 is.2) refl
no_file_read Second text is = rw (is.2, is.3) refl
no_file_read Received text is = rw (is.2, is.3) refl

no_table_read : (edition : Edition) (text : List ℕ) (fault : InterfaceFault)
    → HasNoTable edition text fault
    → said_by edition text ≡ Err (NoTable fault)
no_table_read First text fault is =
    rw (only_tokens text is.0 is.2, file_is_read is.0 is.1 is.3, is.4) refl
no_table_read Second text fault is = absurd is
no_table_read Received text fault is = absurd is

-- why bytes are no file is read
pub refused_defs : (bytes : List ℕ) (reason : Reason) → IsReason bytes reason
    → defs_of bytes ≡ Err reason
refused_defs bytes NoText not_text = rw (no_text bytes not_text) refl
refused_defs bytes (NoTokens fault) is =
    rw (is_utf8-from_IsUtf8 bytes is.0) (no_tokens_read (edition_of bytes) bytes fault is.1)
refused_defs bytes NoFile is =
    rw (is_utf8-from_IsUtf8 bytes is.0) (no_file_read (edition_of bytes) bytes is.1)
refused_defs bytes (NoTable fault) is =
    rw (is_utf8-from_IsUtf8 bytes is.0) (no_table_read (edition_of bytes) bytes fault is.1)

-- the reason why they have no table is read
pub reason_read : (bytes : List ℕ) (reason : Reason) → IsReason bytes reason
    → interface_of bytes ≡ Err reason
reason_read bytes reason is = rw (refused_defs bytes reason is) refl

-- why a text of edition 1 says nothing
abbrev WhyFirst : List ℕ → Reason → Type 0
WhyFirst text NoText = ⊥
WhyFirst text (NoTokens fault) = HasNoTokens First text fault
WhyFirst text NoFile = IsNoFirst text
WhyFirst text (NoTable fault) = HasNoFirstTable text fault

-- each step of the reading of edition 1 tells its part of what the text says
with_subsystem : (text : List ℕ) (tokens : List Lexeme) → HasTokens text tokens → (m : Meaning)
    → IsFile tokens m
    → (r : Result Table InterfaceFault) → table_of m ≡ r
    → Tells (SaysFirst text) (WhyFirst text) (step NoTable r >>= λ table. Ok (whole table))
with_subsystem text tokens has m is (Ok table) e = record {
  tokens = tokens;
  has = has;
  subsystem = m;
  is_file = is;
  table = table;
  is_table = e;
  all = refl;
}
with_subsystem text tokens has m is (Err fault) e = (tokens, m, has, is, e)

with_tokens : (text : List ℕ) (tokens : List Lexeme) → HasTokens text tokens → (o : Option Meaning)
    → meaning_of tokens ≡ o
    → Tells (SaysFirst text) (WhyFirst text)
    (ok_or o NoFile >>= λ m. step NoTable (table_of m) >>= λ table. Ok (whole table))
with_tokens text tokens has None none =
    (tokens, has, λ m is. not_None m (sym (file_is_read tokens m is) ∙ none))
with_tokens text tokens has (Some m) e =
    with_subsystem text tokens has m (read_is_file tokens m e) (table_of m) refl

first_told : (text : List ℕ) (r : Result (List Lexeme) LexFault) → tokens_of text ≡ r
    → Tells (SaysFirst text) (WhyFirst text)
    (step NoTokens r >>= λ tokens. ok_or (meaning_of tokens) NoFile
    >>= λ m. step NoTable (table_of m) >>= λ table. Ok (whole table))
first_told text (Ok tokens) e =
    with_tokens text tokens (has_tokens text tokens e) (meaning_of tokens) refl
first_told text (Err fault) e = e

-- why a text of edition 2 says nothing
abbrev WhySecond : Bool → List ℕ → Reason → Type 0
WhySecond received text NoText = ⊥
WhySecond received text (NoTokens fault) = lex text ≡ Err fault
WhySecond received text NoFile = IsNoSecond received text
WhySecond received text (NoTable fault) = ⊥

-- each step of the reading of edition 2 tells its part
with_lexed : (received : Bool) (text : List ℕ) (lexed : Lexed) → lex text ≡ Ok lexed
    → (r : Result FormsSay Stop) → forms_in received lexed.tokens ≡ r
    → Tells (SaysSecond received text) (WhySecond received text) (step (λ _. NoFile) r)
with_lexed received text lexed has (Ok said) e = record { lexed = lexed; has = has; are = e }
with_lexed received text lexed has (Err stop) e = (lexed, stop, has, e)

second_told : (received : Bool) (text : List ℕ) (r : Result Lexed LexFault) → lex text ≡ r
    → Tells (SaysSecond received text) (WhySecond received text)
    (step NoTokens r >>= λ lexed. step (λ _. NoFile) (forms_in received lexed.tokens))
second_told received text (Ok lexed) e =
    with_lexed received text lexed e (forms_in received lexed.tokens) refl
second_told received text (Err fault) e = e

-- why a text of an edition says nothing
abbrev Why : Edition → List ℕ → Reason → Type 0
Why First text = WhyFirst text
Why Second text = WhySecond false text
Why Received text = WhySecond true text

said_told : (edition : Edition) (text : List ℕ)
    → Tells (Says edition text) (Why edition text) (said_by edition text)
said_told First text = first_told text (tokens_of text) refl
said_told Second text = second_told false text (lex text) refl
said_told Received text = second_told true text (lex text) refl

-- the same by what the reason is
abbrev Because : Edition → List ℕ → Reason → Type 0
Because edition text NoText = ⊥
Because edition text (NoTokens fault) = HasNoTokens edition text fault
Because edition text NoFile = IsNoFile edition text
Because edition text (NoTable fault) = HasNoTable edition text fault

because : (edition : Edition) (text : List ℕ) (reason : Reason) → Why edition text reason
    → Because edition text reason
because First text NoText is = is
because First text (NoTokens fault) is = is
because First text NoFile is = is
because First text (NoTable fault) is = is
because Second text NoText is = is
because Second text (NoTokens fault) is = is
because Second text NoFile is = is
because Second text (NoTable fault) is = is
because Received text NoText is = is
because Received text (NoTokens fault) is = is
because Received text NoFile is = is
because Received text (NoTable fault) is = is

-- what a text says is what its bytes say
of_bytes : (bytes : List ℕ) → IsUtf8 bytes → (r : Result FormsSay Reason)
    → Tells (Says (edition_of bytes) bytes) (Why (edition_of bytes) bytes) r
    → Tells (IsDefs bytes) (IsReason bytes) r
of_bytes bytes text (Ok said) is = record { utf8 = text; says = is }
of_bytes bytes text (Err NoText) is = absurd (because (edition_of bytes) bytes NoText is)
of_bytes bytes text (Err (NoTokens fault)) is =
    (text, because (edition_of bytes) bytes (NoTokens fault) is)
of_bytes bytes text (Err NoFile) is = (text, because (edition_of bytes) bytes NoFile is)
of_bytes bytes text (Err (NoTable fault)) is =
    (text, because (edition_of bytes) bytes (NoTable fault) is)

-- what is read tells what the bytes say, or the reason why they say nothing
pub defs_told : (bytes : List ℕ) (r : Result FormsSay Reason) → defs_of bytes ≡ r
    → Tells (IsDefs bytes) (IsReason bytes) r
defs_told bytes r e = subst (Tells (IsDefs bytes) (IsReason bytes)) e
    (elim (cases_Bool (is_utf8 bytes)) [
      | inl is ↦ rw is (of_bytes bytes (IsUtf8-from_is_utf8 bytes is) (said_by (edition_of bytes) bytes)
          (said_told (edition_of bytes) bytes))
      | inr not_text ↦ rw not_text (λ text. let same = sym (is_utf8-from_IsUtf8 bytes text)
          ∙ not_text in cc)
    ])

with_defs : (bytes : List ℕ) (r : Result FormsSay Reason) → Tells (IsDefs bytes) (IsReason bytes) r
    → Tells (IsInterface bytes) (IsReason bytes) (r >>= λ said. Ok said.table)
with_defs bytes (Ok said) is = record { said = said; is_defs = is; is_table = refl }
with_defs bytes (Err reason) is = is

-- what is read tells what the bytes are: this is their table, or the reason why they have none
pub told : (bytes : List ℕ) (r : Result Table Reason) → interface_of bytes ≡ r
    → Tells (IsInterface bytes) (IsReason bytes) r
told bytes r e = subst (Tells (IsInterface bytes) (IsReason bytes)) e
    (with_defs bytes (defs_of bytes) (defs_told bytes (defs_of bytes) refl))

-- the tables of files are read, whatever stands before them
tables_read : (n : ℕ) (files : List (List ℕ)) (tables : List Table) → AreInterfaces files tables
    → interfaces_from n files ≡ Ok tables
tables_read n [] [] are = refl
tables_read n [] (table ∷ tables) are = absurd are
tables_read n (bytes ∷ files) [] are = absurd are
tables_read n (bytes ∷ files) (table ∷ tables) are =
    rw (interface_read bytes table are.0, tables_read (n + 1) files tables are.1) refl

-- the file behind those that have tables is refused
refused_read : (n : ℕ) (before : List (List ℕ)) (bytes : List ℕ) (after : List (List ℕ))
    (tables : List Table) (reason : Reason) → AreInterfaces before tables → IsReason bytes reason
    → interfaces_from n (before ++ bytes ∷ after)
    ≡ Err (record { file = n + length before; reason = reason })
refused_read n [] bytes after [] reason are is =
    let here : n ≡ n + 0 = omega arith in
    rw (reason_read bytes reason is)
    (ap (λ (k : ℕ). Err (record { file = k; reason = reason })) here)
refused_read n [] bytes after (table ∷ tables) reason are is = absurd are
refused_read n (first ∷ before) bytes after [] reason are is = absurd are
refused_read n (first ∷ before) bytes after (table ∷ tables) reason are is =
    let there : n + 1 + length before ≡ n + suc (length before) = omega arith in
    rw (
      interface_read first table are.0,
      refused_read (n + 1) before bytes after tables reason are.1 is,
    )
    (ap (λ (k : ℕ). Err (record { file = k; reason = reason })) there)

-- the tables of files are read
pub interfaces_read : (files : List (List ℕ)) (tables : List Table) → AreInterfaces files tables
    → interfaces_of files ≡ Ok tables
interfaces_read files tables are = tables_read 0 files tables are

-- the first that is refused is read
pub first_read : (files : List (List ℕ)) (refused : Refused) → IsFirstRefused files refused
    → interfaces_of files ≡ Err refused
first_read files refused is =
    let none_before : 0 + length is.before ≡ length is.before = omega arith in
    ap interfaces_of is.parts
    ∙ refused_read 0 is.before is.bytes is.after is.tables refused.reason is.sound is.reason
    ∙ ap (λ (k : ℕ). Err (record { file = k; reason = refused.reason })) (none_before ∙ is.place)

-- this is the first of the files that is refused, behind n others
abbrev IsFirstFrom : ℕ → List (List ℕ) → Refused → Type 0
IsFirstFrom n files refused = (k : ℕ) × (n + k ≡ refused.file)
    × IsFirstRefused files (record { file = k; reason = refused.reason })

-- what is read tells of each file what it is
all_told : (n : ℕ) (files : List (List ℕ))
    → Tells (AreInterfaces files) (IsFirstFrom n files) (interfaces_from n files)
all_told n [] = tt
all_told n (bytes ∷ files) = by (interface_of bytes) (told bytes (interface_of bytes) refl)
    (interfaces_from (n + 1) files) (all_told (n + 1) files)
  where
    by : (r : Result Table Reason) → Tells (IsInterface bytes) (IsReason bytes) r
        → (rs : Result (List Table) Refused)
        → Tells (AreInterfaces files) (IsFirstFrom (n + 1) files) rs
        → Tells (AreInterfaces (bytes ∷ files)) (IsFirstFrom n (bytes ∷ files))
        (step (λ reason. record { file = n; reason = reason }) r
        >>= λ table. rs >>= λ tables. Ok (table ∷ tables))
    by (Ok table) is (Ok tables) are = (is, are)
    by (Ok table) is (Err refused) (k, place, first) = (
      suc k,
      omega (arith, place),
      record {
        before = bytes ∷ first.before;
        bytes = first.bytes;
        after = first.after;
        parts = ap (λ (others : List (List ℕ)). bytes ∷ others) first.parts;
        place = ap suc first.place;
        tables = table ∷ first.tables;
        sound = (is, first.sound);
        reason = first.reason;
      },
    )
    by (Err reason) is rs others = (
      0,
      omega arith,
      record {
        before = [];
        bytes = bytes;
        after = files;
        parts = refl;
        place = refl;
        tables = [];
        sound = tt;
        reason = is;
      },
    )

-- what is read are the tables of the files, or the first that is refused
pub files_told : (files : List (List ℕ)) (r : Result (List Table) Refused) → interfaces_of files ≡ r
    → Tells (AreInterfaces files) (IsFirstRefused files) r
files_told files r e = by r (subst (Tells (AreInterfaces files) (IsFirstFrom 0 files)) e
    (all_told 0 files))
  where
    by : (r : Result (List Table) Refused) → Tells (AreInterfaces files) (IsFirstFrom 0 files) r
        → Tells (AreInterfaces files) (IsFirstRefused files) r
    by (Ok tables) are = are
    by (Err refused) (k, place, first) =
        let none_before : k ≡ refused.file = omega (arith, place) in
        subst (λ (k : ℕ). IsFirstRefused files (record { file = k; reason = refused.reason }))
        none_before first

-- what is read are the tables of the files
pub read_interfaces_are : (files : List (List ℕ)) (tables : List Table)
    → interfaces_of files ≡ Ok tables
    → AreInterfaces files tables
read_interfaces_are files tables e = files_told files (Ok tables) e

-- what is told of what is given holds of what is answered
pub as_told : {A B E F : Type 0} (P : B → Type 0) (Q : E → Type 0) (view : A → B) (told : F → E)
    (r : Result A (OrMemory F)) (given : Result B E)
    → ((s : Result B E) → given ≡ s → Tells P Q s)
    → GivesAs view told r given
    → IfOk r (λ x. P (view x)) × IfErr r (UnlessMemory (λ fault. Q (told fault)))
as_told P Q view told (Ok x) given tells gives = (tells (Ok (view x)) gives, tt)
as_told P Q view told (Err (Fault fault)) given tells gives =
    (tt, tells (Err (told fault)) gives)
as_told P Q view told (Err Memory) given tells gives = (tt, tt)
