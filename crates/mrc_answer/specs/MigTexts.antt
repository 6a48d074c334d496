-- Believe. What MIG files are as texts of edition 2, which files are written, and which file is
-- none or can't be written. This profile's own choice.
use Rattle.std.specs.Prelude.{◌≡◌, ◌⊎◌, ℕ, Bool, true, false, not, ◌&&◌, ◌||◌, List, [], ◌∷◌, ◌++◌}
use Rattle.std.specs.Prelude.{Option, Some, None, map, length, codes, string_bytes, nat_lt}
use Rattle.std.specs.Prelude.{bytes_eq, is_some, if◌then◌else◌}
use Rattle.std.specs.List.{AllZip, list_any}
use Rattle.mrc_base.specs.declared.memory.OrMemory.{OrMemory}
use Rattle.mrc_forms.specs.Tables.{Row}
use Rattle.mrc_mig_forms.specs.Files.{FormsSay}
use Rattle.mrc_interface.specs.Reading.{IsDefs}
use Rattle.mrc_interface.specs.Left.{carries, is_old_cut}
use Rattle.mrc_interface.specs.Written.{in_second}
use Rattle.mrc_files.specs.declared.streams.WriteFault.{WriteFault}
use Rattle.mrc_files.specs.Files.{Held, HasBytes, IsFirstUnread, IsLeftBy, KeepsOthers}
use Rattle.mrc_files.specs.Paths.{name}
use Rattle.mrc_command.specs.declared.command.MigFiles.{MigFiles}
use Rattle.mrc_command.specs.declared.command.Strictness.{Strictness}
use Rattle.mrc_command.specs.declared.command.Strictness.TheVariants.{None as Each, Rights, All}
use Rattle.mrc_answer.specs.declared.answers.Answer.{Answer}
use Rattle.mrc_answer.specs.declared.answers.Answer.TheVariants.{Mig, Fault}
use Rattle.mrc_answer.specs.declared.answers.MigEnd.{MigEnd}
use Rattle.mrc_answer.specs.declared.answers.MigEnd.TheVariants as ends
use Rattle.mrc_answer.specs.declared.answers.MigTexts.{MigTexts}
use Rattle.mrc_answer.specs.declared.answers.MigText.{MigText}
use Rattle.mrc_answer.specs.declared.faults.Fault.{Fault as Failure}
use Rattle.mrc_answer.specs.declared.faults.Fault.TheVariants.{Unread, NoMigText, SameName}

-- the files of a `mig`, in the order in which they are read
abbrev pub mig_names : MigFiles → List (List ℕ)
mig_names files = map (λ file. file.now) files.defs.items

-- Two files of one name.

-- whether one of these files has the name of the file, in whatever folder
abbrev pub is_named_so : List ℕ → List (List ℕ) → Bool
is_named_so file files = list_any (λ other. bytes_eq (name other) (name file)) files

-- the first of the files that has the name of an earlier one, or of one of these
abbrev pub same_name_behind : List (List ℕ) → List (List ℕ) → Option (List ℕ)
same_name_behind earlier [] = None
same_name_behind earlier (file ∷ files) =
    if is_named_so file earlier then Some file else same_name_behind (earlier ++ file ∷ []) files

-- the first of the files that has the name of an earlier one
abbrev pub same_name : List (List ℕ) → Option (List ℕ)
same_name files = same_name_behind [] files

-- Texts of edition 2.

-- What is made of a text: the text of edition 2, as received or not, that is the same but for the
-- line of the edition, what it says as a MIG file, and whether an older `mig` has cut it.
pub record IsMigTextOf (received : Bool) (text : List ℕ) (mig_text : MigText) : Type 0 where
  pub same : mig_text.bytes.items ≡ in_second received text
  pub says : IsDefs (in_second received text) mig_text.forms
  pub cut : mig_text.was_cut ≡ is_old_cut text

-- the same of the texts of files of these names, each by itself
pub record AreMigTexts (received : Bool) (names texts : List (List ℕ)) (mig_texts : List MigText)
    : Type 0 where
  pub named : map (λ mig_text. mig_text.file.now) mig_texts ≡ names
  pub are : AllZip (IsMigTextOf received) texts mig_texts

-- a request stands at an id
abbrev pub has_request : Row → Bool
has_request row = is_some row.request

-- a routine is read of it
abbrev pub has_routine : MigText → Bool
has_routine mig_text = list_any has_request mig_text.forms.table.rows

-- a routine is left out of it, or was before
abbrev pub has_left_out : MigText → Bool
has_left_out mig_text = nat_lt 0 (length mig_text.forms.left_out) || mig_text.was_cut

-- a routine that may carry rights is left out of it, or may have been before
abbrev pub has_carrying : MigText → Bool
has_carrying mig_text = list_any carries mig_text.forms.left_out || mig_text.was_cut

-- whether nothing is written because of it: for `--strict` if a routine is left out, for
-- `--strict=rights` if one that may carry rights is
abbrev pub is_forbidden : Strictness → MigText → Bool
is_forbidden Each mig_text = false
is_forbidden Rights mig_text = has_carrying mig_text
is_forbidden All mig_text = has_left_out mig_text

-- whether files are written: a routine is read of one of them, and because of none is it forbidden
abbrev pub are_written : Strictness → List MigText → Bool
are_written strict mig_texts =
    list_any has_routine mig_texts && not (list_any (is_forbidden strict) mig_texts)

-- Which files are written.

-- a file that is to be written, and its bytes
pub record Writing : Type 0 where
  pub path : List ℕ
  pub bytes : List ℕ

-- the file for a text in a folder: it has the name of the file that the text was made of
abbrev pub writing_of : List ℕ → MigText → Writing
writing_of folder mig_text = record {
  path = folder ++ (codes "/" ++ name mig_text.file.now);
  bytes = mig_text.bytes.items;
}

-- the files for texts in the folder that is asked for
abbrev pub writings_of : MigFiles → List MigText → List Writing
writings_of files mig_texts = map (writing_of files.out.now) mig_texts

-- a file was written: it holds its bytes, and no other file changed
abbrev pub IsTaken : (before after : Held) → Writing → Type 0
IsTaken before after writing =
    HasBytes after writing.path writing.bytes × KeepsOthers before after writing.path

-- a file was not written whole: it holds what it took, or nothing changed; and no other file did
abbrev pub IsNotTaken : (before after : Held) → Writing → OrMemory WriteFault → Type 0
IsNotTaken before after writing refusal = IsLeftBy before after writing.path writing.bytes refusal
    × KeepsOthers before after writing.path

-- The files were written one after the other, and no other file changed. What one of them holds
-- once others were written is not said: two paths may be one file.
abbrev pub AreWritten : Held → List Writing → Held → Type 0
AreWritten before [] after = after ≡ before
AreWritten before (writing ∷ rest) after =
    (next : Held) × IsTaken before next writing × AreWritten next rest after

-- the files were written one after the other up to this one, which was refused
abbrev pub IsStopped : Held → List Writing → Held → List ℕ → OrMemory WriteFault → Type 0
IsStopped before [] after path refusal = ⊥
IsStopped before (writing ∷ rest) after path refusal =
    ((path ≡ writing.path) × IsNotTaken before after writing refusal)
    ⊎ ((next : Held) × IsTaken before next writing × IsStopped next rest after path refusal)

-- what became of the files: all were written; or, if too little is read of them, none; or they were
-- up to one that was refused
abbrev pub HasEnd : MigFiles → (before after : Held) → List MigText → MigEnd → Type 0
HasEnd files before after mig_texts ends.Written = (are_written files.strict mig_texts ≡ true)
    × AreWritten before (writings_of files mig_texts) after
HasEnd files before after mig_texts ends.Little =
    (are_written files.strict mig_texts ≡ false) × (after ≡ before)
HasEnd files before after mig_texts (ends.Refused u) = (are_written files.strict mig_texts ≡ true)
    × IsStopped before (writings_of files mig_texts) after (string_bytes u.file) u.refusal

-- what these texts are as texts of edition 2, and what became of them
pub record IsMigOf (files : MigFiles) (before after : Held) (texts : List (List ℕ)) (m : MigTexts)
    : Type 0 where
  pub are : AreMigTexts files.received (mig_names files) texts m.texts.items
  pub has_end : HasEnd files before after m.texts.items m.end

-- the text is no MIG file of edition 2, as received or not
abbrev pub IsNoMig : Bool → List ℕ → Type 0
IsNoMig received text = (said : FormsSay) → IsDefs (in_second received text) said → ⊥

-- The file is that of the first text that is no MIG file: those before it are.
pub record IsFirstNoMigText (received : Bool) (names texts : List (List ℕ)) (file : List ℕ)
    : Type 0 where
  pub before : List MigText
  pub texts_before : List (List ℕ)
  pub text : List ℕ
  pub names_after : List (List ℕ)
  pub texts_after : List (List ℕ)
  pub names_are : names ≡ map (λ mig_text. mig_text.file.now) before ++ file ∷ names_after
  pub texts_are : texts ≡ texts_before ++ text ∷ texts_after
  pub are : AllZip (IsMigTextOf received) texts_before before
  pub none : IsNoMig received text

-- what is answered of these texts: what they are, or the first that is no MIG file
abbrev pub AreMigOfTexts : MigFiles → (before after : Held) → List (List ℕ) → Answer → Type 0
AreMigOfTexts files before after texts (Mig mig_texts) = IsMigOf files before after texts mig_texts
AreMigOfTexts files before after texts (Fault (NoMigText no_text)) =
    IsFirstNoMigText files.received (mig_names files) texts no_text.file.now
AreMigOfTexts files before after texts answer = ⊥

-- why no text is looked at: two files have one name, or one can't be read
abbrev pub AreNoMig : Held → MigFiles → Failure → Type 0
AreNoMig held files (Unread unread) = IsFirstUnread held (mig_names files) unread.file.now
AreNoMig held files (SameName file) = same_name (mig_names files) ≡ Some file.now
AreNoMig held files fault = ⊥

-- the same of an answer
abbrev pub IsUnread : Held → MigFiles → Answer → Type 0
IsUnread held files (Fault fault) = AreNoMig held files fault
IsUnread held files answer = ⊥
