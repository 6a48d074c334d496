-- From what a question's parts answer to what is answered of a command.
use Rattle.std.proofs.Common.{◌≡◌, ◌⊎◌, ℕ, List, Some, map, sym, subst, inl, inr}
use Rattle.mrc_command.specs.declared.command.FileNames.{FileNames}
use Rattle.mrc_command.specs.declared.command.MigFiles.{MigFiles}
use Rattle.mrc_command.specs.declared.command.Question.{Question}
use Rattle.mrc_files.specs.Files.{Held, IsFirstUnread}
use Rattle.mrc_answer.specs.declared.answers.Answer.{Answer}
use Rattle.mrc_answer.specs.Answers.{IsUnasked, IsUnreadOf, IsSameNameOf}
use Rattle.mrc_answer.specs.MigTexts.{IsUnread, mig_names, same_name}
use Rattle.mrc_answer.specs.Files.{all_names}

-- the first file that can't be read is why a question is not asked
pub unread_unasked : (held : Held) (names : FileNames) (question : Question) (file : List ℕ)
    (answer : Answer)
    → IsUnreadOf file answer
    → IsFirstUnread held (all_names names) file
    → IsUnasked held names question answer
unread_unasked held names question file answer is first =
    subst (λ (a : Answer). IsUnasked held names question a) (sym is.is)
    (subst (λ (f : List ℕ). IsFirstUnread held (all_names names) f) (sym is.file_is) first)

-- and why no MIG files are cut
pub unread_no_mig : (held : Held) (files : MigFiles) (file : List ℕ) (answer : Answer)
    → IsUnreadOf file answer
    → IsFirstUnread held (mig_names files) file
    → IsUnread held files answer
unread_no_mig held files file answer is first =
    subst (λ (a : Answer). IsUnread held files a) (sym is.is)
    (subst (λ (f : List ℕ). IsFirstUnread held (mig_names files) f) (sym is.file_is) first)

-- so are two files of one name
pub same_no_mig : (held : Held) (files : MigFiles) (file : List ℕ) (answer : Answer)
    → IsSameNameOf file answer
    → same_name (mig_names files) ≡ Some file
    → IsUnread held files answer
same_no_mig held files file answer is same =
    subst (λ (a : Answer). IsUnread held files a) (sym is.is)
    (subst (λ (f : List ℕ). same_name (mig_names files) ≡ Some f) (sym is.file_is) same)
