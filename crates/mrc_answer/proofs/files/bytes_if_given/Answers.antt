use Rattle.std.proofs.Common.{[], sym, subst}
use Rattle.mrc_files.specs.Files.{IsFirstUnread}
use Rattle.mrc_files.proofs.FileLaws.{first_is}
use Rattle.mrc_answer.specs.Files.{names_if_given}
use Rattle.mrc_answer.proofs.files.bytes_if_given.Goals as goal

pub returns-in-Err-clause-first : goal.returns-in-Err-clause-first
returns-in-Err-clause-first g c =
    let held = g.F.Folder.held c.args.folder.now in
    let file = c.in-Some.file.now in
    let first = subst (IsFirstUnread held _) (sym c.in-Err.ensures.named) (first_is held file [])
    in
    subst (λ given. IsFirstUnread held (names_if_given given) c.in-Err.unread.file.now)
    (sym c.in-Some.is) first
