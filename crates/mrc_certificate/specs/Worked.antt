-- Worked. Certificates. This profile's own choice.
use Rattle.std.specs.Prelude.{◌≡◌, ℕ, List, [], ◌∷◌, ◌++◌, take, Ok, Err, refl}
use Rattle.mrc_base.specs.declared.Fact.TheVariants.{Hold, Carry, Backup}
use Rattle.mrc_base.specs.declared.PortRight.TheVariants.{Send, Receive, SendOnce}
use Rattle.mrc_certificate.specs.declared.fault.DraftFault.TheVariants.{Magic, Version, Truncated}
use Rattle.mrc_certificate.specs.declared.fault.DraftFault.TheVariants.{BadFact, NotAscending}
use Rattle.mrc_certificate.specs.declared.fault.DraftFault.TheVariants.{Trailing}
use Rattle.mrc_certificate.specs.Drafts.{Content}
use Rattle.mrc_certificate.specs.Spelling.{magic, spelling}
use Rattle.mrc_certificate.specs.Reading.{behind_magic, version_at, births_at, fact_at, facts_at}
use Rattle.mrc_certificate.specs.Reading.{draft_from}

-- a task alone: it holds a send right to its kernel port, and each right on the ports that it makes
abbrev alone : Content
alone = record {
  tasks = 1;
  classes = 2;
  births = 1;
  facts = Hold 0 0 Send ∷ Hold 0 1 Send ∷ Hold 0 1 Receive ∷ Hold 0 1 SendOnce ∷ [];
}

-- the header of its certificate: one task, two classes, four facts
abbrev header : List ℕ
header = 77 ∷ 82 ∷ 67 ∷ 67 ∷ 0 ∷ 1 ∷ 0 ∷ 1 ∷ 0 ∷ 2 ∷ 0 ∷ 0 ∷ 0 ∷ 4 ∷ []

-- the bytes of its first fact
abbrev first_fact : List ℕ
first_fact = 1 ∷ 0 ∷ 0 ∷ 0 ∷ 0 ∷ 0 ∷ []

-- the bytes of its second fact
abbrev second_fact : List ℕ
second_fact = 1 ∷ 0 ∷ 0 ∷ 0 ∷ 1 ∷ 0 ∷ []

-- the bytes of its third fact
abbrev third_fact : List ℕ
third_fact = 1 ∷ 0 ∷ 0 ∷ 0 ∷ 1 ∷ 1 ∷ []

-- the bytes of its fourth fact
abbrev fourth_fact : List ℕ
fourth_fact = 1 ∷ 0 ∷ 0 ∷ 0 ∷ 1 ∷ 2 ∷ []

-- the whole certificate
abbrev alone_bytes : List ℕ
alone_bytes = header ++ first_fact ++ second_fact ++ third_fact ++ fourth_fact

-- it is what the task alone is spelled as
alone_is_spelled : spelling alone ≡ alone_bytes
alone_is_spelled = refl

-- and it is read as the task alone
alone_is_read : draft_from alone_bytes ≡ Ok alone
unfolding draft_from behind_magic version_at births_at fact_at facts_at
alone_is_read = refl

-- two facts in the wrong order
exchanged : draft_from (header ++ first_fact ++ third_fact ++ second_fact ++ fourth_fact)
    ≡ Err (NotAscending 26)
unfolding draft_from behind_magic version_at births_at fact_at facts_at
exchanged = refl

-- a fact twice
one_fact_twice : draft_from (header ++ first_fact ++ second_fact ++ second_fact ++ fourth_fact)
    ≡ Err (NotAscending 26)
unfolding draft_from behind_magic version_at births_at fact_at facts_at
one_fact_twice = refl

-- a byte behind the last fact
a_byte_behind : draft_from (alone_bytes ++ 0 ∷ []) ≡ Err Trailing
unfolding draft_from behind_magic version_at births_at fact_at facts_at
a_byte_behind = refl

-- the last byte is missing
cut_off : draft_from (take 37 alone_bytes) ≡ Err Truncated
unfolding draft_from behind_magic version_at births_at fact_at facts_at
cut_off = refl

-- six bytes of a kind that no fact has
abbrev no_fact : List ℕ
no_fact = 4 ∷ 0 ∷ 0 ∷ 0 ∷ 0 ∷ 0 ∷ []

-- a kind that no fact has
no_such_kind : draft_from (header ++ no_fact ++ second_fact ++ third_fact ++ fourth_fact)
    ≡ Err (BadFact 14)
unfolding draft_from behind_magic version_at births_at fact_at facts_at
no_such_kind = refl

-- a fact of each kind: a task holds a receive right, messages carry two rights, and ports of two
-- classes may have requests
abbrev each_kind : Content
each_kind = record {
  tasks = 1;
  classes = 2;
  births = 1;
  facts =
      Hold 0 1 Receive ∷ Carry 0 1 Send ∷ Carry 1 1 SendOnce ∷ Backup 0 1 ∷ Backup 1 0 ∷ [];
}

-- a header for five facts
abbrev header_of_five : List ℕ
header_of_five = 77 ∷ 82 ∷ 67 ∷ 67 ∷ 0 ∷ 1 ∷ 0 ∷ 1 ∷ 0 ∷ 2 ∷ 0 ∷ 0 ∷ 0 ∷ 5 ∷ []

-- a hold and two carries
abbrev hold_and_carries : List ℕ
hold_and_carries =
    1 ∷ 0 ∷ 0 ∷ 0 ∷ 1 ∷ 1 ∷ 2 ∷ 0 ∷ 0 ∷ 0 ∷ 1 ∷ 0 ∷ 2 ∷ 0 ∷ 1 ∷ 0 ∷ 1 ∷ 2 ∷ []

-- two backups
abbrev backups : List ℕ
backups = 3 ∷ 0 ∷ 0 ∷ 0 ∷ 1 ∷ 0 ∷ 3 ∷ 0 ∷ 1 ∷ 0 ∷ 0 ∷ 0 ∷ []

-- it is what they are spelled as
each_kind_is_spelled : spelling each_kind ≡ header_of_five ++ hold_and_carries ++ backups
each_kind_is_spelled = refl

-- and it is read as them
each_kind_is_read : draft_from (header_of_five ++ hold_and_carries ++ backups) ≡ Ok each_kind
unfolding draft_from behind_magic version_at births_at fact_at facts_at
each_kind_is_read = refl

-- a carry to a class that is not below their number
carry_too_far : draft_from (header ++ 2 ∷ 0 ∷ 2 ∷ 0 ∷ 1 ∷ 0 ∷ []) ≡ Err (BadFact 14)
unfolding draft_from behind_magic version_at births_at fact_at facts_at
carry_too_far = refl

-- a backup that names a class that is not below their number
backup_too_far : draft_from (header ++ 3 ∷ 0 ∷ 1 ∷ 0 ∷ 2 ∷ 0 ∷ []) ≡ Err (BadFact 14)
unfolding draft_from behind_magic version_at births_at fact_at facts_at
backup_too_far = refl

-- a backup whose last byte is not 0
backup_of_a_right : draft_from (header ++ 3 ∷ 0 ∷ 1 ∷ 0 ∷ 1 ∷ 1 ∷ []) ≡ Err (BadFact 14)
unfolding draft_from behind_magic version_at births_at fact_at facts_at
backup_of_a_right = refl

-- a carry behind a backup
carry_behind_a_backup : draft_from (header ++ 3 ∷ 0 ∷ 0 ∷ 0 ∷ 0 ∷ 0 ∷ 2 ∷ 0 ∷ 0 ∷ 0 ∷ 0 ∷ 0 ∷ [])
    ≡ Err (NotAscending 20)
unfolding draft_from behind_magic version_at births_at fact_at facts_at
carry_behind_a_backup = refl

-- a wiring without tasks
abbrev nobody : Content
nobody = record { tasks = 0; classes = 0; births = 0; facts = [] }

-- it is spelled by a header alone
nobody_is_spelled : spelling nobody
    ≡ 77 ∷ 82 ∷ 67 ∷ 67 ∷ 0 ∷ 1 ∷ 0 ∷ 0 ∷ 0 ∷ 0 ∷ 0 ∷ 0 ∷ 0 ∷ 0 ∷ []
nobody_is_spelled = refl

-- and read again
nobody_is_read : draft_from (spelling nobody) ≡ Ok nobody
unfolding draft_from behind_magic version_at births_at facts_at
nobody_is_read = refl

-- bytes that end within the magic
three_bytes : draft_from (take 3 magic) ≡ Err Magic
unfolding draft_from behind_magic
three_bytes = refl

-- bytes that end within the version
half_a_version : draft_from (magic ++ 255 ∷ []) ≡ Err Truncated
unfolding draft_from behind_magic version_at
half_a_version = refl

-- a version that is not read
another_version : draft_from (magic ++ 0 ∷ 3 ∷ []) ≡ Err Version
unfolding draft_from behind_magic version_at
another_version = refl

-- a task with births of two kinds, and no fact
abbrev two_kinds : Content
two_kinds = record { tasks = 1; classes = 3; births = 2; facts = [] }

-- it is spelled in version 2, which says how many classes are of births
two_kinds_are_spelled : spelling two_kinds
    ≡ 77 ∷ 82 ∷ 67 ∷ 67 ∷ 0 ∷ 2 ∷ 0 ∷ 1 ∷ 0 ∷ 3 ∷ 0 ∷ 2 ∷ 0 ∷ 0 ∷ 0 ∷ 0 ∷ []
two_kinds_are_spelled = refl

-- and read again
two_kinds_are_read : draft_from (spelling two_kinds) ≡ Ok two_kinds
unfolding draft_from behind_magic version_at births_at facts_at
two_kinds_are_read = refl

-- version 2 with no more classes of births than tasks
no_second_kind : draft_from (magic ++ 0 ∷ 2 ∷ 0 ∷ 1 ∷ 0 ∷ 2 ∷ 0 ∷ 1 ∷ []) ≡ Err Version
unfolding draft_from behind_magic version_at births_at
no_second_kind = refl
