-- Worked. Policies over a small wiring: what their lines stand for, and the smallest policy of each
-- refusal. Each text begins with its heading.
use Rattle.std.specs.Prelude.{◌≡◌, ℕ, true, false, List, [], ◌∷◌, ◌++◌, Option, Some, None}
use Rattle.std.specs.Prelude.{Result, Ok, Err, codes, refl}
use Rattle.mrc_base.specs.declared.PortRight.TheVariants.{Send, Receive, SendOnce}
use Rattle.mrc_base.specs.Reading.{◌>>=◌}
use Rattle.mrc_wiring_text.specs.declared.faults.TextFault.{TextFault}
use Rattle.mrc_wiring_text.specs.declared.faults.TextFault.TheVariants.{BadLine, Version}
use Rattle.mrc_wiring_text.specs.declared.policy.ClassName.TheVariants.{Port, Task, Births}
use Rattle.mrc_wiring_text.specs.declared.reading.Line.{Line}
use Rattle.mrc_wiring_text.specs.Kinds.{kind_of}
use Rattle.mrc_wiring_text.specs.Lexis.{lines, is_blank, between_blanks, words}
use Rattle.mrc_wiring_text.specs.Names.{is_name}
use Rattle.mrc_wiring_text.specs.Policy.{right_of}
use Rattle.mrc_stand_for.specs.declared.faults.StandFault.{StandFault}
use Rattle.mrc_stand_for.specs.declared.faults.StandFault.TheVariants.{UnknownName, Empty}
use Rattle.mrc_stand_for.specs.declared.faults.StandFault.TheVariants.{TwiceNamed}
use Rattle.mrc_stand_for.specs.declared.known.Known.{Known}
use Rattle.mrc_wide_text.specs.WideWords.{is_reserved, free_name, separated, list_len, in_front}
use Rattle.mrc_wide_text.specs.WideWords.{behind, tasks_len, tasks_in_front, tasks_behind}
use Rattle.mrc_wide_text.specs.WideWords.{tasks_of, whom_word, whom_of, kinds_word}
use Rattle.mrc_wide_text.specs.WideWords.{births_class, keyed_class, class_of, rights_of}
use Rattle.mrc_wide_policy.specs.declared.facts.FactLine.{FactLine}
use Rattle.mrc_wide_policy.specs.declared.facts.NamedFact.{NamedFact}
use Rattle.mrc_wide_policy.specs.declared.facts.PolicyStands.{PolicyStands}
use Rattle.mrc_wide_policy.specs.declared.facts.WaivedLine.{WaivedLine}
use Rattle.mrc_wide_policy.specs.declared.says.PolicySays.{PolicySays}
use Rattle.mrc_wide_policy.specs.Facts.{fact}
use Rattle.mrc_wide_policy.specs.Quotes.{by_turns, quoted_words, is_in_quotes, is_string, quoted_of}
use Rattle.mrc_wide_policy.specs.PolicyLines.{name_in_front, group_says, set_says, waived_product}
use Rattle.mrc_wide_policy.specs.PolicyLines.{waive_says, policy_says}
use Rattle.mrc_wide_policy.specs.PolicyReading.{version_of, heading_of, line_says, add_lines}
use Rattle.mrc_wide_policy.specs.PolicyReading.{with_heading}
use Rattle.mrc_wide_policy.specs.PolicyStanding.{policy_stands}

-- names of one letter
abbrev a : List ℕ
a = codes "a"

abbrev b : List ℕ
b = codes "b"

abbrev c : List ℕ
c = codes "c"

abbrev p : List ℕ
p = codes "p"

abbrev q : List ℕ
q = codes "q"

-- `task a, b, c`, `group u b, c`, `port p receiver a accepts none`, `births a 1 accepts none` and
-- `births u 1 accepts none`
abbrev small : Known
small = record {
  tasks = a ∷ b ∷ c ∷ [];
  groups = record { name = codes "u"; tasks = b ∷ c ∷ [] } ∷ [];
  sets = [];
  ports = p ∷ [];
  births = record { task = a; kind = 1; accepts = [] } ∷ record { task = b; kind = 1; accepts = [] }
      ∷ record { task = c; kind = 1; accepts = [] } ∷ [];
  members = [];
  closed = false;
  closed_kinds = [];
  named = [];
}

-- the same, with `port q of births a 1` and `port r of births a 1`
abbrev with_members : Known
with_members = record small {
  ports = p ∷ q ∷ codes "r" ∷ [];
  members = record { port = q; task = a; kind = 1 }
      ∷ record { port = codes "r"; task = a; kind = 1 } ∷ [];
}

-- what a text says, as far as lines go
abbrev read : List ℕ → Result (List (Line PolicySays)) TextFault
read text = add_lines 1 None (lines text) >>= λ said. with_heading said

-- what a text stands for that is read
abbrev stand : Known → Result (List (Line PolicySays)) TextFault
    → Option (Result PolicyStands StandFault)
stand known (Ok said) = Some (policy_stands known said)
stand known (Err fault) = None

-- what a text stands for
abbrev stood : Known → List ℕ → Option (Result PolicyStands StandFault)
stood known text = stand known (read text)

-- the lines that forbid or expect, and those that waive
abbrev all_of : List FactLine → List WaivedLine → Option (Result PolicyStands StandFault)
all_of lines waived = Some (Ok (record { is_wide = true; lines = lines; waived = waived }))

-- the first fault
abbrev refused : StandFault → Option (Result PolicyStands StandFault)
refused fault = Some (Err fault)

-- a line that forbids
abbrev line : ℕ → Option (List ℕ) → List NamedFact → FactLine
line n name facts = record { number = n; name = name; expects = false; facts = facts }

-- a line that expects
abbrev expecting : ℕ → List NamedFact → FactLine
expecting n facts = record { number = n; name = None; expects = true; facts = facts }

-- a line that waives what lines of the name x forbid
abbrev waiver : ℕ → List ℕ → List NamedFact → WaivedLine
waiver n because facts =
    record { number = n; name = codes "x"; because = because; facts = facts }

-- ---- what lines say

pub no_any : read (codes "policy 3\nexpect a any port p") ≡ Err (BadLine 2)
unfolding quoted_words by_turns words between_blanks is_blank add_lines heading_of version_of
    line_says policy_says name_in_front quoted_of is_in_quotes is_string free_name is_reserved
    is_name tasks_of tasks_in_front tasks_behind tasks_len list_len in_front behind separated
    right_of class_of keyed_class
no_any = refl

pub one_name : read (codes "policy 3\nforbid \"a\" \"b\" a send port p") ≡ Err (BadLine 2)
unfolding quoted_words by_turns words between_blanks is_blank add_lines heading_of version_of
    line_says policy_says name_in_front quoted_of is_in_quotes is_string free_name is_reserved
    is_name tasks_of tasks_in_front tasks_behind tasks_len list_len in_front behind separated
    right_of rights_of class_of keyed_class
one_name = refl

pub no_end_of_string : read (codes "policy 3\nwaive \"a\" \"b") ≡ Err (BadLine 2)
unfolding quoted_words by_turns words between_blanks is_blank add_lines heading_of version_of
    line_says policy_says waive_says waived_product quoted_of is_in_quotes is_string
no_end_of_string = refl

pub another_version : read (codes "policy 2\nforbid a send port p") ≡ Err Version
unfolding words between_blanks is_blank add_lines heading_of version_of
another_version = refl

-- ---- what lines stand for

pub forbidden : stood small (codes "policy 3\ngroup h a, b\n"
    ++ codes "forbid \"p\" h send, receive task other, births c any")
    ≡ all_of (line 3 (Some p) (fact a Send (Task b) ∷ fact a Send (Task c)
    ∷ fact a Send (Births c 0) ∷ fact a Send (Births c 1) ∷ fact a Receive (Task b)
    ∷ fact a Receive (Task c) ∷ fact a Receive (Births c 0) ∷ fact a Receive (Births c 1)
    ∷ fact b Send (Task a) ∷ fact b Send (Task c) ∷ fact b Send (Births c 0)
    ∷ fact b Send (Births c 1) ∷ fact b Receive (Task a) ∷ fact b Receive (Task c)
    ∷ fact b Receive (Births c 0) ∷ fact b Receive (Births c 1) ∷ []) ∷ []) []
unfolding quoted_words by_turns words between_blanks is_blank add_lines heading_of version_of
    line_says policy_says group_says name_in_front quoted_of is_in_quotes is_string free_name
    is_reserved is_name tasks_of tasks_in_front tasks_behind tasks_len list_len in_front behind
    separated right_of rights_of class_of keyed_class births_class whom_of whom_word kinds_word
forbidden = refl

pub births_alone : stood with_members (codes "policy 3\nset s births a 1, port q, port p\n"
    ++ codes "expect b send s\nforbid b send s")
    ≡ all_of
    (expecting 3 (fact b Send (Births a 1) ∷ fact b Send (Port q) ∷ fact b Send (Port p) ∷ [])
    ∷ line 4 None (fact b Send (Births a 1) ∷ fact b Send (Port q) ∷ fact b Send (Port (codes "r"))
    ∷ fact b Send (Port p) ∷ []) ∷ []) []
unfolding quoted_words by_turns words between_blanks is_blank add_lines heading_of version_of
    line_says policy_says set_says name_in_front quoted_of is_in_quotes is_string free_name
    is_reserved is_name tasks_of tasks_in_front tasks_behind tasks_len list_len in_front behind
    separated right_of rights_of class_of keyed_class births_class whom_of whom_word kinds_word
    kind_of
births_alone = refl

-- of a fact that is waived twice the first reason stays
pub waived : stood small (codes "policy 3\nforbid \"x\" u send port p\n"
    ++ codes "waive \"x\" b send port p, task a \"ticket #7, known\"\n"
    ++ codes "waive \"x\" \"known\"\nforbid \"x\" a once port p")
    ≡ all_of (line 2 (Some (codes "x")) (fact b Send (Port p) ∷ fact c Send (Port p) ∷ [])
    ∷ line 5 (Some (codes "x")) (fact a SendOnce (Port p) ∷ []) ∷ [])
    (waiver 3 (codes "ticket #7, known") (fact b Send (Port p) ∷ [])
    ∷ waiver 4 (codes "known") (fact c Send (Port p) ∷ []) ∷ [])
unfolding quoted_words by_turns words between_blanks is_blank add_lines heading_of version_of
    line_says policy_says waive_says waived_product name_in_front quoted_of is_in_quotes is_string
    free_name is_reserved is_name tasks_of tasks_in_front tasks_behind tasks_len list_len in_front
    behind separated right_of rights_of class_of keyed_class whom_of whom_word
waived = refl

-- ---- refusals

pub waives_nothing : stood small (codes "policy 3\nforbid \"x\" b send port p\n"
    ++ codes "waive \"x\" c send port p \"known\"")
    ≡ refused (Empty 3)
unfolding quoted_words by_turns words between_blanks is_blank add_lines heading_of version_of
    line_says policy_says waive_says waived_product name_in_front quoted_of is_in_quotes is_string
    free_name is_reserved is_name tasks_of tasks_in_front tasks_behind tasks_len list_len in_front
    behind separated right_of rights_of class_of keyed_class
waives_nothing = refl

pub name_of_a_line_below : stood small (codes "policy 3\nwaive \"x\" \"known\"\n"
    ++ codes "forbid \"x\" b send port p")
    ≡ refused (UnknownName 2)
unfolding quoted_words by_turns words between_blanks is_blank add_lines heading_of version_of
    line_says policy_says waive_says waived_product name_in_front quoted_of is_in_quotes is_string
    free_name is_reserved is_name tasks_of tasks_in_front tasks_behind tasks_len list_len in_front
    behind separated right_of rights_of class_of keyed_class
name_of_a_line_below = refl

pub group_of_the_wiring : stood small (codes "policy 3\ngroup u a") ≡ refused (TwiceNamed 2)
unfolding quoted_words by_turns words between_blanks is_blank add_lines heading_of version_of
    line_says policy_says group_says free_name is_reserved is_name tasks_of separated
group_of_the_wiring = refl

pub no_task_is_left : stood small (codes "policy 3\nforbid all but u, a send port p")
    ≡ refused (Empty 2)
unfolding quoted_words by_turns words between_blanks is_blank add_lines heading_of version_of
    line_says policy_says name_in_front quoted_of is_in_quotes is_string free_name is_reserved
    is_name tasks_of tasks_in_front tasks_behind tasks_len list_len in_front behind separated
    right_of rights_of class_of keyed_class
no_task_is_left = refl
