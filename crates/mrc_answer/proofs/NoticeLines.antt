-- Worked examples: a wiring of two tasks, `disk` and `plugin`, where the disk has births of the
-- kinds 0, 1 and 3. Their values were worked out by hand.
use Rattle.std.proofs.Common.{◌≡◌, List, [], ◌∷◌, ◌++◌, ℕ, refl}
use Rattle.std.specs.Prelude.{codes, false}
use Rattle.mrc_base.specs.declared.Fact.{Fact}
use Rattle.mrc_base.specs.declared.Fact.TheVariants.{Hold}
use Rattle.mrc_base.specs.declared.PortRight.TheVariants.{Send, Receive, SendOnce}
use Rattle.mrc_model.specs.declared.FirstLine.TheVariants.{Task as TaskLine}
use Rattle.mrc_facts.specs.Sets.{has}
use Rattle.mrc_wiring_text.specs.Lexis.{words, between_blanks, is_blank}
use Rattle.mrc_wiring_text.specs.Names.{is_name}
use Rattle.mrc_wiring.specs.declared.claim.ForbiddenLine.{ForbiddenLine}
use Rattle.mrc_wiring.specs.Births.{new_row, said_row}
use Rattle.mrc_wiring.specs.Table.{Table}
use Rattle.mrc_answer.specs.LeakyLines.{leaky_lines}
use Rattle.mrc_answer.specs.PlainLines.{further_kinds, plain_lines}

-- classes 0 and 1 are kernel ports, 2 to 4 births of the disk, 5 those of the plug-in
abbrev two : Table
two = record {
  names = codes "disk" ∷ codes "plugin" ∷ [];
  births = new_row 0 0 ∷ said_row 0 1 [] ∷ said_row 0 3 [] ∷ new_row 1 0 ∷ [];
  ports = [];
  accepts = [];
  lines = TaskLine ∷ TaskLine ∷ [];
  admits = [];
  trusts = [];
  fits = false;
  interfaces = [];
}

-- `forbid plugin send births disk 1`, `forbid plugin once births disk 0` and `forbid plugin receive
-- births disk 0`
abbrev forbidden : List ForbiddenLine
forbidden =
    record { line = 2; task = 1; right = Send; class = 3 }
    ∷ record { line = 3; task = 1; right = SendOnce; class = 2 }
    ∷ record { line = 5; task = 1; right = Receive; class = 2 } ∷ []

abbrev facts : List Fact
facts =
    Hold 1 2 Send ∷ Hold 1 2 SendOnce ∷ Hold 1 3 SendOnce ∷ Hold 1 5 Send ∷ Hold 1 5 Receive ∷ []

-- Line 2 holds while a send-once right gets through. Line 3 is broken. Line 5 holds while a send
-- right gets through; the send-once right is that of line 3.
leaks_example : leaky_lines (has facts) forbidden
    ≡ record {
      line = record { line = 2; task = 1; right = Send; class = 3 };
      rights = SendOnce ∷ [];
    }
    ∷ record {
      line = record { line = 5; task = 1; right = Receive; class = 2 };
      rights = Send ∷ [];
    } ∷ []
leaks_example = refl

-- two rights, in the order of facts
rights_example : leaky_lines (has facts) (record { line = 4; task = 1; right = SendOnce; class = 5 }
    ∷ [])
    ≡ record {
      line = record { line = 4; task = 1; right = SendOnce; class = 5 };
      rights = Send ∷ Receive ∷ [];
    } ∷ []
rights_example = refl

-- no right on the class gets to the task
none_example : leaky_lines (has facts) (record { line = 2; task = 1; right = Send; class = 4 } ∷ [])
    ≡ []
none_example = refl

-- the kinds other than 0 of the disk, and of the plug-in
disk_example : further_kinds two 0 ≡ 1 ∷ 3 ∷ []
disk_example = refl

plugin_example : further_kinds two 1 ≡ []
plugin_example = refl

-- lines 3 and 6 name the disk's births without a kind; line 4 has one, the plug-in's births have no
-- other, and a kind in a comment is none
abbrev policy : List ℕ
policy =
    codes "policy 2\n# the disk\nforbid plugin send births disk\n"
    ++ codes "forbid plugin send births disk 0\nforbid disk send births plugin\n"
    ++ codes "\tforbid plugin once births disk# 1"

plain_example : plain_lines two policy
    ≡ record { number = 3; task = 0; kinds = 1 ∷ 3 ∷ [] }
    ∷ record { number = 6; task = 0; kinds = 1 ∷ 3 ∷ [] } ∷ []
unfolding words between_blanks is_blank is_name
plain_example = refl
