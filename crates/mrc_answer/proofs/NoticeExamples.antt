-- Worked examples of what is told of routines of notifications and of trusted tasks. Their values
-- were worked out by hand.
use Rattle.std.proofs.Common.{◌≡◌, ℕ, List, [], ◌∷◌, refl}
use Rattle.std.specs.Prelude.{Some, None, codes, false}
use Rattle.mrc_model.specs.declared.FirstLine.TheVariants.{Task as TaskLine}
use Rattle.mrc_model.specs.declared.RequestKind.TheVariants.{Simple}
use Rattle.mrc_model.specs.declared.Verb.TheVariants.{Takes}
use Rattle.mrc_forms.specs.declared.form.FormKind.TheVariants.{Request}
use Rattle.mrc_forms.specs.Forms.{empty_form}
use Rattle.mrc_forms.specs.Tables.{Row, Table as Interface}
use Rattle.mrc_wiring.specs.declared.table.TrustedLine.{TrustedLine}
use Rattle.mrc_wiring.specs.Births.{new_row}
use Rattle.mrc_wiring.specs.Table.{Table}
use Rattle.mrc_answer.specs.Notices.{notification_from, trusted_names}

-- a simpleroutine of this name and id
abbrev simple : List ℕ → ℕ → Row
simple name id = record {
  request = Some (empty_form name id (Request Simple));
  reply = None;
}

-- a routine of another name, and a skip
abbrev plain : Interface
plain = record {
  name = codes "a";
  base = 10;
  rows = simple (codes "mach_notify_port_deleted") 10 ∷ record {
    request = None;
    reply = None;
  } ∷ [];
}

-- a routine of another name, and then two of notifications
abbrev of_notices : Interface
of_notices = record {
  name = codes "b";
  base = 20;
  rows = simple (codes "open") 20 ∷ simple (codes "mach_notify_dead_name") 21
      ∷ simple (codes "mach_notify_no_senders") 22 ∷ [];
}

-- nothing is told of other names
none : notification_from 0 (plain ∷ plain ∷ []) ≡ None
none = refl

-- the first routine of the first file that has one is told, and no other
first : notification_from 0 (plain ∷ of_notices ∷ of_notices ∷ [])
    ≡ Some (record { file = 1; routine = codes "mach_notify_dead_name" })
first = refl

-- a line of this number limits what the task of this number takes
abbrev takes : (number task : ℕ) → TrustedLine
takes number task = record { line = number; verb = Takes; task = task; right = None }

-- tasks `disk`, `net` and `plugin`, with these lines about trusted ones
abbrev three : List TrustedLine → Table
three trusts = record {
  names = codes "disk" ∷ codes "net" ∷ codes "plugin" ∷ [];
  births = new_row 0 0 ∷ new_row 1 0 ∷ new_row 2 0 ∷ [];
  ports = [];
  accepts = [];
  lines = TaskLine ∷ TaskLine ∷ TaskLine ∷ [];
  admits = [];
  trusts = trusts;
  fits = false;
  interfaces = [];
}

-- each task comes once, in the order of the tasks' numbers
trusted_example : trusted_names (three (takes 5 2 ∷ takes 6 0 ∷ takes 7 2 ∷ []))
    ≡ codes "disk" ∷ codes "plugin" ∷ []
trusted_example = refl

-- no line trusts a task
untrusted_example : trusted_names (three []) ≡ []
untrusted_example = refl
