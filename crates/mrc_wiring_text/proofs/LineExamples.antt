-- What lines of a wiring say, by computation: one of each kind.
use Rattle.std.proofs.Common.{◌≡◌, ℕ, List, [], ◌∷◌, Option, Some, None, refl}
use Rattle.std.specs.Prelude.{codes}
use Rattle.mrc_wiring_text.specs.declared.items.Item.TheVariants.{Request, Reply, Destroyed}
use Rattle.mrc_wiring_text.specs.declared.policy.ClassName.TheVariants as class
use Rattle.mrc_wiring_text.specs.declared.wiring.HeldRight.TheVariants.{Send, SendOnce}
use Rattle.mrc_wiring_text.specs.declared.wiring.WiringSays.{WiringSays}
use Rattle.mrc_wiring_text.specs.declared.wiring.WiringSays.TheVariants.{Task, Port, Births}
use Rattle.mrc_wiring_text.specs.declared.wiring.WiringSays.TheVariants.{HoldPort, HoldTask, Admit}
use Rattle.mrc_wiring_text.specs.declared.reading.Edition.TheVariants.{First, Second, Third}
use Rattle.mrc_base.specs.declared.PortRight.TheVariants as rights
use Rattle.mrc_wiring_text.specs.declared.trust.TrustVerb.TheVariants as trust
use Rattle.mrc_wiring_text.specs.declared.wiring.WiringSays.TheVariants.{Trust, RepliesFit}
use Rattle.mrc_wiring_text.specs.Policy.{right_of}
use Rattle.mrc_wiring_text.specs.Wiring.{verb_of, trusted_right, trust_line, fit_line}
use Rattle.mrc_wiring_text.specs.Kinds.{kind_of}
use Rattle.mrc_wiring_text.specs.Names.{is_name}
use Rattle.mrc_wiring_text.specs.Lexis.{is_blank, between_blanks, words}
use Rattle.mrc_wiring_text.specs.Items.{table_item, item_of, items_of}
use Rattle.mrc_wiring_text.specs.Policy.{class_of, plain_class, births_with_kind}
use Rattle.mrc_wiring_text.specs.Wiring.{task_line, port_line, plain_births, kind_births}
use Rattle.mrc_wiring_text.specs.Wiring.{held_right}
use Rattle.mrc_wiring_text.specs.Wiring.{held, hold_line, admitted, admit_line, wiring_says}

-- what a line says
abbrev says : List ℕ → Option WiringSays
says line = wiring_says First (words line)

task : says (codes "task none") ≡ Some (Task (codes "none"))
unfolding words between_blanks is_blank wiring_says task_line is_name
task = refl

port : says (codes "port root receiver fs accepts request fsys , reply name,destroyed # three")
    ≡ Some (Port (codes "root") (codes "fs")
    (Request (codes "fsys") ∷ Reply (codes "name") ∷ Destroyed ∷ []))
unfolding words between_blanks is_blank wiring_says port_line items_of item_of table_item is_name
port = refl

births : says (codes "births app accepts reply fsys")
    ≡ Some (Births (codes "app") 0 (Reply (codes "fsys") ∷ []))
unfolding words between_blanks is_blank wiring_says plain_births items_of item_of table_item is_name
births = refl

births_of_none : says (codes "births births accepts none") ≡ Some (Births (codes "births") 0 [])
unfolding words between_blanks is_blank wiring_says plain_births items_of is_name
births_of_none = refl

none_stands_alone : says (codes "births app accepts none,destroyed") ≡ None
unfolding words between_blanks is_blank wiring_says plain_births items_of item_of table_item is_name
none_stands_alone = refl

no_item_is_empty : says (codes "births app accepts reply fsys,") ≡ None
unfolding words between_blanks is_blank wiring_says plain_births items_of item_of table_item is_name
no_item_is_empty = refl

twice : says (codes "births app accepts destroyed,destroyed")
    ≡ Some (Births (codes "app") 0 (Destroyed ∷ Destroyed ∷ []))
unfolding words between_blanks is_blank wiring_says plain_births items_of item_of table_item is_name
twice = refl

hold_send : says (codes "hold app send port root")
    ≡ Some (HoldPort (codes "app") Send (codes "root"))
unfolding words between_blanks is_blank wiring_says hold_line held held_right is_name
hold_send = refl

hold_once : says (codes "hold app once port root")
    ≡ Some (HoldPort (codes "app") SendOnce (codes "root"))
unfolding words between_blanks is_blank wiring_says hold_line held held_right is_name
hold_once = refl

hold_task : says (codes "hold l send task f") ≡ Some (HoldTask (codes "l") (codes "f"))
unfolding words between_blanks is_blank wiring_says hold_line held held_right is_name
hold_task = refl

no_once_to_a_task : says (codes "hold l once task f") ≡ None
unfolding words between_blanks is_blank wiring_says hold_line held held_right is_name
no_once_to_a_task = refl

admit : says (codes "admit fsys.file_t births fs")
    ≡ Some (Admit (codes "fsys") (codes "file_t") (Some (class.Births (codes "fs") 0)))
unfolding words between_blanks is_blank wiring_says admit_line admitted class_of plain_class is_name
admit = refl

admit_none : says (codes "admit fsys.file_t none")
    ≡ Some (Admit (codes "fsys") (codes "file_t") None)
unfolding words between_blanks is_blank wiring_says admit_line admitted class_of plain_class is_name
admit_none = refl

two_dots : says (codes "admit fsys.file_t.x none") ≡ None
unfolding words between_blanks is_blank wiring_says admit_line admitted class_of plain_class is_name
two_dots = refl

-- births by their kind, in version 2: leading zeros or not, below 16, and never left out
births_by_kind : wiring_says Second (words (codes "births app 0015 accepts none"))
    ≡ Some (Births (codes "app") 15 [])
unfolding words between_blanks is_blank wiring_says kind_births items_of is_name kind_of
births_by_kind = refl

no_kind_16 : wiring_says Second (words (codes "births app 16 accepts none")) ≡ None
unfolding words between_blanks is_blank wiring_says kind_births items_of is_name kind_of
no_kind_16 = refl

kind_left_out : wiring_says Second (words (codes "births app accepts none")) ≡ None
unfolding words between_blanks is_blank wiring_says kind_births items_of is_name kind_of
kind_left_out = refl

admit_by_kind : wiring_says Second (words (codes "admit fsys.file_t births fs 1"))
    ≡ Some (Admit (codes "fsys") (codes "file_t") (Some (class.Births (codes "fs") 1)))
unfolding words between_blanks is_blank wiring_says admit_line admitted class_of births_with_kind
    is_name kind_of
admit_by_kind = refl

no_kind_in_version_1 : says (codes "admit fsys.file_t births fs 1") ≡ None
unfolding words between_blanks is_blank wiring_says admit_line admitted class_of is_name
no_kind_in_version_1 = refl

-- what version 3 adds
abbrev third : List ℕ → Option WiringSays
third line = wiring_says Third (words line)

trust_right : third (codes "trust l takes once births f 2")
    ≡ Some (Trust (codes "l") trust.Takes (Some record {
      right = rights.SendOnce;
      class = class.Births (codes "f") 2;
    }))
unfolding words between_blanks is_blank wiring_says trust_line verb_of trusted_right right_of
    class_of
    births_with_kind kind_of is_name
trust_right = refl

trust_none : third (codes "trust l sends none") ≡ Some (Trust (codes "l") trust.Sends None)
unfolding words between_blanks is_blank wiring_says trust_line verb_of trusted_right is_name
trust_none = refl

trust_replies : third (codes "trust l replies port p")
    ≡ Some (Trust (codes "l") trust.Replies (Some record {
      right = rights.SendOnce;
      class = class.Port (codes "p");
    }))
unfolding words between_blanks is_blank wiring_says trust_line verb_of admitted class_of plain_class
    is_name
trust_replies = refl

replies_name_no_right : third (codes "trust l replies once port p") ≡ None
unfolding words between_blanks is_blank wiring_says trust_line verb_of admitted class_of plain_class
    births_with_kind kind_of is_name
replies_name_no_right = refl

replies_fit : third (codes "replies fit") ≡ Some RepliesFit
unfolding words between_blanks is_blank wiring_says fit_line
replies_fit = refl

-- in version 2 they say nothing
no_trust : wiring_says Second (words (codes "trust l takes none")) ≡ None
unfolding words between_blanks is_blank wiring_says
no_trust = refl

no_fit : wiring_says Second (words (codes "replies fit")) ≡ None
unfolding words between_blanks is_blank wiring_says
no_fit = refl
