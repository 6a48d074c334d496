-- Texts, and what they mean, by computation.
use Rattle.std.proofs.Common.{◌≡◌, ℕ, List, [], ◌∷◌, ◌++◌, Some, Ok, Err, refl}
use Rattle.std.specs.Prelude.{codes}
use Rattle.std.specs.Str.{is_utf8, chars}
use Rattle.mrc_wiring_text.specs.declared.faults.TextFault.TheVariants.{NotUtf8, BadLine, Version}
use Rattle.mrc_wiring_text.specs.declared.wiring.WiringSays.{WiringSays}
use Rattle.mrc_wiring_text.specs.declared.wiring.WiringSays.TheVariants.{Task, Port, Births}
use Rattle.mrc_wiring_text.specs.declared.wiring.WiringSays.TheVariants.{HoldPort, HoldTask, Admit}
use Rattle.mrc_wiring_text.specs.declared.wiring.HeldRight.TheVariants.{Send}
use Rattle.mrc_wiring_text.specs.declared.items.Item.TheVariants.{Request, Reply}
use Rattle.mrc_wiring_text.specs.declared.policy.ClassName.TheVariants as class
use Rattle.mrc_wiring_text.specs.declared.reading.Line.{Line}
use Rattle.mrc_wiring_text.specs.Names.{is_name}
use Rattle.mrc_wiring_text.specs.Lexis.{is_blank, between_blanks, words}
use Rattle.mrc_wiring_text.specs.Reading.{version_of, after_heading, heading, line_of, body}
use Rattle.mrc_wiring_text.specs.Reading.{utf8_text, text_of}
use Rattle.mrc_wiring_text.specs.Items.{table_item, item_of, items_of}
use Rattle.mrc_wiring_text.specs.Policy.{class_of, plain_class}
use Rattle.mrc_wiring_text.specs.Wiring.{task_line, port_line, plain_births, held_right, held}
use Rattle.mrc_wiring_text.specs.Wiring.{hold_line, admitted, admit_line, wiring_says, wiring_of}

-- lines, each with its line feed
abbrev text : List (List ℕ) → List ℕ
text [] = []
text (line ∷ rest) = line ++ 10 ∷ text rest

abbrev at : ℕ → WiringSays → Line WiringSays
at n says = record { number = n; says = says }

-- two tasks, and what one of them holds
two_tasks : wiring_of (text (
    codes "wiring 1" ∷ codes "task l" ∷ codes "task f" ∷ codes "hold l send task f" ∷ []))
    ≡ Ok (at 2 (Task (codes "l")) ∷ at 3 (Task (codes "f"))
    ∷ at 4 (HoldTask (codes "l") (codes "f")) ∷ [])
unfolding text_of utf8_text is_utf8 chars heading after_heading version_of body line_of words
    between_blanks is_blank wiring_says task_line hold_line held is_name lib.Utf8.encode
two_tasks = refl

-- an application, a file server with a wired port, and what may be sent
files : wiring_of (text (
    codes "wiring 1" ∷ codes "task app" ∷ codes "task fs"
    ∷ codes "port root receiver fs accepts request fsys"
    ∷ codes "births app accepts reply fsys" ∷ codes "hold app send port root"
    ∷ codes "admit fsys.file_t births fs" ∷ []))
    ≡ Ok (at 2 (Task (codes "app")) ∷ at 3 (Task (codes "fs"))
    ∷ at 4 (Port (codes "root") (codes "fs") (Request (codes "fsys") ∷ []))
    ∷ at 5 (Births (codes "app") 0 (Reply (codes "fsys") ∷ []))
    ∷ at 6 (HoldPort (codes "app") Send (codes "root"))
    ∷ at 7 (Admit (codes "fsys") (codes "file_t") (Some (class.Births (codes "fs") 0))) ∷ [])
unfolding text_of utf8_text is_utf8 chars heading after_heading version_of body line_of words
    between_blanks is_blank wiring_says task_line port_line plain_births items_of item_of table_item
    hold_line held held_right admit_line admitted class_of plain_class is_name lib.Utf8.encode
files = refl

-- comments, lines without words, and a version with leading zeros
comments_and_zeros : wiring_of (text (
    [] ∷ codes "  # a system" ∷ codes "wiring 001 # first" ∷ [] ∷ codes "task a#b" ∷ []))
    ≡ Ok (at 5 (Task (codes "a")) ∷ [])
unfolding text_of utf8_text is_utf8 chars heading after_heading version_of body line_of words
    between_blanks is_blank wiring_says task_line hold_line held is_name lib.Utf8.encode
comments_and_zeros = refl

-- the version is told before a bad line behind it
another_version : wiring_of (text (codes "wiring 4" ∷ codes "task" ∷ [])) ≡ Err Version
unfolding text_of utf8_text is_utf8 chars heading after_heading version_of body line_of words
    between_blanks is_blank wiring_says task_line hold_line held is_name lib.Utf8.encode
another_version = refl

-- a line that says nothing of the grammar
no_name : wiring_of (text (codes "wiring 1" ∷ codes "task" ∷ [])) ≡ Err (BadLine 2)
unfolding text_of utf8_text is_utf8 chars heading after_heading version_of body line_of words
    between_blanks is_blank wiring_says task_line hold_line held is_name lib.Utf8.encode
no_name = refl

-- a text without any words
no_words : wiring_of (text ([] ∷ codes "# nothing" ∷ [])) ≡ Err (BadLine 1)
unfolding text_of utf8_text is_utf8 chars heading after_heading version_of body line_of words
    between_blanks is_blank wiring_says task_line hold_line held is_name lib.Utf8.encode
no_words = refl

-- bytes that are no text
no_text : wiring_of (codes "wiring 4 " ++ 255 ∷ []) ≡ Err NotUtf8
unfolding text_of utf8_text is_utf8 chars heading after_heading version_of body line_of words
    between_blanks is_blank wiring_says task_line hold_line held is_name lib.Utf8.encode
no_text = refl
