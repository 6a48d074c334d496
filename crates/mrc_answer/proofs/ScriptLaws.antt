-- From what a reader of scripts answers to what a script says.
use Rattle.std.proofs.Common.{◌≡◌, ◌∙◌, ℕ, Bool, List, Result, Ok, Err, ap, refl, sym}
use Rattle.std.specs.Str.{IsUtf8, is_utf8}
use Rattle.std.proofs.lemmas.Bool.{false_from_ne_true}
use Rattle.std.proofs.lemmas.Str.{IsUtf8-from_is_utf8, is_utf8-from_IsUtf8}
use Rattle.mrc_base.specs.declared.memory.OrMemory.{OrMemory}
use Rattle.mrc_base.specs.declared.memory.OrMemory.TheVariants.{Fault, Memory}
use Rattle.mrc_base.specs.Faults.{MapsFault}
use Rattle.mrc_base.specs.Reading.{◌>>=◌, Refuses, UnlessMemory}
use Rattle.mrc_interface.specs.Reading.{step}
use Rattle.mrc_wiring_text.specs.declared.faults.TextFault.TheVariants.{NotUtf8}
use Rattle.mrc_wiring_text.specs.declared.faults.TextFault.{TextFault}
use Rattle.mrc_wiring_text.specs.declared.reading.Line.{Line}
use Rattle.mrc_wiring_text.specs.Reading.{utf8_text}
use Rattle.mrc_wiring.specs.Table.{Table}
use Rattle.mrc_check.specs.declared.faults.CaseFault.{CaseFault}
use Rattle.mrc_check.specs.declared.faults.CaseFault.TheVariants.{Script}
use Rattle.mrc_check.specs.Texts.{InScript, meaningless}
use Rattle.mrc_report.specs.declared.script.TaskCall.{TaskCall}
use Rattle.mrc_report.specs.Scripts.{script_of}
use Rattle.mrc_answer.specs.Files.{Texts, given}
use Rattle.mrc_answer.specs.Texts.{script}

-- what bytes say
abbrev said_by : Bool → Table → List ℕ → Result (List (Line TaskCall)) TextFault
said_by live table bytes = utf8_text bytes >>= λ text. script_of live table.names text

-- bytes that are a text say what the text says
of_text : (live : Bool) (table : Table) (bytes text : List ℕ) → IsUtf8 bytes → text ≡ bytes
    → said_by live table bytes ≡ script_of live table.names text
unfolding utf8_text
of_text live table bytes text is same = rw (is_utf8-from_IsUtf8 bytes is, same) refl

-- and a script says what its bytes say
of_bytes : (live : Bool) (table : Table) (texts : Texts) (bytes : List ℕ)
    (said : Result (List (Line TaskCall)) TextFault)
    → bytes ≡ given texts.script
    → said_by live table bytes ≡ said
    → script live table texts ≡ step InScript said
of_bytes live table texts bytes said are says =
    ap (λ bs. step InScript (said_by live table bs)) (sym are) ∙ ap (step InScript) says

-- a script that was read
pub said_so : (live : Bool) (table : Table) (texts : Texts) (bytes text : List ℕ)
    (lines : List (Line TaskCall))
    → bytes ≡ given texts.script → IsUtf8 bytes → text ≡ bytes
    → script_of live table.names text ≡ Ok lines
    → script live table texts ≡ Ok lines
said_so live table texts bytes text lines are is same read =
    of_bytes live table texts bytes (Ok lines) are
    (of_text live table bytes text is same ∙ read)

-- a script that was refused
pub refused_so : (live : Bool) (table : Table) (texts : Texts) (bytes text : List ℕ)
    (refusal : OrMemory TextFault) (mapped : OrMemory CaseFault)
    → bytes ≡ given texts.script → IsUtf8 bytes → text ≡ bytes
    → Refuses refusal (script_of live table.names text)
    → MapsFault (λ f made. made ≡ Script f) refusal mapped
    → UnlessMemory (λ f. script live table texts ≡ Err (meaningless f)) mapped
refused_so live table texts bytes text (Fault f) (Fault made) are is same refuses maps =
    of_bytes live table texts bytes (Err f) are
    (of_text live table bytes text is same ∙ refuses)
    ∙ ap (λ (c : CaseFault). Err (meaningless c)) (sym maps)
refused_so live table texts bytes text (Fault f) Memory are is same refuses maps = tt
refused_so live table texts bytes text Memory (Fault made) are is same refuses maps = absurd cc
refused_so live table texts bytes text Memory Memory are is same refuses maps = tt

-- bytes that are no text
pub no_text : (live : Bool) (table : Table) (texts : Texts) (bytes : List ℕ)
    → bytes ≡ given texts.script → (IsUtf8 bytes → ⊥)
    → script live table texts ≡ Err (InScript NotUtf8)
unfolding utf8_text
no_text live table texts bytes are bad =
    of_bytes live table texts bytes (Err NotUtf8) are
    (rw (false_from_ne_true (is_utf8 bytes) (λ e. bad (IsUtf8-from_is_utf8 bytes e))) refl)
