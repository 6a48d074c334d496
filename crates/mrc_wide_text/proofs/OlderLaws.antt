-- A wiring of an older version names another version than this.
use Rattle.std.proofs.Common.{◌≡◌, ℕ, ◌+◌, ◌≤◌, true, false, eqb, List, [], ◌∷◌, ◌++◌, length}
use Rattle.std.proofs.Common.{Result, Err, refl, ap, ◌∙◌, arith}
use Rattle.std.specs.Prelude.{codes, IsTrue}
use Rattle.std.specs.List.{AllByRecursion}
use Rattle.std.proofs.lemmas.Bool.{le-ltb}
use Rattle.std.proofs.lemmas.List.{length-append}
use Rattle.std.proofs.lemmas.Str.{is_utf8-from_IsUtf8}
use Rattle.mrc_base.specs.Limits.{limit_of_lines}
use Rattle.mrc_base.specs.declared.memory.OrMemory.{OrMemory}
use Rattle.mrc_base.specs.Reading.{Gives}
use Rattle.mrc_base.proofs.Steps.{gives_same}
use Rattle.mrc_wiring_text.specs.declared.faults.TextFault.{TextFault}
use Rattle.mrc_wiring_text.specs.declared.faults.TextFault.TheVariants.{Version}
use Rattle.mrc_wiring_text.specs.declared.reading.Edition.{Edition}
use Rattle.mrc_wiring_text.specs.declared.reading.Edition.TheVariants.{First, Second, Third}
use Rattle.mrc_wiring_text.specs.declared.reading.Line.{Line}
use Rattle.mrc_wiring_text.specs.declared.wiring.WiringSays.{WiringSays}
use Rattle.mrc_wiring_text.specs.Lexis.{lines, words, decimal}
use Rattle.mrc_wiring_text.specs.Reading.{edition_number, utf8_text}
use Rattle.mrc_wiring_text.specs.Kinds.{is_number}
use Rattle.mrc_wiring_text.specs.Texts.{IsWordless, IsWiring}
use Rattle.mrc_stand_for.specs.declared.wide.WideSays.{WideSays}
use Rattle.mrc_wide_text.specs.WideReading.{wide_version, after_heading, heading, wide_wiring_of}
use Rattle.mrc_wide_text.proofs.HeadingLemmas.{version_named}

other_version : (edition : Edition) → eqb (edition_number edition) wide_version ≡ false
other_version First = refl
other_version Second = refl
other_version Third = refl

-- a line that names the version of an edition
record HasOther (line : List ℕ) : Type 0 where
  edition : Edition
  number : List ℕ
  said : words line ≡ codes "wiring" ∷ number ∷ []
  digits : IsTrue (is_number number)
  value : decimal number ≡ edition_number edition

head_older : (line : List ℕ) (n : ℕ)
    → n ≤ limit_of_lines
    → HasOther line
    → after_heading n (words line) ≡ Err Version
unfolding after_heading
head_older line n within is =
    let named = version_named (words line) (decimal is.number)
    (record { number = is.number; said = is.said; digits = is.digits; value = refl }) in
    rw (le-ltb limit_of_lines n within, named, is.value, other_version is.edition) refl

heading_older : (n : ℕ) (before : List (List ℕ)) (head : List ℕ) (rest : List (List ℕ))
    → AllByRecursion IsWordless before
    → HasOther head
    → n + length before ≤ limit_of_lines
    → heading n (before ++ head ∷ rest) ≡ Err Version
unfolding heading
heading_older n [] head rest none is few =
    let filled : eqb (length (words head)) 0 ≡ false = rw is.said refl in
    rw (filled, head_older head n (omega arith) is) refl
heading_older n (line ∷ before) head rest none is few =
    let blank : eqb (length (words line)) 0 ≡ true = rw none.0 refl in
    rw blank (heading_older (n + 1) before head rest none.1 is (omega arith))

pub text_older : (bytes : List ℕ) (says : List (Line WiringSays))
    → IsWiring bytes says
    → wide_wiring_of bytes ≡ Err Version
unfolding wide_wiring_of utf8_text
text_older bytes says is =
    let count : length (lines bytes) ≡ length is.before + (length is.after + 1) = ap length is.parts
    ∙ length-append is.before (is.head ∷ is.after) ∙ omega arith in
    let start : heading 1 (lines bytes) ≡ Err Version = ap (heading 1) is.parts
    ∙ heading_older 1 is.before is.head is.after is.wordless (record {
      edition = is.edition;
      number = is.heading.number;
      said = is.heading.said;
      digits = is.heading.digits;
      value = is.heading.value;
    })
    (omega (arith, count, is.few)) in
    rw (is_utf8-from_IsUtf8 bytes is.utf8, start) refl

-- so a reader tells it of such a wiring
pub older_told : {X : Type 0} (bytes : List ℕ) (view : X → List (Line WideSays))
    (r : Result X (OrMemory TextFault)) (says : List (Line WiringSays))
    → Gives view r (wide_wiring_of bytes)
    → IsWiring bytes says
    → Gives view r (Err Version)
older_told bytes view r says gives is =
    gives_same view r _ (Err Version) (text_older bytes says is) gives
