-- What was read is what a wiring of one of the versions says, and what such a wiring says is read.
use Rattle.std.proofs.Common.{◌≡◌, ℕ, List, Result, Ok, Err, inl, inr, refl, ap, sym, subst, ◌∙◌}
use Rattle.std.specs.Prelude.{IfOk}
use Rattle.mrc_base.specs.declared.memory.OrMemory.{OrMemory}
use Rattle.mrc_base.specs.Reading.{◌>>=◌, Gives}
use Rattle.mrc_base.proofs.Steps.{bind_ok, bind_to, ok_is, err_is_ok, gives_ok, gives_same}
use Rattle.mrc_wiring_text.specs.declared.faults.TextFault.{TextFault}
use Rattle.mrc_wiring_text.specs.declared.faults.TextFault.TheVariants.{NotUtf8, BadLine, Version}
use Rattle.mrc_wiring_text.specs.declared.reading.Edition.{Edition}
use Rattle.mrc_wiring_text.specs.declared.reading.Line.{Line}
use Rattle.mrc_wiring_text.specs.declared.wiring.WiringSays.{WiringSays}
use Rattle.mrc_wiring_text.specs.Texts.{IsWiring}
use Rattle.mrc_wiring_text.specs.Wiring.{wiring_edition, wiring_of, wiring_says}
use Rattle.mrc_wiring_text.proofs.TextLaws as older
use Rattle.mrc_stand_for.specs.declared.wide.WideSays.{WideSays}
use Rattle.mrc_wide_text.specs.WideReading.{wide_wiring_of}
use Rattle.mrc_wide_text.specs.Wirings.{Said, Says, older_said, wide_said, older_of, or_older}
use Rattle.mrc_wide_text.specs.Wirings.{said_of}
use Rattle.mrc_wide_text.proofs.TextLaws.{text_found, text_read}
use Rattle.mrc_wide_text.proofs.OlderLaws.{text_older}

-- ---- what was read

older_found : (wiring : List ℕ) (said : Said) → older_of wiring ≡ Ok said → Says wiring said
older_found wiring said e =
    let edition = bind_ok (wiring_edition wiring) _ said e in
    let lines = bind_ok (wiring_of wiring) _ said edition.2 in
    let is = older.text_found _ wiring_says wiring lines.0 lines.1 in
    let same : edition.0 ≡ is.edition = ok_is edition.0 is.edition
    (sym edition.1 ∙ older.edition_read _ wiring_says wiring lines.0 is) in
    inl (
      lines.0,
      is,
      sym (ok_is (older_said edition.0 lines.0) said lines.2)
          ∙ ap (λ (e : Edition). older_said e lines.0) same,
    )

said_found : (wiring : List ℕ) (read : Result (List (Line WideSays)) TextFault) (said : Said)
    → wide_wiring_of wiring ≡ read
    → or_older wiring read ≡ Ok said
    → Says wiring said
said_found wiring (Ok wide) said is e =
    inr (wide, text_found wiring wide is, sym (ok_is (wide_said wide) said e))
said_found wiring (Err Version) said is e = older_found wiring said e
said_found wiring (Err NotUtf8) said is e = err_is_ok NotUtf8 said e
said_found wiring (Err (BadLine n)) said is e = err_is_ok (BadLine n) said e

-- ---- what is read

older_again : (wiring : List ℕ) (lines : List (Line WiringSays)) (is : IsWiring wiring lines)
    → older_of wiring ≡ Ok (older_said is.edition lines)
older_again wiring lines is =
    bind_to (wiring_edition wiring) is.edition _ _ (older.edition_read _ wiring_says wiring lines is)
    (bind_to (wiring_of wiring) lines _ _ (older.text_read _ wiring_says wiring lines is) refl)

said_again : (wiring : List ℕ) (said : Said) → Says wiring said → said_of wiring ≡ Ok said
said_again wiring said (inl older) =
    ap (or_older wiring) (text_older wiring older.0 older.1)
    ∙ older_again wiring older.0 older.1 ∙ ap (λ (s : Said). Ok s) (sym older.2)
said_again wiring said (inr wide) =
    ap (or_older wiring) (text_read wiring wide.0 wide.1) ∙ ap (λ (s : Said). Ok s) (sym wide.2)

-- the two, of what steps answer
pub said_is : (wiring : List ℕ) (said : Said) → said_of wiring ≡ Ok said → Says wiring said
said_is wiring said e = said_found wiring (wide_wiring_of wiring) said refl e

pub is_said : (wiring : List ℕ) (said : Said) → Says wiring said → said_of wiring ≡ Ok said
is_said wiring said is = said_again wiring said is

-- ---- what the reader returned

pub found_in : {X : Type 0} (wiring : List ℕ) (view : X → Said) (r : Result X (OrMemory TextFault))
    → Gives view r (said_of wiring)
    → IfOk r (λ x. Says wiring (view x))
found_in wiring view r gives = gives_ok (Says wiring) view r _ (said_is wiring) gives

pub read_by : {X : Type 0} (wiring : List ℕ) (view : X → Said) (r : Result X (OrMemory TextFault))
    (said : Said)
    → Gives view r (said_of wiring)
    → Says wiring said
    → Gives view r (Ok said)
read_by wiring view r said gives is = gives_same view r _ (Ok said) (said_again wiring said is) gives
