-- NotUtf8 is told of no text.
use Rattle.std.proofs.Common.{◌≡◌, ℕ, ◌+◌, eqb, ltb, List, [], ◌∷◌, length}
use Rattle.std.proofs.Common.{Option, Some, None, Result, Ok, Err, subst}
use Rattle.std.specs.Str.{IsUtf8}
use Rattle.std.proofs.lemmas.Str.{is_utf8-from_IsUtf8}
use Rattle.mrc_base.specs.Limits.{limit_of_lines}
use Rattle.mrc_base.specs.declared.memory.OrMemory.{OrMemory}
use Rattle.mrc_base.specs.declared.memory.OrMemory.TheVariants.{Fault}
use Rattle.mrc_base.specs.Reading.{◌>>=◌, Gives}
use Rattle.mrc_wiring_text.specs.declared.faults.TextFault.{TextFault}
use Rattle.mrc_wiring_text.specs.declared.faults.TextFault.TheVariants.{NotUtf8, Version}
use Rattle.mrc_wiring_text.specs.declared.reading.Line.{Line}
use Rattle.mrc_wiring_text.specs.Lexis.{lines, words}
use Rattle.mrc_wiring_text.specs.Reading.{too_far, body, utf8_text}
use Rattle.mrc_wiring_text.proofs.OtherLaws.{IsOther, ok_other, bad_other, version_other}
use Rattle.mrc_wiring_text.proofs.OtherLaws.{bind_other, cond_other, body_other}
use Rattle.mrc_stand_for.specs.declared.wide.WideSays.{WideSays}
use Rattle.mrc_wide_text.specs.WideLines.{wide_says}
use Rattle.mrc_wide_text.specs.WideReading.{wide_version, version_of, after_version, after_heading}
use Rattle.mrc_wide_text.specs.WideReading.{heading, wide_wiring_of}

after_version_other : (n : ℕ) (v : Option ℕ) → IsOther (after_version n v)
after_version_other n None = bad_other n
after_version_other n (Some v) =
    cond_other (eqb v wide_version) (Ok (n + 1)) (Err Version) (ok_other (n + 1)) version_other

after_heading_other : (n : ℕ) (ws : List (List ℕ)) → IsOther (after_heading n ws)
unfolding after_heading
after_heading_other n ws =
    cond_other (ltb limit_of_lines n) (Err too_far) (after_version n (version_of ws))
    (bad_other (limit_of_lines + 1)) (after_version_other n (version_of ws))

heading_other : (n : ℕ) (ls : List (List ℕ)) → IsOther (heading n ls)
unfolding heading
heading_other n [] = bad_other 1
heading_other n (line ∷ ls) =
    cond_other (eqb (length (words line)) 0) (heading (n + 1) ls)
    (after_heading n (words line) >>= λ next. Ok (next, ls))
    (heading_other (n + 1) ls)
    (bind_other (after_heading n (words line)) (λ next. Ok (next, ls))
    (after_heading_other n (words line)) (λ next. ok_other (next, ls)))

-- what a text means is no NotUtf8
text_other : (bytes : List ℕ) → IsUtf8 bytes → IsOther (wide_wiring_of bytes)
unfolding wide_wiring_of utf8_text
text_other bytes is =
    rw (is_utf8-from_IsUtf8 bytes is)
    (bind_other (heading 1 (lines bytes)) (λ start. body wide_says start.0 start.1)
    (heading_other 1 (lines bytes)) (λ start. body_other wide_says start.0 start.1))

-- so the reader tells it of no text
pub not_told : {X : Type 0} (bytes : List ℕ) (view : X → List (Line WideSays))
    (r : Result X (OrMemory TextFault))
    → Gives view r (wide_wiring_of bytes)
    → IsUtf8 bytes
    → r ≡ Err (Fault NotUtf8)
    → ⊥
not_told bytes view r gives is told =
    (text_other bytes is).other (subst (λ v. Gives view v (wide_wiring_of bytes)) told gives)
