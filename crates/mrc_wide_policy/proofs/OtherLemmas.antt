-- NotUtf8 is told of no text.
use Rattle.std.proofs.Common.{◌≡◌, ℕ, ◌+◌, eqb, ltb, List, [], ◌∷◌, ◌++◌, length, Option}
use Rattle.std.proofs.Common.{Some, None, Result, Ok, Err, subst}
use Rattle.std.specs.Str.{IsUtf8}
use Rattle.std.proofs.lemmas.Str.{is_utf8-from_IsUtf8}
use Rattle.mrc_base.specs.Limits.{limit_of_lines}
use Rattle.mrc_base.specs.declared.memory.OrMemory.{OrMemory}
use Rattle.mrc_base.specs.declared.memory.OrMemory.TheVariants.{Fault}
use Rattle.mrc_base.specs.Reading.{Gives}
use Rattle.mrc_wiring_text.specs.declared.faults.TextFault.{TextFault}
use Rattle.mrc_wiring_text.specs.declared.faults.TextFault.TheVariants.{NotUtf8, Version}
use Rattle.mrc_wiring_text.specs.declared.reading.Line.{Line}
use Rattle.mrc_wiring_text.specs.Lexis.{lines, words}
use Rattle.mrc_wiring_text.specs.Reading.{too_far, or_bad, utf8_text}
use Rattle.mrc_wiring_text.proofs.OtherLaws.{IsOther, ok_other, bad_other, version_other}
use Rattle.mrc_wiring_text.proofs.OtherLaws.{bind_other, cond_other}
use Rattle.mrc_wide_policy.specs.declared.says.PolicySays.{PolicySays}
use Rattle.mrc_wide_policy.specs.Quotes.{quoted_words}
use Rattle.mrc_wide_policy.specs.PolicyLines.{policy_says}
use Rattle.mrc_wide_policy.specs.PolicyReading.{SoFar, wide_version, version_of, headed, heading_of}
use Rattle.mrc_wide_policy.specs.PolicyReading.{words_say, line_says, as_line, add_line, add_lines}
use Rattle.mrc_wide_policy.specs.PolicyReading.{with_heading, wide_policy_of}

headed_other : (n : ℕ) (v : Option ℕ) → IsOther (headed n v)
headed_other n None = bad_other n
headed_other n (Some v) =
    cond_other (eqb v wide_version) (Ok (Some [])) (Err Version) (ok_other (Some [])) version_other

heading_other : (n : ℕ) (ws : List (List ℕ)) → IsOther (heading_of n ws)
unfolding heading_of
heading_other n ws =
    cond_other (ltb limit_of_lines n) (Err too_far) (headed n (version_of ws))
    (bad_other (limit_of_lines + 1)) (headed_other n (version_of ws))

bad_or_said : (n : ℕ) (o : Option PolicySays) → IsOther (or_bad n o)
bad_or_said n None = bad_other n
bad_or_said n (Some says) = ok_other (Some says)

says_other : (n : ℕ) (line : List ℕ) → IsOther (line_says n line)
unfolding line_says
says_other n line =
    let said = or_bad n (policy_says (quoted_words line)) in
    cond_other (ltb limit_of_lines n) (Err too_far) (words_say n (quoted_words line))
    (bad_other (limit_of_lines + 1))
    (cond_other (eqb (length (quoted_words line)) 0) (Ok None) said (ok_other None)
    (bad_or_said n (policy_says (quoted_words line))))

line_other : (n : ℕ) (so_far : SoFar) (line : List ℕ) → IsOther (add_line n so_far line)
line_other n None line =
    cond_other (eqb (length (words line)) 0) (Ok None) (heading_of n (words line)) (ok_other None)
    (heading_other n (words line))
line_other n (Some said) line =
    bind_other (line_says n line) (λ says. Ok (Some (said ++ as_line n says))) (says_other n line)
    (λ says. ok_other (Some (said ++ as_line n says)))

lines_other : (n : ℕ) (so_far : SoFar) (ls : List (List ℕ)) → IsOther (add_lines n so_far ls)
unfolding add_lines
lines_other n so_far [] = ok_other so_far
lines_other n so_far (line ∷ rest) =
    bind_other (add_line n so_far line) (λ more. add_lines (n + 1) more rest)
    (line_other n so_far line) (λ more. lines_other (n + 1) more rest)

with_heading_other : (so_far : SoFar) → IsOther (with_heading so_far)
with_heading_other None = bad_other 1
with_heading_other (Some said) = ok_other said

-- what a text means is no NotUtf8
text_other : (bytes : List ℕ) → IsUtf8 bytes → IsOther (wide_policy_of bytes)
unfolding wide_policy_of utf8_text
text_other bytes is =
    rw (is_utf8-from_IsUtf8 bytes is)
    (bind_other (add_lines 1 None (lines bytes)) (λ said. with_heading said)
    (lines_other 1 None (lines bytes)) (λ said. with_heading_other said))

-- so the reader tells it of no text
pub not_told : {X : Type 0} (bytes : List ℕ) (view : X → List (Line PolicySays))
    (r : Result X (OrMemory TextFault))
    → Gives view r (wide_policy_of bytes)
    → IsUtf8 bytes
    → r ≡ Err (Fault NotUtf8)
    → ⊥
not_told bytes view r gives is told =
    (text_other bytes is).other (subst (λ v. Gives view v (wide_policy_of bytes)) told gives)
