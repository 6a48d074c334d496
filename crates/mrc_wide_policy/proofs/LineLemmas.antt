-- Reading lines one after the other, as a loop does, and what each line says.
use Rattle.std.proofs.Common.{◌≡◌, ◌≢◌, ℕ, ◌+◌, ◌≤◌, Bool, false, cond, eqb, ltb, List, []}
use Rattle.std.proofs.Common.{◌∷◌, ◌++◌, length, Option, Some, None, Result, Ok, refl, sym, ap}
use Rattle.std.proofs.Common.{subst, ◌∙◌, inl, inr, arith, append_assoc}
use Rattle.std.proofs.lemmas.Bool.{cases_Bool, false≢true, eqb-true, ne_eqb, ltb-false, le-ltb}
use Rattle.std.proofs.lemmas.List.{nil_from_length, append-nil}
use Rattle.mrc_base.specs.Limits.{limit_of_lines}
use Rattle.mrc_base.specs.declared.memory.OrMemory.{OrMemory}
use Rattle.mrc_base.specs.Reading.{◌>>=◌, Refuses}
use Rattle.mrc_base.proofs.Steps.{bind_ok, not_stopped, ok_is, err_is_ok, refuses_then}
use Rattle.mrc_base.proofs.Steps.{refuses_same}
use Rattle.mrc_wiring_text.specs.declared.faults.TextFault.{TextFault}
use Rattle.mrc_wiring_text.specs.declared.faults.TextFault.TheVariants.{BadLine}
use Rattle.mrc_wiring_text.specs.declared.reading.Line.{Line}
use Rattle.mrc_wiring_text.specs.Reading.{too_far, or_bad}
use Rattle.mrc_wide_policy.specs.declared.says.PolicySays.{PolicySays}
use Rattle.mrc_wide_policy.specs.Quotes.{quoted_words}
use Rattle.mrc_wide_policy.specs.PolicyLines.{policy_says}
use Rattle.mrc_wide_policy.specs.PolicyReading.{SoFar, words_say, line_says, as_line, add_line}
use Rattle.mrc_wide_policy.specs.PolicyReading.{add_lines}
use Rattle.mrc_wide_policy.specs.PolicyTexts.{Say}

-- ---- as a loop does

pub lines_go : (n : ℕ) (so_far more : SoFar) (text : List (List ℕ)) (line : List ℕ)
    (rest : List (List ℕ)) (total : Result SoFar TextFault)
    → add_lines n so_far text ≡ total
    → text ≡ line ∷ rest
    → add_line n so_far line ≡ Ok more
    → add_lines (n + 1) more rest ≡ total
unfolding add_lines
lines_go n so_far more text line rest total same cut is =
    sym (ap (λ (r : Result SoFar TextFault). r >>= λ more. add_lines (n + 1) more rest) is)
    ∙ ap (add_lines n so_far) (sym cut) ∙ same

pub lines_fail : (e : OrMemory TextFault) (n : ℕ) (so_far : SoFar) (text : List (List ℕ))
    (line : List ℕ) (rest : List (List ℕ)) (total : Result SoFar TextFault)
    → add_lines n so_far text ≡ total
    → text ≡ line ∷ rest
    → Refuses e (add_line n so_far line)
    → Refuses e total
unfolding add_lines
lines_fail e n so_far text line rest total same cut is =
    refuses_same e _ _ (ap (add_lines n so_far) (sym cut) ∙ same)
    (refuses_then e (add_line n so_far line) (λ more. add_lines (n + 1) more rest) is)

pub lines_end : (n : ℕ) (so_far : SoFar) (total : Result SoFar TextFault)
    → add_lines n so_far [] ≡ total
    → total ≡ Ok so_far
unfolding add_lines
lines_end n so_far total same = sym same

-- ---- one line

-- what a line says, if anything
abbrev Says : List ℕ → Option PolicySays → Type 0
Says line None = quoted_words line ≡ []
Says line (Some s) = (quoted_words line ≢ []) × (policy_says (quoted_words line) ≡ Some s)

good_is : (n : ℕ) (m o : Option PolicySays)
    → or_bad n m ≡ Ok o
    → (s : PolicySays) × (m ≡ Some s) × (o ≡ Some s)
good_is n None o e = err_is_ok (BadLine n) o e
good_is n (Some s) o e = (s, refl, sym (ok_is (Some s) o e))

line_found : (n : ℕ) (line : List ℕ) (o : Option PolicySays)
    → line_says n line ≡ Ok o
    → (n ≤ limit_of_lines) × Says line o
unfolding line_says
line_found n line o e =
    let choose : Bool → Result (Option PolicySays) TextFault = λ b. cond b (Ok None)
    (or_bad n (policy_says (quoted_words line))) in
    let g = not_stopped (ltb limit_of_lines n) too_far (words_say n (quoted_words line)) o e in (
      ltb-false _ _ g.0,
      elim (cases_Bool (eqb (length (quoted_words line)) 0)) [
        | inl none ↦ subst (Says line) (ok_is None o (sym (ap choose none) ∙ g.1))
            (nil_from_length (quoted_words line) (eqb-true _ _ none))
        | inr filled ↦
            let found = good_is n (policy_says (quoted_words line)) o
            (sym (ap choose filled) ∙ g.1) in
            subst (Says line) (sym found.2) (
              λ nil. absurd (false≢true (sym filled ∙ ap (λ ws. eqb (length ws) 0) nil)),
              found.1,
            )
      ],
    )

line_read : (n : ℕ) (line : List ℕ) (o : Option PolicySays)
    → n ≤ limit_of_lines
    → Says line o
    → line_says n line ≡ Ok o
unfolding line_says
line_read n line None within none = rw (le-ltb limit_of_lines n within, none) refl
line_read n line (Some s) within said =
    let filled : eqb (length (quoted_words line)) 0 ≡ false = ne_eqb _ _
    (λ e. said.0 (nil_from_length (quoted_words line) e)) in
    rw (le-ltb limit_of_lines n within, filled, said.1) refl

-- ---- the lines behind the heading

-- what lines say behind those in front
pub record Said (n : ℕ) (front : List (Line PolicySays)) (ls : List (List ℕ))
    (r : SoFar) : Type 0 where
  pub others : List (Line PolicySays)
  pub is : r ≡ Some (front ++ others)
  pub say : Say n ls others
  pub few : n + length ls ≤ limit_of_lines + 1

join : (n : ℕ) (line : List ℕ) (rest : List (List ℕ)) (o : Option PolicySays)
    (others : List (Line PolicySays))
    → Says line o
    → Say (n + 1) rest others
    → Say n (line ∷ rest) (as_line n o ++ others)
join n line rest None others none said = inl (none, said)
join n line rest (Some s) others says said = inr (s, others, says.0, says.1, refl, said)

pub said_found : (n : ℕ) (front : List (Line PolicySays)) (ls : List (List ℕ)) (r : SoFar)
    → n ≤ limit_of_lines + 1
    → add_lines n (Some front) ls ≡ Ok r
    → Said n front ls r
unfolding add_lines
said_found n front [] r within e = record {
  others = [];
  is = sym (ok_is (Some front) r e) ∙ ap (λ xs. Some xs) (sym (append-nil front));
  say = refl;
  few = omega (arith, within);
}
said_found n front (line ∷ rest) r within e =
    let step = bind_ok (add_line n (Some front) line) (λ more. add_lines (n + 1) more rest) r e in
    let said = bind_ok (line_says n line) (λ says. Ok (Some (front ++ as_line n says))) step.0
    step.1 in
    let here = line_found n line said.0 said.1 in
    let more : Some (front ++ as_line n said.0) ≡ step.0 = ok_is _ step.0 said.2 in
    let there = said_found (n + 1) (front ++ as_line n said.0) rest r (omega (arith, here.0))
    (ap (λ (s : SoFar). add_lines (n + 1) s rest) more ∙ step.2) in
    record {
      others = as_line n said.0 ++ there.others;
      is = there.is ∙ ap (λ xs. Some xs) (simp append_assoc);
      say = join n line rest said.0 there.others here.1 there.say;
      few = omega (arith, there.few);
    }

said_on : (n : ℕ) (front says others : List (Line PolicySays)) (line : List ℕ)
    (rest : List (List ℕ)) (o : Option PolicySays)
    → line_says n line ≡ Ok o
    → says ≡ as_line n o ++ others
    → add_lines (n + 1) (Some (front ++ as_line n o)) rest
    ≡ Ok (Some ((front ++ as_line n o) ++ others))
    → add_lines n (Some front) (line ∷ rest) ≡ Ok (Some (front ++ says))
unfolding add_lines
said_on n front says others line rest o first is later =
    rw first (later ∙ ap (λ xs. Ok (Some xs)) (append_assoc front (as_line n o) others
    ∙ ap (λ xs. front ++ xs) (sym is)))

pub said_read : (n : ℕ) (front : List (Line PolicySays)) (ls : List (List ℕ))
    (says : List (Line PolicySays))
    → n + length ls ≤ limit_of_lines + 1
    → Say n ls says
    → add_lines n (Some front) ls ≡ Ok (Some (front ++ says))
unfolding add_lines
said_read n front [] says few said =
    ap (λ xs. Ok (Some xs)) (sym (append-nil front) ∙ ap (λ xs. front ++ xs) (sym said))
said_read n front (line ∷ rest) says few (inl (none, said)) =
    said_on n front says says line rest None (line_read n line None (omega arith) none) refl
    (said_read (n + 1) (front ++ []) rest says (omega arith) said)
said_read n front (line ∷ rest) says few (inr (s, others, filled, is, all, said)) =
    said_on n front says others line rest (Some s)
    (line_read n line (Some s) (omega arith) (filled, is)) all
    (said_read (n + 1) (front ++ as_line n (Some s)) rest others (omega arith) said)
