-- From what is written of a text, and of what is pending behind it, to what goes out of an answer.
use Rattle.std.proofs.Common.{◌≡◌, ◌≤◌, ◌+◌, ◌∙◌, ◌++◌, ℕ, true, List, [], Result, Ok, Err, Option, ap}
use Rattle.std.proofs.Common.{arith, length, refl, subst, sym, take}
use Rattle.std.proofs.KnownBytes.{Appends-trans}
use Rattle.std.proofs.Math.Seq.{take-append-add}
use Rattle.std.proofs.lemmas.List.{take-append-le, take_all}
use Rattle.std.specs.Io.KnownBytes.{Appends}
use Rattle.std.specs.Prelude.{IfErr, OnErr, OnOk}
use Rattle.mrc_answer.specs.declared.answers.Answer.{Answer}
use Rattle.mrc_answer.specs.declared.answers.Answer.TheVariants.{Mig, Fault}
use Rattle.mrc_answer.specs.declared.asking.Answered.{Answered}
use Rattle.mrc_answer.specs.declared.asking.WasRead.{WasRead}
use Rattle.mrc_command.specs.declared.command.Format.{Format}
use Rattle.mrc_command.specs.declared.command.Format.TheVariants.{Text, Json, Sarif}
use Rattle.mrc_print.specs.Heads.{HasHead, InText, IsHeadOf, IsPrinted, pending_text}
use Rattle.mrc_report.specs.Output.{written}
use Rattle.mrc_report.specs.declared.outgoing.Unprinted.{Unprinted}
use Rattle.mrc_program.specs.Writing.{IsFrontOut, IsPending, IsToldInPart, IsWholeOut, has_fault}

-- a text may be empty if an answer has a fault
pub fault_head : (read : WasRead) (answer : Answer) → has_fault answer ≡ true
    → IsHeadOf read answer []
fault_head read (Fault fault) is = refl
fault_head read (Mig mig_texts) is = refl
fault_head read answer is = absurd cc

-- all of a text is a front of it
pub whole_front : (a b : Option (List ℕ)) (text : List ℕ)
    → Appends a b text
    → Appends a b (take (length text) text)
whole_front a b text all = subst (Appends a b) (sym (take_all (length text) text (omega arith))) all

-- a text went out, and behind it what is pending
pub whole_out : {T : Type 0} (format : Format) (answered : Answered) (r : Result T Unprinted)
    (a b c : Option (List ℕ)) (text given : List ℕ)
    → given ≡ text
    → Appends a b given
    → InText format (OnOk r (Appends b c (pending_text answered)))
    → (rest : List ℕ) × Appends b c rest
    → OnOk r (IsWholeOut format answered text a c)
whole_out Text answered (Ok x) a b c text given same first whole some = record {
  rest = pending_text answered;
  pending = λ is. refl;
  out = Appends-trans a b c text (pending_text answered) (subst (Appends a b) same first)
      (whole refl);
}
whole_out Json answered (Ok x) a b c text given same first whole some = record {
  rest = some.0;
  pending = λ is. absurd cc;
  out = Appends-trans a b c text some.0 (subst (Appends a b) same first) some.1;
}
whole_out Sarif answered (Ok x) a b c text given same first whole some = record {
  rest = some.0;
  pending = λ is. absurd cc;
  out = Appends-trans a b c text some.0 (subst (Appends a b) same first) some.1;
}
whole_out format answered (Err fault) a b c text given same first whole some = tt

-- the text went out, and a front of what is pending
pub front_out : {T : Type 0} (format : Format) (answered : Answered) (r : Result T Unprinted)
    (a b c : Option (List ℕ)) (text given : List ℕ)
    → given ≡ text
    → Appends a b given
    → InText format (IfErr r (λ fault. Appends b c (take (written fault) (pending_text answered))))
    → (rest : List ℕ) × Appends b c rest
    → OnErr r (IsFrontOut format answered text a c)
front_out Text answered (Err fault) a b c text given same first cut some = record {
  rest = pending_text answered;
  pending = λ is. refl;
  count = length text + written fault;
  front = subst (Appends a c) (sym (take-append-add text (pending_text answered) (written fault)))
      (Appends-trans a b c text (take (written fault) (pending_text answered))
      (subst (Appends a b) same first) (cut refl));
}
front_out Json answered (Err fault) a b c text given same first cut some = record {
  rest = some.0;
  pending = λ is. absurd cc;
  count = length (text ++ some.0);
  front = whole_front a c (text ++ some.0)
      (Appends-trans a b c text some.0 (subst (Appends a b) same first) some.1);
}
front_out Sarif answered (Err fault) a b c text given same first cut some = record {
  rest = some.0;
  pending = λ is. absurd cc;
  count = length (text ++ some.0);
  front = whole_front a c (text ++ some.0)
      (Appends-trans a b c text some.0 (subst (Appends a b) same first) some.1);
}
front_out format answered (Ok x) a b c text given same first cut some = tt

-- a part of the text alone
pub text_front : (format : Format) (answered : Answered) (a b : Option (List ℕ))
    (text given : List ℕ) (count : ℕ)
    → given ≡ text
    → Appends a b (take count given)
    → count ≤ length given
    → IsFrontOut format answered text a b
text_front format answered a b text given count same first within = record {
  rest = pending_text answered;
  pending = λ is. refl;
  count = count;
  front = subst (Appends a b)
      (ap (take count) same ∙ sym (take-append-le count text (pending_text answered)
      (subst (λ xs. count ≤ length xs) same within))) first;
}

-- all that went out is a front
pub front_of_whole : (format : Format) (answered : Answered) (text : List ℕ)
    (a b : Option (List ℕ))
    → IsWholeOut format answered text a b
    → IsFrontOut format answered text a b
front_of_whole format answered text a b whole = record {
  rest = whole.rest;
  pending = whole.pending;
  count = length (text ++ whole.rest);
  front = whole_front a b (text ++ whole.rest) whole.out;
}

-- a text with its head, and behind it what is pending, is what is printed of an answer
pub printed_of : (format : Format) (answered : Answered)
    (text rest : List ℕ)
    → InText format (HasHead answered text)
    → IsPending format answered rest
    → InText format (IsPrinted answered (text ++ rest))
printed_of format answered text rest head pending = λ is. record {
  head = text;
  has_head = head is;
  is = ap (λ t. text ++ t) (pending is);
}

-- a front of the text, and of what is pending, is one of what is printed
pub told_in_part : (format : Format) (answered : Answered) (text : List ℕ) (a b : Option (List ℕ))
    → InText format (HasHead answered text)
    → IsFrontOut format answered text a b
    → IsToldInPart format answered a b
told_in_part format answered text a b head part = record {
  text = text ++ part.rest;
  printed = printed_of format answered text part.rest head part.pending;
  count = part.count;
  front = part.front;
}
