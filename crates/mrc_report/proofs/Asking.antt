-- The calls of a part of a script.
use Rattle.std.proofs.Common.{◌≡◌, ◌+◌, ℕ, List, [], ◌∷◌, ◌++◌, None, Some, Bool, true, false}
use Rattle.std.proofs.Common.{take}
use Rattle.std.proofs.Common.{drop, slice_get, refl, sym, ap, ◌∙◌, subst, ◌==◌, cond}
use Rattle.std.proofs.lemmas.List.{append_assoc, take-append-drop, append-nil}
use Rattle.mrc_live.proofs.Following.{take_next}
use Rattle.mrc_live.specs.Desks.{SeatState}
use Rattle.mrc_machine.specs.declared.call.Call.{Call}
use Rattle.mrc_report.specs.Plays.{asked_of, calls_of, Begins, IsPlayed, IsSameSeat}
use Rattle.mrc_report.specs.declared.playing.Halt.{Halt}
use Rattle.mrc_report.specs.declared.script.TaskCall.{TaskCall}
use Rattle.mrc_wiring_text.specs.declared.reading.Line.{Line}

asked_cond : (b : Bool) (x : Call) (xs ys : List Call)
    → cond b (x ∷ (xs ++ ys)) (xs ++ ys) ≡ cond b (x ∷ xs) xs ++ ys
asked_cond true x xs ys = refl
asked_cond false x xs ys = refl

-- the calls of one list of lines after another
pub asked_of-append : (task : ℕ) (ls ms : List (Line TaskCall))
    → asked_of task (ls ++ ms) ≡ asked_of task ls ++ asked_of task ms
asked_of-append task [] ms = refl
asked_of-append task (l ∷ ls) ms =
    (λ i. cond (l.says.task == task) (l.says.call ∷ asked_of-append task ls ms i)
    (asked_of-append task ls ms i))
    ∙ asked_cond (l.says.task == task) l.says.call (asked_of task ls) (asked_of task ms)

-- the calls of the first lines are a beginning
pub part_begins : (task : ℕ) (lines : List (Line TaskCall)) (k : ℕ)
    → Begins (asked_of task lines) (asked_of task (take k lines))
part_begins task lines k = (
  asked_of task (drop k lines),
  sym (asked_of-append task (take k lines) (drop k lines))
      ∙ ap (asked_of task) (take-append-drop k lines),
)

-- one line more
pub asked_next : (task : ℕ) (lines : List (Line TaskCall)) (k : ℕ) (l : Line TaskCall)
    → slice_get lines k ≡ Some l
    → asked_of task (take (k + 1) lines)
    ≡ asked_of task (take k lines) ++ cond (l.says.task == task) (l.says.call ∷ []) []
asked_next task lines k l at =
    ap (asked_of task) (take_next lines k (k + 1) l at refl)
    ∙ asked_of-append task (take k lines) (l ∷ [])

pub asked_mine : (task : ℕ) (lines : List (Line TaskCall)) (k : ℕ) (l : Line TaskCall)
    → slice_get lines k ≡ Some l → (l.says.task == task) ≡ true
    → asked_of task (take (k + 1) lines) ≡ asked_of task (take k lines) ++ l.says.call ∷ []
asked_mine task lines k l at mine =
    asked_next task lines k l at
    ∙ (λ i. asked_of task (take k lines) ++ cond (mine i) (l.says.call ∷ []) [])

pub asked_other : (task : ℕ) (lines : List (Line TaskCall)) (k : ℕ) (l : Line TaskCall)
    → slice_get lines k ≡ Some l → (l.says.task == task) ≡ false
    → asked_of task (take (k + 1) lines) ≡ asked_of task (take k lines)
asked_other task lines k l at other =
    asked_next task lines k l at
    ∙ (λ i. asked_of task (take k lines) ++ cond (other i) (l.says.call ∷ []) [])
    ∙ append-nil (asked_of task (take k lines))

-- one line more behind the calls that were there before: one of the task, and another
pub said_mine : (task : ℕ) (lines : List (Line TaskCall)) (k : ℕ) (l : Line TaskCall)
    (xs ys : List Call)
    → slice_get lines k ≡ Some l → (l.says.task == task) ≡ true
    → ys ≡ xs ++ asked_of task (take k lines)
    → ys ++ l.says.call ∷ [] ≡ xs ++ asked_of task (take (k + 1) lines)
said_mine task lines k l xs ys at mine were =
    ap (λ (us : List Call). us ++ l.says.call ∷ []) were
    ∙ append_assoc xs (asked_of task (take k lines)) (l.says.call ∷ [])
    ∙ ap (λ us. xs ++ us) (sym (asked_mine task lines k l at mine))

pub said_other : (task : ℕ) (lines : List (Line TaskCall)) (k : ℕ) (l : Line TaskCall)
    (xs ys : List Call)
    → slice_get lines k ≡ Some l → (l.says.task == task) ≡ false
    → ys ≡ xs ++ asked_of task (take k lines)
    → ys ≡ xs ++ asked_of task (take (k + 1) lines)
said_other task lines k l xs ys at other were =
    were ∙ ap (λ us. xs ++ us) (sym (asked_other task lines k l at other))

-- where it was halted the calls of the first lines have been made
pub played_part : (lines : List (Line TaskCall)) (before s : SeatState) (h : Halt) (k : ℕ)
    → IsSameSeat before s
    → calls_of s ≡ calls_of before ++ asked_of before.task (take k lines)
    → IsPlayed lines before s (Some h)
played_part lines before s h k same calls = record {
  seat = same;
  whole = λ none. absurd cc;
  begun = (asked_of before.task (take k lines), (calls, part_begins before.task lines k));
}

-- and else those of all
pub played_whole : (lines : List (Line TaskCall)) (before s : SeatState)
    → IsSameSeat before s → calls_of s ≡ calls_of before ++ asked_of before.task lines
    → IsPlayed lines before s None
played_whole lines before s same calls = record {
  seat = same;
  whole = λ none. calls;
  begun =
      (asked_of before.task lines, (calls, ([], append-nil (asked_of before.task lines))));
}
