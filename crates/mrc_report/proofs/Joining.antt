-- The threads of a script, joined one after the other, and what they have done.
use Rattle.std.proofs.Common.{◌≡◌, ◌+◌, ℕ, zero, suc, List, [], ◌∷◌, ◌++◌, Option, Some, None}
use Rattle.std.proofs.Common.{length, map, slice_get, refl, sym, ap, ◌∙◌, subst, MatchResult}
use Rattle.std.proofs.Common.{IfOk, IfErr, inl, inr, option_map}
use Rattle.std.proofs.lemmas.List.{append_assoc, map-append}
use Rattle.std.proofs.lemmas.Option.{slice_get-map}
use Rattle.std.specs.Prelude.{Result, Ok, Err}
use Rattle.mrc_base.proofs.Places.{each_pushed}
use Rattle.mrc_live.proofs.Following.{one_there}
use Rattle.mrc_live.specs.Desks.{SeatState}
use Rattle.mrc_live.specs.declared.event.Made.{Made}
use Rattle.mrc_report.proofs.JournalLaws.{map_there}
use Rattle.mrc_report.specs.Plays.{AreEnded, AreFresh, Begins, Ending, IsPlayed, IsRefused}
use Rattle.mrc_report.specs.Plays.{SaysAll, SaysFirst, asked_of, calls_of, earlier, first_halt}
use Rattle.mrc_report.specs.declared.playing.Halt.{Halt}
use Rattle.mrc_report.specs.declared.playing.Halt.TheVariants.{Stopped as Halted}
use Rattle.mrc_report.specs.declared.playing.Halt.TheVariants.{JournalFull, Memory}
use Rattle.mrc_report.specs.declared.playing.LiveFault.{LiveFault}
use Rattle.mrc_report.specs.declared.playing.LiveFault.TheVariants.{AllWait}
use Rattle.mrc_report.specs.declared.script.TaskCall.{TaskCall}
use Rattle.mrc_wiring_text.specs.declared.reading.Line.{Line}

-- by cases on two facts of one result
pub from_both : {H X : Type 0} (x : Result H X) (A B : H → Type 0) (C D : X → Type 0) (Q : Type 0)
    → ((h : H) → A h → B h → Q) → ((p : X) → C p → D p → Q)
    → MatchResult x A C → MatchResult x B D → Q
from_both (Ok h) A B C D Q ok err one other = ok h one other
from_both (Err p) A B C D Q ok err one other = err p one other

pub both_of : {H X : Type 0} (x : Result H X) (A B : H → Type 0) (C : X → Type 0)
    → IfOk x A → IfOk x B → IfErr x C → MatchResult x (λ h. A h × B h) C
both_of (Ok h) A B C one other err = (one, other)
both_of (Err p) A B C one other err = err

-- the first halt of a list with one more at its end
earlier_none : (halt : Option Halt) → earlier halt None ≡ halt
earlier_none None = refl
earlier_none (Some Halted) = refl
earlier_none (Some JournalFull) = refl
earlier_none (Some Memory) = refl

earlier_earlier : (a b c : Option Halt) → earlier a (earlier b c) ≡ earlier (earlier a b) c
earlier_earlier None b c = refl
earlier_earlier (Some Halted) None c = refl
earlier_earlier (Some Halted) (Some Halted) None = refl
earlier_earlier (Some Halted) (Some Halted) (Some c) = refl
earlier_earlier (Some Halted) (Some JournalFull) c = refl
earlier_earlier (Some Halted) (Some Memory) c = refl
earlier_earlier (Some JournalFull) b c = refl
earlier_earlier (Some Memory) b c = refl

first_pushed : (halts : List (Option Halt)) (halt : Option Halt)
    → first_halt (halts ++ halt ∷ []) ≡ earlier (first_halt halts) halt
first_pushed [] halt = earlier_none halt
first_pushed (one ∷ halts) halt =
    ap (earlier one) (first_pushed halts halt) ∙ earlier_earlier one (first_halt halts) halt

-- where there is no first halt there is none
none_of : (a b : Option Halt) → earlier a b ≡ None → (a ≡ None) × (b ≡ None)
none_of None b none = (refl, none)
none_of (Some Halted) None none = absurd cc
none_of (Some Halted) (Some b) none = absurd cc
none_of (Some JournalFull) b none = absurd cc
none_of (Some Memory) b none = absurd cc

none_there : (ends : List Ending) (k : ℕ) (e : Ending)
    → first_halt (map (λ x. x.halt) ends) ≡ None → slice_get ends k ≡ Some e → e.halt ≡ None
none_there [] k e none at = absurd cc
none_there (x ∷ ends) zero e none at =
    ap (λ (y : Ending). y.halt) (sym (one_there (x ∷ ends) 0 0 x e refl at refl))
    ∙ (none_of x.halt (first_halt (map (λ y. y.halt) ends)) none).0
none_there (x ∷ ends) (suc k) e none at =
    none_there ends k e (none_of x.halt (first_halt (map (λ y. y.halt) ends)) none).1 at

-- no thread, and one more
pub none_ended : (lines : List (Line TaskCall)) → AreEnded lines [] [] None
none_ended lines = record {
  ends = [];
  before_are = refl;
  after_are = refl;
  played = λ k e at. absurd cc;
  first_is = refl;
}

pub one_more : (lines : List (Line TaskCall)) (olds seats more_olds more : List SeatState)
    (first next : Option Halt) (old s : SeatState) (halt : Option Halt)
    → AreEnded lines olds seats first → IsPlayed lines old s halt
    → more_olds ≡ olds ++ old ∷ [] → more ≡ seats ++ s ∷ [] → next ≡ earlier first halt
    → AreEnded lines more_olds more next
one_more lines olds seats more_olds more first next old s halt ended played older longer later =
    let ends = ended.ends in
    let end : Ending = record { before = old; after = s; halt = halt } in record {
      ends = ends ++ end ∷ [];
      before_are = older ∙ ap (λ ss. ss ++ old ∷ []) ended.before_are
          ∙ sym (map-append (λ (e : Ending). e.before) ends (end ∷ []));
      after_are = longer ∙ ap (λ ss. ss ++ s ∷ []) ended.after_are
          ∙ sym (map-append (λ (e : Ending). e.after) ends (end ∷ []));
      played = each_pushed (λ k (e : Ending). IsPlayed lines e.before e.after e.halt) ends end
          ended.played played;
      first_is = later ∙ ap (λ f. earlier f halt) ended.first_is
          ∙ sym (first_pushed (map (λ (e : Ending). e.halt) ends) halt)
          ∙ ap first_halt (sym (map-append (λ (e : Ending). e.halt) ends (end ∷ [])));
    }

-- what came of a seat that had made no call
fresh_end : (lines : List (Line TaskCall)) (before after : List SeatState) (first : Option Halt)
    → (ended : AreEnded lines before after first) → AreFresh before
    → (t : ℕ) (s : SeatState) → slice_get after t ≡ Some s
    → (e : Ending) × (slice_get ended.ends t ≡ Some e) × (e.after ≡ s)
    × (e.before.task ≡ t) × (e.before.calls ≡ [])
fresh_end lines before after first ended fresh t s at =
    let one = map_there (λ (e : Ending). e.after) ended.ends t s
    (ap (λ ss. slice_get ss t) (sym ended.after_are) ∙ at) in
    let here = ap (λ ss. slice_get ss t) ended.before_are
    ∙ slice_get-map (λ (e : Ending). e.before) ended.ends t
    ∙ ap (option_map (λ (e : Ending). e.before)) one.1.0 in
    let is = fresh t one.0.before here in
    (one.0, one.1.0, one.1.1, is.0, is.1)

pub says_all : (lines : List (Line TaskCall)) (before after : List SeatState)
    → AreEnded lines before after None → AreFresh before → SaysAll lines after
says_all lines before after ended fresh t s at =
    let one = fresh_end lines before after None ended fresh t s at in
    let e = one.0 in
    let played = ended.played t e one.1 in
    let whole = played.whole (none_there ended.ends t e (sym ended.first_is) one.1)
    ∙ ap (λ (ms : List Made). map (λ (m : Made). m.call) ms ++ asked_of e.before.task lines) one.4
    ∙ ap (λ task. asked_of task lines) one.3 in
    subst (λ (x : SeatState). (x.task ≡ t) × (calls_of x ≡ asked_of t lines)) one.2
    (played.seat.1 ∙ one.3, whole)

pub says_first : (lines : List (Line TaskCall)) (before after : List SeatState)
    (first : Option Halt)
    → AreEnded lines before after first → AreFresh before → SaysFirst lines after
says_first lines before after first ended fresh t s at =
    let one = fresh_end lines before after first ended fresh t s at in
    let e = one.0 in
    let played = ended.played t e one.1 in
    let front = played.begun.0 in
    let calls : calls_of e.after ≡ front = played.begun.1.0
    ∙ ap (λ (ms : List Made). map (λ (m : Made). m.call) ms ++ front) one.4 in
    let begins : Begins (asked_of t lines) front =
    subst (λ task. Begins (asked_of task lines) front) one.3 played.begun.1.1 in
    subst (λ (x : SeatState). (x.task ≡ t) × Begins (asked_of t lines) (calls_of x)) one.2 (
      played.seat.1 ∙ one.3,
      subst (Begins (asked_of t lines)) (sym calls) begins,
    )

-- what all seats have made if all wait
pub waits_first : (lines : List (Line TaskCall)) (before after : List SeatState)
    (fault : LiveFault)
    → fault ≡ AllWait → IsRefused lines before fault after → AreFresh before
    → SaysFirst lines after
waits_first lines before after fault waits (inl out) fresh =
    absurd (let no = sym waits ∙ out.0 in cc)
waits_first lines before after fault waits (inr halted) fresh =
    says_first lines before after (Some halted.0) halted.1.1 fresh

-- a fact of each element of a list, of its first one, of those behind it, and of one more
pub first_of : {X : Type 0} (x : X) (xs ys : List X) (P : X → Type 0) → xs ≡ x ∷ ys
    → ((k : ℕ) (y : X) → slice_get xs k ≡ Some y → P y) → P x
first_of x xs ys P is each = each zero x (ap (λ zs. slice_get zs 0) is)

pub later_of : {X : Type 0} (x : X) (xs ys : List X) (P : X → Type 0) → xs ≡ x ∷ ys
    → ((k : ℕ) (y : X) → slice_get xs k ≡ Some y → P y)
    → (k : ℕ) (y : X) → slice_get ys k ≡ Some y → P y
later_of x xs ys P is each k y at =
    each (suc k) y (ap (λ zs. slice_get zs (suc k)) is ∙ at)

pub grown_of : {X : Type 0} (x : X) (xs more : List X) (P : X → Type 0) → more ≡ xs ++ x ∷ []
    → ((k : ℕ) (y : X) → slice_get xs k ≡ Some y → P y) → P x
    → (k : ℕ) (y : X) → slice_get more k ≡ Some y → P y
grown_of x xs more P longer each holds k y at =
    each_pushed (λ k z. P z) xs x each holds k y (ap (λ zs. slice_get zs k) (sym longer) ∙ at)

-- one element goes from what is left to what is done
pub moved : {X Y : Type 0} {all : List Y} (x : X) (xs more : List X) (f : X → Y) (y : Y)
    (rest later : List Y)
    → more ≡ xs ++ x ∷ [] → f x ≡ y → rest ≡ y ∷ later → map f xs ++ rest ≡ all
    → map f more ++ later ≡ all
moved x xs more f y rest later longer is next was =
    ap (λ ws. map f ws ++ later) longer
    ∙ ap (λ ys. ys ++ later) (map-append f xs (x ∷ []))
    ∙ append_assoc (map f xs) (f x ∷ []) later
    ∙ ap (λ z. map f xs ++ z ∷ later) is
    ∙ ap (λ ys. map f xs ++ ys) (sym next) ∙ was

pub taken_on : {X Y : Type 0} {all : List Y} (x : X) (rest later : List X) (f : X → Y)
    (done : List Y)
    → rest ≡ x ∷ later → all ≡ done ++ map f rest → all ≡ (done ++ f x ∷ []) ++ map f later
taken_on x rest later f done next was =
    was ∙ ap (λ ws. done ++ map f ws) next ∙ sym (append_assoc done (f x ∷ []) (map f later))
