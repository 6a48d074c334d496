-- The walk goes as far as words begin a line, and what it leaves to come goes on.
use Rattle.std.proofs.Common.{◌≡◌, ℕ, suc, ◌+◌, ◌<◌, ◌≤◌, List, [], ◌∷◌, ◌++◌}
use Rattle.std.proofs.Common.{length, take, Option, Some, None, refl, sym, ap, ◌∙◌, subst, arith}
use Rattle.std.proofs.Common.{inl, inr}
use Rattle.std.specs.List.{list_any}
use Rattle.std.specs.Option.{is_some}
use Rattle.std.proofs.lemmas.Bool.{cases_Bool}
use Rattle.mrc_wiring_text.specs.declared.reading.Edition.{Edition}
use Rattle.mrc_line_hints.specs.declared.walks.Walked.{Walked}
use Rattle.mrc_line_hints.specs.declared.ways.Place.{Place}
use Rattle.mrc_line_hints.specs.declared.ways.Way.{Way}
use Rattle.mrc_line_hints.specs.Ways.{fits, ways, first_fit, step}
use Rattle.mrc_line_hints.specs.Walks.{onward, run, begun, walk}
use Rattle.mrc_line_hints.specs.Beginnings.{IsLongest, CaretIsUnderTheFirst, WhatGoesOnIsExpected}
use Rattle.mrc_line_hints.proofs.Loops.{walk_front}
use Rattle.mrc_line_hints.proofs.Closings.{run_append}

-- how far words are walked, from a count on
record IsWalk (edition : Edition) (count : ℕ) (place : Place) (words : List (List ℕ))
    (walked : Walked) : Type 0 where
  more : ℕ
  counted : walked.count ≡ count + more
  within : more ≤ length words
  runs : run edition (Some place) (take more words) ≡ Some walked.place
  stops : more < length words → run edition (Some place) (take (more + 1) words) ≡ None

run_word : (edition : Edition) (place : Place) (o : Option Place) (word : List ℕ)
    (words : List (List ℕ))
    → step edition place word ≡ o
    → run edition (Some place) (word ∷ words) ≡ run edition o words
unfolding run
run_word edition place o word words is = ap (λ x. run edition x words) is

run_nothing : (edition : Edition) (o : Option Place) → run edition o [] ≡ o
unfolding run
run_nothing edition None = refl
run_nothing edition (Some place) = refl

walk_nothing : (edition : Edition) (count : ℕ) (place : Place)
    → walk edition count place [] ≡ record { count = count; place = place }
unfolding walk
walk_nothing edition count place = refl

stopped : (edition : Edition) (count : ℕ) (place : Place) (word : List ℕ)
    (words : List (List ℕ))
    → step edition place word ≡ None
    → IsWalk edition count place (word ∷ words) (record { count = count; place = place })
stopped edition count place word words is = record {
  more = 0;
  counted = omega arith;
  within = omega arith;
  runs = run_nothing edition (Some place);
  stops = λ _. run_word edition place None word [] is ∙ run_nothing edition None;
}

longer : (edition : Edition) (count : ℕ) (place next : Place) (word : List ℕ)
    (words : List (List ℕ)) (walked : Walked)
    → step edition place word ≡ Some next
    → IsWalk edition (count + 1) next words walked
    → IsWalk edition count place (word ∷ words) walked
longer edition count place next word words walked is ih = record {
  more = suc ih.more;
  counted = omega (arith, ih.counted);
  within = omega (arith, ih.within);
  runs = run_word edition place (Some next) word (take ih.more words) is ∙ ih.runs;
  stops = λ (h : suc ih.more < suc (length words)).
      let one : suc ih.more + 1 ≡ suc (ih.more + 1) = omega arith in
      let below : ih.more < length words = omega arith in
      rw one (run_word edition place (Some next) word (take (ih.more + 1) words) is
      ∙ ih.stops below);
}

walk_by : (edition : Edition) (count : ℕ) (place : Place) (word : List ℕ)
    (words : List (List ℕ)) (o : Option Place)
    → step edition place word ≡ o
    → ((next : Place) → IsWalk edition (count + 1) next words
    (walk edition (count + 1) next words))
    → IsWalk edition count place (word ∷ words)
    (onward count place o (λ next. walk edition (count + 1) next words))
walk_by edition count place word words None is ih = stopped edition count place word words is
walk_by edition count place word words (Some next) is ih =
    longer edition count place next word words (walk edition (count + 1) next words) is (ih next)

is_walk : (edition : Edition) (count : ℕ) (place : Place) (words : List (List ℕ))
    → IsWalk edition count place words (walk edition count place words)
is_walk edition count place [] =
    subst (IsWalk edition count place []) (sym (walk_nothing edition count place)) (record {
      more = 0;
      counted = omega arith;
      within = omega arith;
      runs = run_nothing edition (Some place);
      stops = λ h. absurd (omega arith);
    })
is_walk edition count place (word ∷ words) =
    subst (IsWalk edition count place (word ∷ words))
    (sym (walk_front edition count place (step edition place word) word words refl))
    (walk_by edition count place word words (step edition place word) refl
    (λ next. is_walk edition (count + 1) next words))

longest : (edition : Edition) (start : Place) (words : List (List ℕ)) (walked : Walked)
    → IsWalk edition 0 start words walked
    → IsLongest edition start words walked
longest edition start words walked is =
    let same : walked.count ≡ is.more = omega (arith, is.counted) in
    record {
      within = rw same is.within;
      begins = rw same (ap is_some is.runs);
      ends = rw same (λ h. ap is_some (is.stops h));
    }

pub caret_is_under_the_first : CaretIsUnderTheFirst
caret_is_under_the_first =
    λ edition start words. longest edition start words (walk edition 0 start words)
    (is_walk edition 0 start words)

any_fits : (word : List ℕ) (all : List Way)
    → is_some (first_fit word all) ≡ list_any (λ w. fits w.part word) all
any_fits word [] = refl
any_fits word (w ∷ others) =
    elim (cases_Bool (fits w.part word)) [
      | inl e ↦ rw e refl
      | inr e ↦ rw e (any_fits word others)
    ]

step_fits : (edition : Edition) (place : Place) (word : List ℕ)
    → is_some (step edition place word) ≡ list_any (λ w. fits w.part word) (ways edition place)
unfolding step
step_fits edition place word = any_fits word (ways edition place)

goes_on : (edition : Edition) (start : Place) (words : List (List ℕ)) (word : List ℕ)
    (walked : Walked)
    → IsWalk edition 0 start words walked
    → begun edition start (take walked.count words ++ word ∷ [])
    ≡ list_any (λ w. fits w.part word) (ways edition walked.place)
goes_on edition start words word walked is =
    let same : walked.count ≡ is.more = omega (arith, is.counted) in
    let front = take is.more words in
    rw same (ap is_some (run_append edition (Some start) front (word ∷ [])
    ∙ ap (λ o. run edition o (word ∷ [])) is.runs
    ∙ run_word edition walked.place (step edition walked.place word) word [] refl
    ∙ run_nothing edition (step edition walked.place word))
    ∙ step_fits edition walked.place word)

pub what_goes_on_is_expected : WhatGoesOnIsExpected
what_goes_on_is_expected =
    λ edition start words word. goes_on edition start words word (walk edition 0 start words)
    (is_walk edition 0 start words)
