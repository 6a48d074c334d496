-- Ways and words one after another, as loops go over them.
use Rattle.std.proofs.Common.{◌≡◌, ℕ, ◌+◌, ◌<◌, ◌≤◌, true, false, List, ◌∷◌, length, drop}
use Rattle.std.proofs.Common.{get_or, map, refl, sym, ap, ◌∙◌, arith, Option, Some, None, Bor}
use Rattle.std.proofs.lemmas.List.{length-map, drop_more, drop_all, get_or-map}
use Rattle.mrc_wiring_text.specs.declared.reading.Edition.{Edition}
use Rattle.mrc_line_hints.specs.declared.ways.Place.{Place}
use Rattle.mrc_line_hints.specs.declared.ways.Way.{Way}
use Rattle.mrc_line_hints.specs.Ways.{fits, first_fit, step}
use Rattle.mrc_line_hints.specs.Walks.{onward, walk}

-- ---- the first way that fits

pub front_fits : (word : List ℕ) (w : Way) (others : List Way)
    → fits w.part word ≡ true
    → first_fit word (w ∷ others) ≡ Some w.next
front_fits word w others e = rw e refl

pub front_does_not : (word : List ℕ) (w : Way) (others : List Way)
    → fits w.part word ≡ false
    → first_fit word (w ∷ others) ≡ first_fit word others
front_does_not word w others e = rw e refl

-- ---- words

pub walk_front : (edition : Edition) (i : ℕ) (place : Place) (o : Option Place) (word : List ℕ)
    (rest : List (List ℕ))
    → step edition place word ≡ o
    → walk edition i place (word ∷ rest)
    ≡ onward i place o (λ next. walk edition (i + 1) next rest)
unfolding walk
walk_front edition i place o word rest is =
    ap (λ x. onward i place x (λ next. walk edition (i + 1) next rest)) is

walk_at : (edition : Edition) (i : ℕ) (place : Place) (word : List ℕ) (words : List (List ℕ))
    → i < length words
    → word ≡ get_or words i word
    → walk edition i place (drop i words) ≡ walk edition i place (word ∷ drop (i + 1) words)
walk_at edition i place word words h is =
    ap (walk edition i place) (drop_more words i word h)
    ∙ ap (λ x. walk edition i place (x ∷ drop (i + 1) words)) (sym is)

abbrev said : List (Bor (List ℕ)) → List (List ℕ)
said words = map (λ (word : Bor (List ℕ)). word.now) words

word_at : (words : List (Bor (List ℕ))) (i j : ℕ) (d : Bor (List ℕ))
    → i ≡ j
    → j < length words
    → (get_or words j d).now ≡ get_or (said words) i (get_or words j d).now
word_at words i j d e h =
    sym (ap (λ k. get_or (said words) k (get_or words j d).now) e
    ∙ get_or-map (λ (word : Bor (List ℕ)). word.now) words j d (get_or words j d).now h)

within_said : (words : List (Bor (List ℕ))) (i j : ℕ)
    → i ≡ j
    → j < length words
    → i < length (said words)
within_said words i j e h =
    let same : length (said words) ≡ length words = length-map words (λ (w : Bor (List ℕ)). w.now)
    in
    omega arith

pub walk_on : (edition : Edition) (i j : ℕ) (place next : Place) (words : List (Bor (List ℕ)))
    (d : Bor (List ℕ))
    → i ≡ j
    → j < length words
    → step edition place (get_or words j d).now ≡ Some next
    → walk edition i place (drop i (said words))
    ≡ walk edition (i + 1) next (drop (i + 1) (said words))
walk_on edition i j place next words d e h is =
    let word = (get_or words j d).now in
    walk_at edition i place word (said words) (within_said words i j e h) (word_at words i j d e h)
    ∙ walk_front edition i place (Some next) word (drop (i + 1) (said words)) is

pub walk_stops : (edition : Edition) (i j : ℕ) (place : Place) (words : List (Bor (List ℕ)))
    (d : Bor (List ℕ))
    → i ≡ j
    → j < length words
    → step edition place (get_or words j d).now ≡ None
    → walk edition i place (drop i (said words)) ≡ record { count = i; place = place }
walk_stops edition i j place words d e h is =
    let word = (get_or words j d).now in
    walk_at edition i place word (said words) (within_said words i j e h) (word_at words i j d e h)
    ∙ walk_front edition i place None word (drop (i + 1) (said words)) is

pub walk_ends : (edition : Edition) (i j : ℕ) (place : Place) (words : List (Bor (List ℕ)))
    → i ≡ j
    → length words ≤ j
    → walk edition i place (drop i (said words)) ≡ record { count = i; place = place }
unfolding walk
walk_ends edition i j place words e h =
    let same : length (said words) ≡ length words = length-map words (λ (w : Bor (List ℕ)). w.now)
    in
    let past : length (said words) ≤ i = omega arith in
    ap (walk edition i place) (drop_all i (said words) past)
