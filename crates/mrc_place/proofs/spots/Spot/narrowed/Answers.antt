-- The parts of the word, with what is around it, are the same line.
use Rattle.std.proofs.Common.{◌≡◌, ◌++◌, ◌∙◌, ap, take, string_bytes}
use Rattle.std.proofs.lemmas.List.{take-append-drop}
use Rattle.mrc_place.proofs.SpotLemmas.{narrowed_parts}
use Rattle.mrc_place.proofs.spots.Spot.narrowed.Goals as goal

pub returns : goal.returns
returns c text inside =
    let whole : c.split_at.result.0.now ++ c.split_at.result.1.now
    ≡ string_bytes c.args.self.now.word =
    ap (λ s. s ++ c.split_at.result.1.now) c.split_at.ensures.front
    ∙ ap (λ s. take c.floor_char_boundary-from.result c.as_str-word.result.now ++ s)
    c.split_at.ensures.back
    ∙ take-append-drop c.floor_char_boundary-from.result c.as_str-word.result.now
    ∙ c.as_str-word.ensures.value in
    let inner : c.split_at-2.result.0.now ++ c.split_at-2.result.1.now
    ≡ c.split_at.result.1.now =
    ap (λ s. s ++ c.split_at-2.result.1.now) c.split_at-2.ensures.front
    ∙ ap (λ s. take c.min.result c.split_at.result.1.now ++ s) c.split_at-2.ensures.back
    ∙ take-append-drop c.min.result c.split_at.result.1.now in
    record {
      number = inside.number;
      counted = inside.counted;
      first = inside.first;
      within = inside.within;
      parts = narrowed_parts _ _ _ _ _ _ _ _ _ _ whole inner
          (c.in_ok-joined.ensures
          ∙ ap (λ s. s ++ c.split_at.result.0.now) c.as_str.ensures.value)
          c.in_ok-from_str.ensures.ok
          (c.in_ok-joined-2.ensures
          ∙ ap (λ s. c.split_at-2.result.1.now ++ s) c.as_str-2.ensures.value)
          ∙ inside.parts;
    }
