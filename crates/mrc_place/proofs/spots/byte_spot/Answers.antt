-- The line of a place: what is before it up to a line feed, and what is behind it.
use Rattle.std.proofs.Common.{◌≡◌, ◌+◌, ◌-◌, ◌∙◌, ◌++◌, [], sym, ap, take, get_or, length}
use Rattle.std.proofs.Common.{count_by, string_bytes, arith}
use Rattle.std.specs.List.{before_first, after_last}
use Rattle.std.proofs.lemmas.List.{take-append-drop}
use Rattle.mrc_wiring_text.specs.Lexis.{lines}
use Rattle.mrc_place.specs.Spots.{is_feed}
use Rattle.mrc_place.proofs.LineLemmas.{feeds_within, line_of_place}
use Rattle.mrc_place.proofs.spots.byte_spot.Goals as goal

pub returns : goal.returns
returns c =
    let text = c.args.text.now in
    let from = c.floor_char_boundary-from.result in
    let front = c.split_at.result.0.now in
    let back = c.split_at.result.1.now in
    let rest = c.before_feed-rest.result.now in
    let word = string_bytes c.in_ok-from_str-2.field-0 in
    let after = string_bytes c.in_ok-from_str-3.field-0 in
    let whole : c.split_at.result.0.now ++ c.split_at.result.1.now ≡ c.args.text.now =
    ap (λ s. s ++ c.split_at.result.1.now) c.split_at.ensures.front
    ∙ ap (λ s. take c.floor_char_boundary-from.result c.args.text.now ++ s)
    c.split_at.ensures.back
    ∙ take-append-drop c.floor_char_boundary-from.result c.args.text.now in
    let behind : string_bytes c.in_ok-from_str-2.field-0
    ++ string_bytes c.in_ok-from_str-3.field-0 ≡ before_first is_feed c.split_at.result.1.now =
    ap (λ s. s ++ string_bytes c.in_ok-from_str-3.field-0)
    (c.in_ok-from_str-2.ensures.ok ∙ c.split_at-2.ensures.front)
    ∙ ap (λ s. take c.min.result c.before_feed-rest.result.now ++ s)
    (c.in_ok-from_str-3.ensures.ok ∙ c.split_at-2.ensures.back)
    ∙ take-append-drop c.min.result c.before_feed-rest.result.now ∙ c.before_feed-rest.ensures in
    let less : count_by is_feed c.split_at.result.0.now
    ≡ count_by is_feed c.split_at.result.0.now + 1 - 1 = omega arith in
    record {
      number = count_by is_feed c.split_at.result.0.now + 1;
      counted = omega (arith, c.line_after.ensures);
      first = omega arith;
      within = omega (arith, feeds_within front back, ap (λ s. length (lines s)) whole);
      parts = ap (λ s. s ++ (word ++ after)) (c.in_ok-from_str.ensures.ok ∙ c.after_feed.ensures)
          ∙ ap (λ s. after_last is_feed front ++ s) behind
          ∙ sym (line_of_place front back)
          ∙ ap (λ s. get_or (lines s) (count_by is_feed front) []) whole
          ∙ ap (λ n. get_or (lines text) n []) less;
    }
