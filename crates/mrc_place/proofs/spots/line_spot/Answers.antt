-- The parts are the line.
use Rattle.std.proofs.Common.{◌≡◌, ◌++◌, ◌-◌, ◌∙◌, [], ap, sym, take, arith, string_bytes}
use Rattle.std.proofs.lemmas.List.{take-append-drop}
use Rattle.std.proofs.lemmas.Option.{get_or_from_slice_get}
use Rattle.mrc_wiring_text.specs.Lexis.{lines}
use Rattle.mrc_place.proofs.SpotLemmas.{line_found}
use Rattle.mrc_place.proofs.spots.line_spot.Goals as goal

pub returns : goal.returns
returns c text has =
    let there = line_found text c.args.line.now.number c.args.line.now.text.now has.1 in
    let whole : c.split_at.result.0.now ++ c.split_at.result.1.now ≡ c.args.line.now.text.now =
    ap (λ s. s ++ c.split_at.result.1.now) c.split_at.ensures.front
    ∙ ap (λ s. take c.floor_char_boundary-from.result c.args.line.now.text.now ++ s)
    c.split_at.ensures.back
    ∙ take-append-drop c.floor_char_boundary-from.result c.args.line.now.text.now in
    let inner : c.split_at-2.result.0.now ++ c.split_at-2.result.1.now
    ≡ c.split_at.result.1.now =
    ap (λ s. s ++ c.split_at-2.result.1.now) c.split_at-2.ensures.front
    ∙ ap (λ s. take c.min.result c.split_at.result.1.now ++ s) c.split_at-2.ensures.back
    ∙ take-append-drop c.min.result c.split_at.result.1.now in
    record {
      number = c.args.line.now.number;
      counted = omega (arith, c.type_inv.line);
      first = has.0;
      within = omega (arith, there);
      parts = ap (λ s. s ++ (string_bytes c.in_ok-from_str-2.field-0
          ++ string_bytes c.in_ok-from_str-3.field-0)) c.in_ok-from_str.ensures.ok
          ∙ ap (λ s. c.split_at.result.0.now ++ (s
          ++ string_bytes c.in_ok-from_str-3.field-0)) c.in_ok-from_str-2.ensures.ok
          ∙ ap (λ s. c.split_at.result.0.now ++ (c.split_at-2.result.0.now ++ s))
          c.in_ok-from_str-3.ensures.ok
          ∙ ap (λ s. c.split_at.result.0.now ++ s) inner
          ∙ whole
          ∙ sym (get_or_from_slice_get (lines text) (c.args.line.now.number - 1)
          c.args.line.now.text.now [] has.1);
    }
