-- The first line ends at the first line feed, or with the text.
use Rattle.std.proofs.Common.{◌≡◌, ◌+◌, ◌∷◌, ◌∙◌, ap, sym, arith, take, drop, get_or}
use Rattle.std.proofs.lemmas.Bool.{eq-eqb, eqb-true}
use Rattle.std.proofs.lemmas.Str.{IsCharBoundary-after_ascii}
use Rattle.std.specs.List.{position_or_len}
use Rattle.mrc_wiring_text.specs.Lexis.{lines}
use Rattle.mrc_place.specs.Spots.{is_feed}
use Rattle.mrc_place.proofs.LineLemmas.{lines_cut, lines_whole, feed_at, feed_nowhere}
use Rattle.mrc_place.proofs.lines.cut_line.Goals as goal

pub split_at-requires-in-Some : goal.split_at-requires-in-Some
split_at-requires-in-Some c =
    let is : get_or c.args.text.now c.in-Some.at 0 ≡ 10 =
    ap (λ s. get_or s c.in-Some.at 0) (sym c.as_bytes.ensures.value)
    ∙ eqb-true (get_or c.as_bytes.result.now c.in-Some.at 0) 10 c.in-Some.ensures.1 in
    IsCharBoundary-after_ascii c.args.text.now c.in-Some.at c.utf8.text
    (omega (arith, c.in-Some.ensures.0.high, c.as_bytes.ensures.len)) (omega (arith, is))

pub returns-in-Some-clause-cut : goal.returns-in-Some-clause-cut
returns-in-Some-clause-cut c =
    let is : get_or c.args.text.now c.in-Some.at 0 ≡ 10 =
    ap (λ s. get_or s c.in-Some.at 0) (sym c.as_bytes.ensures.value)
    ∙ eqb-true (get_or c.as_bytes.result.now c.in-Some.at 0) 10 c.in-Some.ensures.1 in
    let place : position_or_len is_feed c.args.text.now ≡ c.in-Some.at =
    feed_at c.args.text.now c.in-Some.at
    (omega (arith, c.in-Some.ensures.0.high, c.as_bytes.ensures.len))
    (λ k h e. c.in-Some.ensures.0.before k (omega arith) h
    (eq-eqb (get_or c.as_bytes.result.now k 0) 10
    (ap (λ s. get_or s k 0) c.as_bytes.ensures.value ∙ e)))
    is in
    lines_cut c.args.text.now c.requires
    ∙ ap (λ n. take n c.args.text.now ∷ lines (drop (n + 1) c.args.text.now)) place
    ∙ ap (λ s. s ∷ lines (drop (c.in-Some.at + 1) c.args.text.now)) (sym c.split_at.ensures.front)
    ∙ ap (λ s. c.split_at.result.0.now ∷ lines s) (sym c.split_at-in-Some.ensures.back)

pub returns-in-None-clause-cut : goal.returns-in-None-clause-cut
returns-in-None-clause-cut c =
    lines_whole c.args.text.now c.requires
    (feed_nowhere c.args.text.now (λ k h e.
    c.in-None.ensures k (omega arith) (omega (arith, h, c.as_bytes.ensures.len))
    (eq-eqb (get_or c.as_bytes.result.now k 0) 10
    (ap (λ s. get_or s k 0) c.as_bytes.ensures.value ∙ e))))
