use Rattle.std.proofs.Common.{◌≡◌, Ok, [], ◌∷◌, ◌++◌, refl, sym, ◌∙◌, ap, map, arith}
use Rattle.mrc_base.specs.Reading.{◌>>=◌}
use Rattle.mrc_mig_lex.specs.Tokens.{Lexeme}
use Rattle.mrc_mig_lex.proofs.LexingLaws.{left_is, within_text, at_token, at_gap, begins_char}
use Rattle.mrc_mig_lex.proofs.LexingLaws.{ends_char}
use Rattle.mrc_mig_symbols.specs.Symbols.{symbol_of}
use Rattle.mrc_mig_symbols.specs.Marks.{mark_of}
use Rattle.mrc_mig_symbols.proofs.MarkLemmas.{mark_on}
use Rattle.mrc_mig_symbols.proofs.tokens.marks_of.Goals as goal

-- a piece ends within the text
pub overflow_add-end-in-Some : goal.overflow_add-end-in-Some
overflow_add-end-in-Some c =
    let left = left_is _ _ c.loop-first.at _ _ c.as_bytes-bytes.ensures.value
    c.in-Some.ensures.cases.0 in
    let within = within_text (record { within = c.loop-first.invariant.0; same = refl }) left _
    (sym c.in_ok-piece.ensures) in
    omega (arith, within)

-- a token begins and ends between two characters
pub range-requires-clause-start_boundary : goal.range-requires-clause-start_boundary
range-requires-clause-start_boundary c _ =
    let left = left_is _ _ c.loop-first.at _ _ c.as_bytes-bytes.ensures.value
    c.in-Some.ensures.cases.0 in
    begins_char (record { within = c.loop-first.invariant.0; same = refl }) left _
    (sym c.in_ok-piece.ensures) (λ none. let some = c.in-Some-kind.is in cc)

pub range-requires-clause-end_boundary : goal.range-requires-clause-end_boundary
range-requires-clause-end_boundary c =
    let left = left_is _ _ c.loop-first.at _ _ c.as_bytes-bytes.ensures.value
    c.in-Some.ensures.cases.0 in
    ends_char (record { within = c.loop-first.invariant.0; same = refl }) left _ c.utf8.text
    (sym c.in_ok-piece.ensures) (λ none. let some = c.in-Some-kind.is in cc)

-- a token's mark is pushed
pub loop-first-preserved-in_ok-push : goal.loop-first-preserved-in_ok-push
unfolding symbol_of
loop-first-preserved-in_ok-push c =
    let left = left_is _ _ c.loop-first.at _ _ c.as_bytes-bytes.ensures.value
    c.in-Some.ensures.cases.0 in
    let found = sym c.in_ok-piece.ensures in
    let token : Lexeme = record {
      kind = c.in-Some-kind.kind;
      at = c.loop-first.at;
      bytes = c.range.result.now;
    } in
    let read = at_token (record { within = c.loop-first.invariant.0; same = refl }) left _ _ _ found
    c.in-Some-kind.is c.range.ensures.value in
    let pushed : c.push.new.self.items ≡ c.loop-first.marks.items ++ mark_of token ∷ [] =
    c.in_ok-push.ensures.items
    ∙ ap (λ s. c.loop-first.marks.items ++ record { symbol = s; at = c.loop-first.at } ∷ [])
    c.symbol_by-symbol.ensures in (
      within_text (record { within = c.loop-first.invariant.0; same = refl }) left _ found,
      rw pushed (mark_on c.args.text.now token c.loop-first.marks.items _ _ c.loop-first.invariant.1
          read),
    )

-- a blank or a comment leaves the marks as they are
pub loop-first-preserved : goal.loop-first-preserved
loop-first-preserved c =
    let left = left_is _ _ c.loop-first.at _ _ c.as_bytes-bytes.ensures.value
    c.in-Some.ensures.cases.0 in
    let on = at_gap (record { within = c.loop-first.invariant.0; same = refl }) left _
    (sym c.in_ok-piece.ensures) c.in_default-kind.not-Some in (
      on.within,
      c.loop-first.invariant.1
          ∙ ap (λ r. r >>= λ later. Ok (c.loop-first.marks.items ++ map mark_of later)) (sym on.same),
    )
