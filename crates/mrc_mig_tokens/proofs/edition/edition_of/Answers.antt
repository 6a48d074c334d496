use Rattle.std.proofs.Common.{◌≡◌, Some, refl, sym, ap, ◌∙◌, arith}
use Rattle.mrc_mig_lex.specs.declared.token.TokenKind.TheVariants.{Directive}
use Rattle.mrc_mig_lex.proofs.LexingLaws.{left_is, within_text}
use Rattle.mrc_mig_tokens.proofs.EditionLemmas.{behind_gap, behind_line}
use Rattle.mrc_mig_tokens.proofs.edition.edition_of.Goals as goal

-- a piece ends within the text
pub overflow_add-end-in-Some : goal.overflow_add-end-in-Some
overflow_add-end-in-Some c =
    let left = left_is _ _ c.loop-first.at _ _ c.as_bytes-bytes.ensures.value
    c.in-Some.ensures.cases.0 in
    let within = within_text (record { within = c.loop-first.invariant.0; same = refl }) left _
    (sym c.in-Ok.ensures) in
    omega (arith, within)

pub part_of-requires-clause-order : goal.part_of-requires-clause-order
part_of-requires-clause-order c = omega arith

pub part_of-requires-clause-within : goal.part_of-requires-clause-within
part_of-requires-clause-within c =
    let left = left_is _ _ c.loop-first.at _ _ c.as_bytes-bytes.ensures.value
    c.in-Some.ensures.cases.0 in
    let within = within_text (record { within = c.loop-first.invariant.0; same = refl }) left _
    (sym c.in-Ok.ensures) in
    rw c.as_bytes-bytes.ensures.value within

pub loop-first-preserved-in-None : goal.loop-first-preserved-in-None
loop-first-preserved-in-None c =
    let left = left_is _ _ c.loop-first.at _ _ c.as_bytes-bytes.ensures.value
    c.in-Some.ensures.cases.0 in
    let within = within_text (record { within = c.loop-first.invariant.0; same = refl }) left _
    (sym c.in-Ok.ensures) in (
      within,
      behind_gap c.args.text.now c.loop-first.at c.loop-first.fresh c.loop-first.edition _ _
          c.in-Ok.piece left (sym c.in-Ok.ensures) c.in-None.is
          ∙ c.loop-first.invariant.1,
    )

pub loop-first-preserved : goal.loop-first-preserved
loop-first-preserved c =
    let left = left_is _ _ c.loop-first.at _ _ c.as_bytes-bytes.ensures.value
    c.in-Some.ensures.cases.0 in
    let within = within_text (record { within = c.loop-first.invariant.0; same = refl }) left _
    (sym c.in-Ok.ensures) in
    let is = c.in-Some-Directive.is in
    let field = c.in-Some-Directive.field-0-is in
    let kind : c.in-Some-Directive.field-0 ≡ Directive = rw is at field in
    let some : c.in-Ok.piece.kind ≡ Some Directive = is ∙ ap (λ k. Some k) kind in (
      within,
      behind_line c.args.text.now c.loop-first.at c.loop-first.fresh c.loop-first.edition
          c.or-edition.result _ _ c.part_of.result.now c.in-Ok.piece left (sym c.in-Ok.ensures)
          some (rw c.as_bytes-bytes.ensures.value at c.part_of.ensures)
          (rw c.line_edition.ensures at c.or-edition.ensures)
          ∙ c.loop-first.invariant.1,
    )
