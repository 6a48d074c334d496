use Rattle.std.proofs.Common.{sym, ◌∙◌}
use Rattle.mrc_mig_tokens.specs.Reading.{left}
use Rattle.mrc_mig_types.specs.Table.{known}
use Rattle.mrc_mig_rows.proofs.PartLemmas.{last_of, next_of, closes_of}
use Rattle.mrc_mig_rows.proofs.parts.each_part_at.Goals as goal

pub returns-then-not-is_next-clause-parts : goal.returns-then-not-is_next-clause-parts
returns-then-not-is_next-clause-parts c =
    last_of (known c.args.types.now) c.loop-parts.parts.items c.push.new.self.items
    c.in_ok-part_at.field-0 (left c.loop-parts.rest) (left c.part_end-end.result) _
    c.in_ok-push.ensures.items c.in_ok-part_at.ensures c.part_end-end.ensures
    (sym c.is_next.ensures ∙ c.if-not-is_next.true) c.loop-parts.invariant.0

pub loop-parts-preserved : goal.loop-parts-preserved
loop-parts-preserved c =
    let goes = sym c.is_next.ensures ∙ c.if-not-is_next.false in (
      next_of (known c.args.types.now) c.loop-parts.parts.items c.push.new.self.items
          c.in_ok-part_at.field-0 (left c.loop-parts.rest) (left c.part_end-end.result)
          (left c.next-rest.result) _ c.in_ok-push.ensures.items c.in_ok-part_at.ensures
          c.part_end-end.ensures goes c.next-rest.ensures c.loop-parts.invariant.0,
      closes_of (left c.loop-parts.rest) (left c.part_end-end.result) (left c.next-rest.result) _
          c.part_end-end.ensures goes c.next-rest.ensures c.loop-parts.invariant.1,
    )
