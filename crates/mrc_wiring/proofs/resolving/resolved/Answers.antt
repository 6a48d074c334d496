use Rattle.std.proofs.Common.{rules, ◌∙◌, ◌+◌, ◌∷◌, ap, drop, subst, sym}
use Rattle.mrc_base.specs.Reading.{Refuses}
use Rattle.mrc_base.proofs.Steps.{refuses_then}
use Rattle.mrc_wiring.specs.Resolving.{add_line, add_lines}
use Rattle.mrc_wiring.specs.State.{State}
use Rattle.mrc_wiring.proofs.Steps.{next_is}
use Rattle.mrc_wiring.proofs.resolving.resolved.Goals as goal

-- the line that is refused is the first of those that are left
pub returns-in-Err-clause-exact : goal.returns-in-Err-clause-exact
returns-in-Err-clause-exact c =
    let lines = c.args.lines.now in
    let table = c.loop-line.resolving.table in
    let line = c.line-item.result in
    let rest = drop (c.loop-line.line-index + 1) lines in
    let left = next_is lines c.loop-line.line-index line (search rules)
    ∙ ap (λ l. l ∷ rest) (sym c.line-item.is) in (
      subst (Refuses c.in-Err.why) (sym (c.loop-line.invariant.told ∙ ap (add_lines table) left))
          (refuses_then c.in-Err.why (add_line table line.number line.says)
          (λ more. add_lines more rest) c.in-Err.ensures.exact),
      ap (λ (s : State). s.table.interfaces) c.resolving.view_is
          ∙ (c.in-Err.ensures.same ∙ c.loop-line.invariant.same),
    )
