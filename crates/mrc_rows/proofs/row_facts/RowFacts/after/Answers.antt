use Rattle.std.proofs.Common.{subst}
use Rattle.std.specs.Prelude.{IfSome, IfNone}
use Rattle.mrc_rows.specs.Rows.{IsFirstFrom, NoneFrom, start_group, start_key}
use Rattle.mrc_rows.proofs.Rows.{is_after}
use Rattle.mrc_rows.proofs.row_facts.RowFacts.after.Goals as goal

pub returns : goal.returns
returns c =
    let facts = c.args.self.now in
    let f = c.args.fact.now in
    let next = c.first_from.result in
    let group = c.start_of-group.result.0 in
    let found : IfSome next (IsFirstFrom facts (start_group f) (start_key f)) =
    subst (λ k. IfSome next (IsFirstFrom facts k (start_key f))) c.start_of-group.ensures.group
    (subst (λ i. IfSome next (IsFirstFrom facts group i)) c.start_of-group.ensures.key
    c.first_from.ensures.found) in
    let none : IfNone next (NoneFrom facts (start_group f) (start_key f)) =
    subst (λ k. IfNone next (NoneFrom facts k (start_key f))) c.start_of-group.ensures.group
    (subst (λ i. IfNone next (NoneFrom facts group i)) c.start_of-group.ensures.key
    c.first_from.ensures.none) in
    is_after facts c.first_from.ensures.ascending c.first_from.ensures.within f next found none
