use Rattle.std.proofs.Common.{sym, ◌∙◌}
use Rattle.mrc_rows.proofs.Wholes.{whole_as, whole_put_row, whole_put_other, row_put, other_put}
use Rattle.mrc_rows.proofs.facts.Facts.insert.Goals as goal

pub invariant_of-self-inside : goal.invariant_of-self-inside
invariant_of-self-inside c =
    let old = whole_as c.self.inside.rows c.self.inside.others c.self.inside.whole c.args.self.now c.self.view_is in
    (whole_put_row c.self.inside.rows c.insert.new.self c.self.inside.others c.args.self.now c.args.fact (sym c.is_within.ensures ∙ c.if-is_within.true) old c.insert.result c.insert.ensures.ok c.insert.ensures.err, tt)

pub invariant_of-self-inside-else-is_within : goal.invariant_of-self-inside-else-is_within
invariant_of-self-inside-else-is_within c =
    let old = whole_as c.self.inside.rows c.self.inside.others c.self.inside.whole c.args.self.now c.self.view_is in
    (whole_put_other c.self.inside.rows c.self.inside.others c.insert-else-is_within.new.self c.args.self.now c.args.fact (sym c.is_within.ensures ∙ c.if-is_within.false) old c.insert-else-is_within.result c.insert-else-is_within.ensures.ok c.insert-else-is_within.ensures.err, tt)

pub returns-then-is_within-clause-added : goal.returns-then-is_within-clause-added
returns-then-is_within-clause-added c =
    let old = whole_as c.self.inside.rows c.self.inside.others c.self.inside.whole c.args.self.now c.self.view_is in
    (row_put c.self.inside.rows c.insert.new.self c.self.inside.others c.args.self.now c.args.fact (sym c.is_within.ensures ∙ c.if-is_within.true) old c.insert.result c.insert.ensures.added c.insert.ensures.ok c.insert.ensures.err c.self-1.given.0).added

pub returns-then-is_within-clause-ok : goal.returns-then-is_within-clause-ok
returns-then-is_within-clause-ok c =
    let old = whole_as c.self.inside.rows c.self.inside.others c.self.inside.whole c.args.self.now c.self.view_is in
    (row_put c.self.inside.rows c.insert.new.self c.self.inside.others c.args.self.now c.args.fact (sym c.is_within.ensures ∙ c.if-is_within.true) old c.insert.result c.insert.ensures.added c.insert.ensures.ok c.insert.ensures.err c.self-1.given.0).ok

pub returns-then-is_within-clause-err : goal.returns-then-is_within-clause-err
returns-then-is_within-clause-err c =
    let old = whole_as c.self.inside.rows c.self.inside.others c.self.inside.whole c.args.self.now c.self.view_is in
    (row_put c.self.inside.rows c.insert.new.self c.self.inside.others c.args.self.now c.args.fact (sym c.is_within.ensures ∙ c.if-is_within.true) old c.insert.result c.insert.ensures.added c.insert.ensures.ok c.insert.ensures.err c.self-1.given.0).err

pub returns-then-is_within-clause-members : goal.returns-then-is_within-clause-members
returns-then-is_within-clause-members c =
    let old = whole_as c.self.inside.rows c.self.inside.others c.self.inside.whole c.args.self.now c.self.view_is in
    (row_put c.self.inside.rows c.insert.new.self c.self.inside.others c.args.self.now c.args.fact (sym c.is_within.ensures ∙ c.if-is_within.true) old c.insert.result c.insert.ensures.added c.insert.ensures.ok c.insert.ensures.err c.self-1.given.0).members

pub returns-then-is_within-clause-len : goal.returns-then-is_within-clause-len
returns-then-is_within-clause-len c =
    let old = whole_as c.self.inside.rows c.self.inside.others c.self.inside.whole c.args.self.now c.self.view_is in
    (row_put c.self.inside.rows c.insert.new.self c.self.inside.others c.args.self.now c.args.fact (sym c.is_within.ensures ∙ c.if-is_within.true) old c.insert.result c.insert.ensures.added c.insert.ensures.ok c.insert.ensures.err c.self-1.given.0).len

pub returns-then-is_within-clause-ascending : goal.returns-then-is_within-clause-ascending
returns-then-is_within-clause-ascending c =
    let old = whole_as c.self.inside.rows c.self.inside.others c.self.inside.whole c.args.self.now c.self.view_is in
    (row_put c.self.inside.rows c.insert.new.self c.self.inside.others c.args.self.now c.args.fact (sym c.is_within.ensures ∙ c.if-is_within.true) old c.insert.result c.insert.ensures.added c.insert.ensures.ok c.insert.ensures.err c.self-1.given.0).ascending

pub returns-else-is_within-clause-added : goal.returns-else-is_within-clause-added
returns-else-is_within-clause-added c =
    let old = whole_as c.self.inside.rows c.self.inside.others c.self.inside.whole c.args.self.now c.self.view_is in
    (other_put c.self.inside.rows c.self.inside.others c.insert-else-is_within.new.self c.args.self.now c.args.fact (sym c.is_within.ensures ∙ c.if-is_within.false) old c.insert-else-is_within.result c.insert-else-is_within.ensures.added c.insert-else-is_within.ensures.ok c.insert-else-is_within.ensures.err c.self-else-is_within-1.given.0).added

pub returns-else-is_within-clause-ok : goal.returns-else-is_within-clause-ok
returns-else-is_within-clause-ok c =
    let old = whole_as c.self.inside.rows c.self.inside.others c.self.inside.whole c.args.self.now c.self.view_is in
    (other_put c.self.inside.rows c.self.inside.others c.insert-else-is_within.new.self c.args.self.now c.args.fact (sym c.is_within.ensures ∙ c.if-is_within.false) old c.insert-else-is_within.result c.insert-else-is_within.ensures.added c.insert-else-is_within.ensures.ok c.insert-else-is_within.ensures.err c.self-else-is_within-1.given.0).ok

pub returns-else-is_within-clause-err : goal.returns-else-is_within-clause-err
returns-else-is_within-clause-err c =
    let old = whole_as c.self.inside.rows c.self.inside.others c.self.inside.whole c.args.self.now c.self.view_is in
    (other_put c.self.inside.rows c.self.inside.others c.insert-else-is_within.new.self c.args.self.now c.args.fact (sym c.is_within.ensures ∙ c.if-is_within.false) old c.insert-else-is_within.result c.insert-else-is_within.ensures.added c.insert-else-is_within.ensures.ok c.insert-else-is_within.ensures.err c.self-else-is_within-1.given.0).err

pub returns-else-is_within-clause-members : goal.returns-else-is_within-clause-members
returns-else-is_within-clause-members c =
    let old = whole_as c.self.inside.rows c.self.inside.others c.self.inside.whole c.args.self.now c.self.view_is in
    (other_put c.self.inside.rows c.self.inside.others c.insert-else-is_within.new.self c.args.self.now c.args.fact (sym c.is_within.ensures ∙ c.if-is_within.false) old c.insert-else-is_within.result c.insert-else-is_within.ensures.added c.insert-else-is_within.ensures.ok c.insert-else-is_within.ensures.err c.self-else-is_within-1.given.0).members

pub returns-else-is_within-clause-len : goal.returns-else-is_within-clause-len
returns-else-is_within-clause-len c =
    let old = whole_as c.self.inside.rows c.self.inside.others c.self.inside.whole c.args.self.now c.self.view_is in
    (other_put c.self.inside.rows c.self.inside.others c.insert-else-is_within.new.self c.args.self.now c.args.fact (sym c.is_within.ensures ∙ c.if-is_within.false) old c.insert-else-is_within.result c.insert-else-is_within.ensures.added c.insert-else-is_within.ensures.ok c.insert-else-is_within.ensures.err c.self-else-is_within-1.given.0).len

pub returns-else-is_within-clause-ascending : goal.returns-else-is_within-clause-ascending
returns-else-is_within-clause-ascending c =
    let old = whole_as c.self.inside.rows c.self.inside.others c.self.inside.whole c.args.self.now c.self.view_is in
    (other_put c.self.inside.rows c.self.inside.others c.insert-else-is_within.new.self c.args.self.now c.args.fact (sym c.is_within.ensures ∙ c.if-is_within.false) old c.insert-else-is_within.result c.insert-else-is_within.ensures.added c.insert-else-is_within.ensures.ok c.insert-else-is_within.ensures.err c.self-else-is_within-1.given.0).ascending
