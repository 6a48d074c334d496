use Rattle.std.proofs.Common.{List, ◌∙◌, ap, sym, subst, rules}
use Rattle.std.specs.Prelude.{◌||◌, ◌&&◌}
use Rattle.std.proofs.Math.Bool.{or-false}
use Rattle.mrc_facts.specs.Sets.{has}
use Rattle.mrc_rows.specs.Rows.{place_of}
use Rattle.mrc_rows.specs.Joining.{is_in_both}
use Rattle.mrc_base.specs.declared.Fact.{Fact}
use Rattle.mrc_rows.specs.Halves.{IsWhole}
use Rattle.mrc_rows.proofs.Wholes.{whole_as, one_whole}
use Rattle.mrc_rows.proofs.Kept.{whole_joined, kept_joined}
use Rattle.mrc_rows.proofs.facts.Facts.join.Goals as goal

pub invariant_of-self-inside : goal.invariant_of-self-inside
invariant_of-self-inside c =
    let was = c.self.inside in
    let old = whole_as was.rows was.others was.whole c.args.self.now c.self.view_is in (
      whole_joined was.rows was.others c.args.self.now old c.number_of.result c.args.more.now
          c.args.mask.now c.join.new.self c.join.result c.join.ensures.ok c.join.ensures.err
          c.join.ensures.ascending,
      tt,
    )

pub returns-in_err-join-clause-err : goal.returns-in_err-join-clause-err
returns-in_err-join-clause-err c =
    let was = c.self.inside in
    let old = whole_as was.rows was.others was.whole c.args.self.now c.self.view_is in
    let e = one_whole c.join.new.self was.others c.args.self.now c.self-1.given.0
    (subst (λ (fs : List Fact). IsWhole fs was.others c.args.self.now)
    (sym c.in_err-join.ensures.err) old) in
    search (rules, e)

pub returns-clause-ok : goal.returns-clause-ok
returns-clause-ok c =
    let was = c.self.inside in
    let old = whole_as was.rows was.others was.whole c.args.self.now c.self.view_is in
    kept_joined was.rows was.others c.args.self.now old c.number_of.result c.args.more.now
    c.args.mask.now c.join.new.self c.args.row c.number_of.ensures c.requires.few
    c.self-1.given.0 c.in_ok-join.ensures.ok

pub returns-clause-others : goal.returns-clause-others
returns-clause-others c = λ g of.
    returns-clause-ok c g
    ∙ (ap (λ b. has c.args.self.now g || (b && is_in_both c.args.more.now c.args.mask.now (place_of g)))
    of ∙ or-false (has c.args.self.now g))

pub returns-clause-before : goal.returns-clause-before
returns-clause-before c =
    let was = c.self.inside in
    (whole_as was.rows was.others was.whole c.args.self.now c.self.view_is).ascending

pub returns-clause-ascending : goal.returns-clause-ascending
returns-clause-ascending c = c.self-1.given.0.1.ascending
