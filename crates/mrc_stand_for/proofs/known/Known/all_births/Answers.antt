-- One kind more, and all kinds.
use Rattle.std.proofs.Common.{◌≡◌, ◌++◌, ap, sym, ◌∙◌, arith}
use Rattle.std.specs.List.{flat_map, range_with_len}
use Rattle.mrc_base.specs.Limits.{limit_of_kinds}
use Rattle.mrc_stand_for.specs.Known.{kind_classes}
use Rattle.mrc_stand_for.proofs.KindLemmas.{kinds_more}
use Rattle.mrc_stand_for.proofs.known.Known.all_births.Goals as goal

pub loop-number-preserved : goal.loop-number-preserved
loop-number-preserved c =
    c.in_ok-push_kind.ensures
    ∙ ap (λ xs. xs ++ kind_classes c.args.self.now c.args.task.now c.loop-number.number)
    c.loop-number.invariant
    ∙ sym (kinds_more (kind_classes c.args.self.now c.args.task.now) c.loop-number.number)

pub returns : goal.returns
returns c =
    c.loop-number.invariant
    ∙ ap (λ n. flat_map (kind_classes c.args.self.now c.args.task.now) (range_with_len 0 n))
    (let e : c.loop-number.number ≡ limit_of_kinds = omega arith in e)
