use Rattle.std.proofs.Common.{◌∙◌, List, [], ap, subst}
use Rattle.std.specs.Prelude.{◌||◌}
use Rattle.mrc_base.specs.declared.Fact.{Fact}
use Rattle.mrc_model.specs.Wiring.{classes}
use Rattle.mrc_wiring.specs.Table.{wiring_of}
use Rattle.mrc_facts.specs.Order.{is_same}
use Rattle.mrc_facts.specs.Sets.{has}
use Rattle.mrc_classes.specs.Growing.{Added, Below}
use Rattle.mrc_classes.specs.Places.{AtPlace}
use Rattle.std.proofs.Math.Bool.{or-false}
use Rattle.mrc_classes.proofs.Following.{places_listed}
use Rattle.mrc_classes.proofs.conclude.conclude_from.Goals as goal

pub returns : goal.returns
returns c =
    let W = wiring_of c.args.rules.now in
    let all = has c.insert.new.self in
    let new = has c.insert-2.new.self in
    let found = c.conclude.new.found in
    places_listed W (has c.args.all.now) all new c.args.fact.now c.in_ok-_added.ensures.members
    (λ g. c.in_ok-_new.ensures.members g
    ∙ (ap (λ (fs : List Fact). is_same g c.args.fact.now || has fs g) c.new-new.ensures
    ∙ or-false (is_same g c.args.fact.now))) found
    (subst (λ (fs : List Fact). Added (has fs) (has found)
    (Below (classes W) (AtPlace W all new (has [])))) c.new-found.ensures
    (subst (λ (fs : List Fact). Added (has c.new-found.result) (has found)
    (Below (classes W) (AtPlace W all new (has fs)))) c.new-none.ensures c.in_ok-conclude.ensures))
