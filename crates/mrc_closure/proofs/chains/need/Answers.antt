use Rattle.std.proofs.Common.{◌≡◌, Bool, true, false, refl, ap, sym, ◌∙◌}
use Rattle.std.specs.Prelude.{◌||◌}
use Rattle.mrc_facts.specs.Order.{is_same}
use Rattle.mrc_facts.specs.Sets.{has}
use Rattle.mrc_classes.specs.Instances.{premise_list}
use Rattle.mrc_closure.proofs.chains.need.Goals as goal

or_two : (a b x : Bool) → (a || (b || x)) ≡ ((a || (b || false)) || x)
or_two true b x = refl
or_two false true x = refl
or_two false false x = refl

pub returns-in_ok-_new-in-Two-2 : goal.returns-in_ok-_new-in-Two-2
returns-in_ok-_new-in-Two-2 c =
    λ g. let one = is_same g c.in-Two.one in
    let other = is_same g c.in-Two.other in
    c.in_ok-_new-in-Two-2.ensures.members g
    ∙ (ap (λ b. one || b) (c.in_ok-_new-in-Two.ensures.members g)
    ∙ (or_two one other (has c.args.needed.now g)
    ∙ ap (λ p. has (premise_list p) g || has c.args.needed.now g) (sym c.in-Two.is)))
