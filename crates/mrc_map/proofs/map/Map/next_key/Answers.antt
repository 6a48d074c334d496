use Rattle.std.proofs.Common.{sym, ap, ◌∙◌}
use Rattle.std.specs.Option.{option_copied}
use Rattle.mrc_map.proofs.NextKeys.{none_below, last_below, last_above}
use Rattle.mrc_map.proofs.map.Map.next_key.Goals as goal

pub returns-in_default : goal.returns-in_default
returns-in_default g c =
    c.below.ensures
    ∙ none_below c.args.limit c.args.self.now _ c.entries.ensures
    (sym c.last.ensures.value ∙ ap option_copied c.in_default.is)

pub returns-then-limit-last : goal.returns-then-limit-last
returns-then-limit-last g c =
    last_above c.args.limit c.args.self.now _ c.entries.ensures c.in-Some.last.now
    (sym c.last.ensures.value ∙ ap option_copied c.in-Some.is) c.if-limit-last.true

pub returns : goal.returns
returns g c =
    c.below-2.ensures
    ∙ last_below c.args.limit c.args.self.now _ c.entries.ensures c.in-Some.last.now
    (sym c.last.ensures.value ∙ ap option_copied c.in-Some.is)
