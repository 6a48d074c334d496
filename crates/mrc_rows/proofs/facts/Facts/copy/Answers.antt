use Rattle.std.proofs.Common.{◌∙◌, ap}
use Rattle.std.specs.Prelude.{◌||◌}
use Rattle.mrc_facts.specs.Sets.{has}
use Rattle.mrc_facts.proofs.Members.{one_list}
use Rattle.mrc_rows.proofs.facts.Facts.copy.Goals as goal

pub returns : goal.returns
returns c =
    one_list c.join_all.new.self c.args.self.now c.join_all.ensures.ascending
    c.in_ok-join_all.ensures.other (λ g. c.in_ok-join_all.ensures.ok g
    ∙ ap (λ fs. has fs g || has c.args.self.now g) c.new-copy.ensures)
