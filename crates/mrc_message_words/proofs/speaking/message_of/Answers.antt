use Rattle.std.proofs.Common.{rules}
use Rattle.mrc_message_words.proofs.Walking.{only_over}
use Rattle.mrc_message_words.proofs.speaking.message_of.Goals as goal

pub returns-clause-only : goal.returns-clause-only
returns-clause-only c =
    only_over c.args.interfaces.now c.args.said.now c.in-Some.form.now c.message_over.result
    (search rules)
    c.message_over.ensures.found c.message_over.ensures.fault
