use Rattle.mrc_death.proofs.RightsLaws.{message_pushed}
use Rattle.mrc_death.proofs.going.add_message.Goals as goal

pub returns : goal.returns
returns c =
    message_pushed c.args.message.now c.reply.result c.arguments.result.now c.args.rights.now.items
    c.add_item.new.rights.items c.add_arguments.new.rights.items c.reply.ensures
    c.arguments.ensures.exact c.in_ok-add_item.ensures c.in_ok-add_arguments.ensures
