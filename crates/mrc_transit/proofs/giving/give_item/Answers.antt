use Rattle.mrc_transit.proofs.GiveLaws.{given_null, given_dead, copied_out, not_copied_out}
use Rattle.mrc_transit.proofs.giving.give_item.Goals as goal

pub returns-in-Null-clause-given : goal.returns-in-Null-clause-given
returns-in-Null-clause-given c = λ s t. given_null s t c.args.giving.now.space c.args.item
    c.in-Null.is

pub returns-in-Dead-clause-given : goal.returns-in-Dead-clause-given
returns-in-Dead-clause-given c = λ s t. given_dead s t c.args.giving.now.space c.args.item
    c.in-Dead.is

pub returns-in-Right-clause-given : goal.returns-in-Right-clause-given
returns-in-Right-clause-given c =
    copied_out c.give.result c.args.giving.now.space c.give.new.self.space c.in-Right.port
    c.in-Right.right
    c.args.item c.in-Right.is c.give.ensures.ok

pub returns-in-Right-clause-refused : goal.returns-in-Right-clause-refused
returns-in-Right-clause-refused c =
    not_copied_out c.give.result c.args.giving.now.space c.in-Right.port c.in-Right.right
    c.args.item c.in-Right.is c.give.ensures.refused
