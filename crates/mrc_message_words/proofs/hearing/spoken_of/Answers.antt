use Rattle.std.proofs.Common.{◌≡◌, Option, Some, subst}
use Rattle.mrc_message_words.specs.Spoken.{Said, IsSpoken, table_named}
use Rattle.std.specs.Option.{MatchOption}
use Rattle.mrc_message_words.proofs.Finding.{first_spoken, none_first, none_next, none_at_all}
use Rattle.mrc_message_words.proofs.hearing.spoken_of.Goals as goal

pub loop-interface-init : goal.loop-interface-init
loop-interface-init c = none_first c.args.interfaces.now c.args.message.now

pub loop-interface-preserved : goal.loop-interface-preserved
loop-interface-preserved c =
    let none =
    subst (λ (o : Option Said).
    MatchOption o
    ((said : Said) → table_named c.args.interfaces.now said.interface ≡ Some c.interface-item.result
    → ¬ IsSpoken c.args.interfaces.now said c.args.message.now)
    (λ said. (said.interface ≡ c.interface-item.result.name)
    × IsSpoken c.args.interfaces.now said c.args.message.now))
    c.in_default.is c.in_ok-said.ensures in
    none_next c.args.interfaces.now c.args.message.now c.loop-interface.interface-index
    c.interface-item.result c.loop-interface-test.true c.interface-item.is
    c.loop-interface.invariant none

pub returns-clause-words : goal.returns-clause-words
returns-clause-words c =
    none_at_all c.args.interfaces.now c.args.message.now c.loop-interface.interface-index
    c.loop-interface-test.false c.loop-interface.invariant

pub returns-in-Some-clause-first : goal.returns-in-Some-clause-first
returns-in-Some-clause-first c =
    let said =
    subst (λ (o : Option Said).
    MatchOption o
    ((said : Said) → table_named c.args.interfaces.now said.interface ≡ Some c.interface-item.result
    → ¬ IsSpoken c.args.interfaces.now said c.args.message.now)
    (λ said. (said.interface ≡ c.interface-item.result.name)
    × IsSpoken c.args.interfaces.now said c.args.message.now))
    c.in-Some.is c.in_ok-said.ensures in
    first_spoken c.args.interfaces.now c.in-Some.said c.args.message.now
    c.loop-interface.interface-index c.interface-item.result c.loop-interface-test.true
    c.interface-item.is said.0 said.1 c.loop-interface.invariant
