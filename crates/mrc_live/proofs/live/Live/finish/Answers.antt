use Rattle.std.proofs.Common.{ap, sym, subst}
use Rattle.mrc_live.specs.Parts.{AllAreSeated, AreApart, EachIsItsPart, IsFinishFault}
use Rattle.mrc_live.specs.Waits.{OfficeState}
use Rattle.mrc_live.proofs.live.Live.finish.Goals as goal

-- the judge saw the seats as a slice, and the events before they were the journal
pub returns-in-None-clause-parts : goal.returns-in-None-clause-parts
returns-in-None-clause-parts g c =
    let seen = c.office.inside.desk.events in
    subst (λ es. EachIsItsPart c.args.seats.items es) (sym c.into_parts.ensures.journal)
    (subst (λ ss. EachIsItsPart ss seen) c.as_slice.ensures.value c.in-None.ensures.parts)

pub returns-in-None-clause-owners : goal.returns-in-None-clause-owners
returns-in-None-clause-owners g c =
    let seen = c.office.inside.desk.events in
    subst (λ es. AllAreSeated c.args.seats.items es) (sym c.into_parts.ensures.journal)
    (subst (λ ss. AllAreSeated ss seen) c.as_slice.ensures.value c.in-None.ensures.owners)

pub returns-in-None-clause-apart : goal.returns-in-None-clause-apart
returns-in-None-clause-apart g c =
    subst (λ ss. AreApart ss) c.as_slice.ensures.value c.in-None.ensures.apart

-- the desk that the judge saw is the one that comes back
pub returns-in-Some-clause-fault : goal.returns-in-Some-clause-fault
returns-in-Some-clause-fault g c =
    let seen = c.office.inside.desk in
    let fault = c.in-Some.fault in
    subst (λ d. IsFinishFault d c.args.self c.args.seats.items fault)
    (ap (λ (o : OfficeState). o.desk) c.office.view_is)
    (subst (λ ss. IsFinishFault seen c.args.self ss fault) c.as_slice.ensures.value
    (subst (λ case. IsFinishFault seen case c.as_slice.result.now fault) c.self.view_is
    c.in-Some.ensures.fault))
