use Rattle.std.proofs.Common.{◌≡◌, ◌∙◌, sym, None, Some, Option, rules}
use Rattle.mrc_forms.specs.Tables.{form_of}
use Rattle.std.proofs.Common.{IfOk}
use Rattle.std.specs.Option.{MatchOption}
use Rattle.mrc_message_words.specs.Fitting.{IsHeard}
use Rattle.mrc_message_words.specs.Spoken.{form_by, Said, IsSaidOver}
use Rattle.mrc_message_words.proofs.Finding.{none_of_id, none_by_name, other_id, heard_ok}
use Rattle.mrc_message_words.proofs.hearing.said_by.Goals as goal

pub returns-in_default : goal.returns-in_default
returns-in_default c =
    let none : form_of c.args.kind c.args.interface.now c.header-id.result.id ≡ None = search rules in
    none_of_id c.args.interfaces.now c.args.kind c.args.interface.now c.args.message.now
    c.header-id.result.id c.ids-first.ensures.formed c.header-id.ensures.id none

pub returns-in_default-form_by : goal.returns-in_default-form_by
returns-in_default-form_by c =
    let is : form_of c.args.kind c.args.interface.now c.header-id.result.id
    ≡ Some c.in-Some.routine.now = search rules in
    let none : form_by c.args.interfaces.now c.args.kind c.args.interface.now.name
    c.in-Some.routine.now.name ≡ None = search rules in
    none_by_name c.args.interfaces.now c.args.kind c.args.interface.now c.args.message.now
    c.header-id.result.id c.in-Some.routine.now c.ids-first.ensures.formed c.header-id.ensures.id is
    none

pub returns-then-id : goal.returns-then-id
returns-then-id c =
    let is : form_of c.args.kind c.args.interface.now c.header-id.result.id
    ≡ Some c.in-Some.routine.now = search rules in
    let by : form_by c.args.interfaces.now c.args.kind c.args.interface.now.name
    c.in-Some.routine.now.name ≡ Some c.in-Some-form_by.form.now = search rules in
    other_id c.args.interfaces.now c.args.kind c.args.interface.now c.args.message.now
    c.header-id.result.id c.in-Some.routine.now c.in-Some-form_by.form.now c.ids-first.ensures.formed
    c.header-id.ensures.id is by
    (λ e. c.if-id.true (c.id.ensures ∙ e))

pub returns : goal.returns
returns c =
    let is : form_of c.args.kind c.args.interface.now c.header-id.result.id
    ≡ Some c.in-Some.routine.now = search rules in
    let by : form_by c.args.interfaces.now c.args.kind c.args.interface.now.name
    c.in-Some.routine.now.name ≡ Some c.in-Some-form_by.form.now = search rules in
    let said : IfOk c.said_over.result (λ (o : Option Said).
    MatchOption o
    ((said : Said) → said.kind ≡ c.args.kind
    → ¬ IsSaidOver c.in-Some-form_by.form.now said c.args.message.now)
    (λ said. IsHeard c.args.kind c.args.interface.now.name c.in-Some.routine.now.name said
    × IsSaidOver c.in-Some-form_by.form.now said c.args.message.now)) =
    rw (sym c.name-3.ensures, sym c.name-4.ensures) c.said_over.ensures in
    heard_ok c.args.interfaces.now c.args.kind c.args.interface.now c.args.message.now
    c.header-id.result.id c.in-Some.routine.now c.in-Some-form_by.form.now c.said_over.result
    c.ids-first.ensures.formed c.header-id.ensures.id is by said
