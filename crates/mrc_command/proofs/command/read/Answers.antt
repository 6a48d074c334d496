use Rattle.std.proofs.Common.{◌≡◌, true, map, string_bytes, refl, sym, subst}
use Rattle.std.proofs.lemmas.Result.{IfErr-weaker, IfOk-weaker}
use Rattle.clap.specs.Words.{App, is_simple_and_free, takes}
use Rattle.mrc_command.specs.CommandLine.{machcheck_app}
use Rattle.mrc_command.proofs.CommandLaws.{meaning, memory_refuses, no_command}
use Rattle.mrc_command.proofs.CommandLaws.{read_told, refused}
use Rattle.mrc_command.proofs.command.read.Goals as goal

simple : is_simple_and_free machcheck_app ≡ true
simple = refl

pub returns-in-Err-clause-none : goal.returns-in-Err-clause-none
returns-in-Err-clause-none c =
    read_told _ _ _ c.clap_text.result c.in_ok-command.ensures
    (c.in-Err.ensures.kinds (subst (λ (a : App). is_simple_and_free a ≡ true)
    (sym c.in_ok-command.ensures) simple))
    c.clap_text.ensures.told

pub returns-in-Err-clause-taken : goal.returns-in-Err-clause-taken
returns-in-Err-clause-taken c taken =
    let words = map string_bytes c.args.words.now in
    memory_refuses _ _ (c.clap_text.ensures.memory (c.in-Err.ensures.passes
    (subst (λ (a : App). takes a words ≡ true) (sym c.in_ok-command.ensures) taken)))

pub returns-clause-command : goal.returns-clause-command
returns-clause-command c = IfOk-weaker c.request_of.result _ _
    (λ request is. meaning _ _ _ request c.in_ok-command.ensures c.in-Ok.ensures.matches is)
    c.request_of.ensures.request

pub returns-clause-none : goal.returns-clause-none
returns-clause-none c = IfErr-weaker c.request_of.result _ _
    (λ none is. no_command _ (map string_bytes c.args.words.now) none is)
    c.request_of.ensures.none

pub returns-clause-taken : goal.returns-clause-taken
returns-clause-taken c taken = IfErr-weaker c.request_of.result _ _
    (λ none is. refused _ _ _ none c.in_ok-command.ensures c.in-Ok.ensures.matches is)
    c.request_of.ensures.none
