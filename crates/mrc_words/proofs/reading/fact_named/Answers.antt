use Rattle.std.proofs.Common.{◌∙◌, sym, ap}
use Rattle.mrc_words.specs.Reading.{fact_named}
use Rattle.mrc_words.proofs.FactWords.{found_facts, printed_is_read}
use Rattle.mrc_words.proofs.reading.fact_named.Goals as goal

pub returns-clause-found : goal.returns-clause-found
returns-clause-found c = found_facts c.args.wired.now c.args.text.now c.named.result c.named.ensures

pub returns-clause-only : goal.returns-clause-only
returns-clause-only c fact range text_is =
    c.named.ensures ∙ ap (fact_named c.args.wired.now) (sym text_is)
    ∙ printed_is_read c.args.wired.now c.tasks-tasks.ensures.named c.ports-ports.ensures.named
    c.tasks-tasks.ensures.kept.births c.birth_classes-births.ensures.kinds fact range
