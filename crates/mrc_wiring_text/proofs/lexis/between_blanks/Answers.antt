-- What stands between blanks.
use Rattle.std.proofs.Common.{length, refl, rules}
use borrow.Author.Tests.{tests}
use Rattle.std.proofs.lemmas.Iterator.{length_from_collect}
use Rattle.std.proofs.lemmas.Iterator.Consumers.{YieldsList-from_filter, map_from_collect}
use Rattle.std.proofs.lemmas.Iterator.Splits.{YieldsList-from_slice_split}
use Rattle.mrc_wiring_text.specs.Lexis.{is_blank, is_filled, between_blanks}
use Rattle.mrc_wiring_text.proofs.lexis.between_blanks.Goals as goal

pub returns-clause-exact : goal.returns-clause-exact
unfolding between_blanks
returns-clause-exact c =
    map_from_collect _ c.collect.ensures.ran (YieldsList-from_filter _ is_filled
    (YieldsList-from_slice_split _ is_blank c.args.text.now (cc) (cc)
    (cc) (λ x b q k. search (rules, tests))) c.filter.ensures.closure
    (λ x b q k. search (rules, tests)))

pub returns-clause-count : goal.returns-clause-count
unfolding between_blanks
returns-clause-count c =
    length_from_collect _ (length (between_blanks c.args.text.now)) c.collect.ensures.ran
    (YieldsList-from_filter _ is_filled (YieldsList-from_slice_split _ is_blank
    c.args.text.now (cc) (cc) (cc) (λ x b q k. search (rules, tests)))
    c.filter.ensures.closure (λ x b q k. search (rules, tests))) refl
