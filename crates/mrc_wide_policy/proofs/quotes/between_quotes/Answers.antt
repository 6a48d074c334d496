-- What stands between quotes.
use Rattle.std.proofs.Common.{rules}
use borrow.Author.Tests.{tests}
use Rattle.std.proofs.lemmas.Iterator.Consumers.{map_from_collect}
use Rattle.std.proofs.lemmas.Iterator.Splits.{YieldsList-from_slice_split}
use Rattle.mrc_wide_policy.specs.Quotes.{is_quote}
use Rattle.mrc_wide_policy.proofs.quotes.between_quotes.Goals as goal

pub returns : goal.returns
returns c =
    map_from_collect _ c.collect.ensures.ran
    (YieldsList-from_slice_split _ is_quote c.args.line.now (cc) (cc) (cc)
    (λ x b q k. search (rules, tests)))
