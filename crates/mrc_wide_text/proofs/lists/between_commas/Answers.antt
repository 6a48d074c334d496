-- What stands between commas, as lists of words.
use Rattle.std.proofs.Common.{rules, Bor, List, ℕ}
use borrow.Author.Tests.{tests}
use Rattle.std.proofs.lemmas.Iterator.Consumers.{map_from_collect}
use Rattle.std.proofs.lemmas.Iterator.Splits.{YieldsList-from_slice_split}
use Rattle.mrc_wiring_text.specs.Lexis.{is_comma}
use Rattle.mrc_wiring_text.proofs.ItemLemmas.{at_parts}
use Rattle.mrc_wide_text.proofs.lists.between_commas.Goals as goal

pub returns : goal.returns
returns c =
    let found = map_from_collect _ c.collect.ensures.ran
    (YieldsList-from_slice_split _ (λ (w : Bor (List ℕ)). is_comma w.now) c.args.words.now (cc) (cc)
    (cc) (λ x b q k. search (rules, tests))) in
    at_parts c.collect.result c.args.words.now found
